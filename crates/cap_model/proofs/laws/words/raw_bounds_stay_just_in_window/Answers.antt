-- Outside the window the region is another one.
use Rattle.cap_model.proofs.Bounds.WindowsEnd.{same_bounds_in_window, same_base_in_window}
use Rattle.cap_model.proofs.laws.words.raw_bounds_stay_just_in_window.Goals as goal

pub returns-clause-bounds : goal.returns-clause-bounds
returns-clause-bounds c = same_bounds_in_window

pub returns-clause-base_alone : goal.returns-clause-base_alone
returns-clause-base_alone c = same_base_in_window
