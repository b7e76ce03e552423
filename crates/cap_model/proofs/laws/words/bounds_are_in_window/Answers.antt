-- The bounds are less than the window long, and begin within a step of its first.
use Rattle.cap_model.proofs.Bounds.WindowsHold.{in_bounds_in_window}
use Rattle.cap_model.proofs.laws.words.bounds_are_in_window.Goals as goal

pub returns : goal.returns
returns c = in_bounds_in_window
