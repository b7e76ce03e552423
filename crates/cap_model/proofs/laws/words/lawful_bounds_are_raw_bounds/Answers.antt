-- The raw bounds at each address of the window are the bounds, and its own address is one.
use Rattle.cap_model.proofs.Words.WordsBack.{raw_base_of_upper, raw_top_of_upper}
use Rattle.cap_model.proofs.laws.words.lawful_bounds_are_raw_bounds.Goals as goal

pub returns-clause-base : goal.returns-clause-base
returns-clause-base c = λ cap h. raw_base_of_upper cap h cap.addr h.in_window

pub returns-clause-top : goal.returns-clause-top
returns-clause-top c = λ cap h. raw_top_of_upper cap h cap.addr h.in_window
