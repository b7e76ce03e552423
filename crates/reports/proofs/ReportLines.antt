-- One register more of a hart.
use Rattle.std.proofs.Common.{◌≡◌, ℕ, suc, ◌+◌, List, ◌++◌, append_assoc}
use Rattle.std.proofs.lemmas.List.{append-nil}
use Rattle.cheri_model.specs.steps.Hart.{HartState, register}
use Rattle.report_lines.specs.Lines.{register_line}
use Rattle.reports.specs.Report.{register_lines}

-- the text so far and that of the registers from one on stay the same when that one is written; `more` are left before
pub register_step : (hart : HartState) (number which more count : ℕ) (before after all : List ℕ)
    → more ≡ suc count → which ≡ number
    → after ≡ before ++ register_line number (register hart which)
    → before ++ register_lines hart number more ≡ all
    → after ++ register_lines hart (number + 1) count ≡ all
unfolding register_lines
register_step hart number which more count before after all one_more same written whole =
    rw (written, same, append_assoc) (rw one_more at whole)

pub register_end : (hart : HartState) (number none : ℕ) (before all : List ℕ)
    → none ≡ 0 → before ++ register_lines hart number none ≡ all → before ≡ all
unfolding register_lines
register_end hart number none before all no_more whole = rw append-nil at (rw no_more at whole)
