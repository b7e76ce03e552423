-- no hart so far stands for the hart and holds just these rights
use Rattle.std.proofs.Common.{◌≡◌, ℕ, ◌<◌, get_or}
use Rattle.std.specs.Prelude.{true}
use Rattle.cheri_model.specs.runs.Machine.{no_hart}
use Rattle.explore_rights.specs.Held.{Holds, held_by}
use Rattle.hart_exchanges.specs.Exchanges.{stands_for}
use Rattle.alike_authority.proofs.exchanging.holder_of.Given as goal

abbrev pub invariant-loop-other : goal.invariant-loop-other
invariant-loop-other l = (k : ℕ) → k < l.other → stands_for l.groups l.hart k ≡ true →
    Holds (held_by (get_or l.harts k no_hart)) l.rights → ⊥
