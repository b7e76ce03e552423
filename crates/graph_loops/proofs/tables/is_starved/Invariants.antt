use Rattle.std.proofs.Common.{◌≡◌, ℕ, ◌<◌, true, false}
use Rattle.graph_loops.specs.Scans.{entry}
use Rattle.graph_loops.proofs.tables.is_starved.Given as goal

abbrev pub invariant-loop-actor : goal.invariant-loop-actor
invariant-loop-actor l =
    l.still ≡ true → (m : ℕ) → m < l.actor → entry l.moves l.actors l.number m ≡ false
