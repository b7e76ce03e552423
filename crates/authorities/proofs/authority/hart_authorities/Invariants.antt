use Rattle.std.proofs.Common.{◌≡◌, ℕ, length}
use Rattle.std.specs.Prelude.{IfSome, slice_get}
use Rattle.graph_search.specs.Trees.{state_at}
use Rattle.states.specs.Graphs.{state_in}
use Rattle.authorities.specs.Authorities.{AreGreatest, hart_values}
use Rattle.authorities.proofs.authority.hart_authorities.Given as goal

abbrev pub invariant-loop-number : goal.invariant-loop-number
invariant-loop-number l = record {
  count : length l.lists.items ≡ l.number;
  lists : (n : ℕ) → IfSome (slice_get l.lists.items n) (λ list.
      AreGreatest (state_at (state_in l.graph) l.found.nodes) (hart_values n) list.items);
}
