-- the lists so far are told
use Rattle.std.proofs.Common.{◌≡◌, ℕ, length}
use Rattle.std.specs.Prelude.{IfSome, slice_get}
use Rattle.alike_authority.specs.AlikeAuthority.{IsHartList}
use Rattle.alike_authority.proofs.told.hart_lists.Given as goal

abbrev pub invariant-loop-hart : goal.invariant-loop-hart
invariant-loop-hart l = record {
  count : length l.lists.items ≡ l.hart;
  lists : (n : ℕ) → IfSome (slice_get l.lists.items n) (λ told. IsHartList l.survey n told.items);
}
