use Rattle.std.proofs.Common.{◌≡◌, take}
use Rattle.authorities.specs.Gathering.{AreMarked, Gathers}
use Rattle.authorities.proofs.gathering.gather_values.Given as goal

abbrev pub invariant-loop-id : goal.invariant-loop-id
invariant-loop-id l = record {
  gathers : Gathers l.store.values (take l.id-index l.ids) l.state l.fn.gathering.greatest.items l.gathering.greatest.items;
  marked : AreMarked l.store.values l.gathering.greatest.items l.gathering.values.items;
  same_parts : l.gathering.parts.items ≡ l.fn.gathering.parts.items;
}
