-- How the greatest rights of two holders are made one list.
use Rattle.std.specs.Prelude.{◌≡◌, ◌≤◌, nat_le, List, Bool, true, if◌then◌else◌}
use Rattle.authorities.specs.Gathering.{AreApart, IsCovered, IsIn}
use Rattle.authorities.specs.declared.rights.Authority.{Authority}
use Rattle.explore_rights.specs.Rights.{is_within}

-- whether rights stay beside new ones: all but those that lie within these and were held later
unfoldable pub stays_beside : Authority → Authority → Bool
stays_beside new held =
    if is_within held.rights new.rights then nat_le held.first new.first else true

-- The greatest of all these: each is one of them, all lie within some, and none was held later than
-- one within which it lies.
pub record IsMerged (all list : List Authority) : Type 0 where
  pub from : (a : Authority) → IsIn a list → IsIn a all
  pub covered : (a : Authority) → IsIn a all → IsCovered list a.rights
  pub least : (a b : Authority) → IsIn a list → IsIn b all → is_within a.rights b.rights ≡ true →
      a.first ≤ b.first
  pub apart : AreApart list
