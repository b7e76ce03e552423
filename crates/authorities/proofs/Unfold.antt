-- Names for `unfolding(..)` that open what their own line names.
use Rattle.std.specs.Prelude.{ℕ, Bool, List}
use Rattle.explore_rights.specs.declared.rights.Rights.{Rights}
use Rattle.authorities.specs.declared.rights.Authority.{Authority}
use Rattle.authorities.specs.Gathering.{stays, is_covered, with_rights}

unfoldable pub rights : Rights → Bool → Authority → Bool
unfolding stays
rights new before a = stays new before a

unfoldable pub lists : List Authority → Rights → ℕ → List Authority
unfolding stays is_covered with_rights
lists list r first = with_rights list r first
