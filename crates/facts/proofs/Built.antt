-- The lines of CBuildCap's table, of which no word meets the one on its alignment.
use Rattle.std.proofs.Common.{◌≡◌, ℕ, ◌-◌, ◌^◌, ◌≤◌, Bool, true, false, refl, sym, ◌∙◌, ap, arith}
use Rattle.std.specs.Prelude.{not, nat_lt, if◌then◌else◌, Option, Some, None, is_none}
use Rattle.std.proofs.lemmas.Bool.Decides.{nat_tests}
use Rattle.cap_model.specs.values.CapValue.{CapValue, valid, raw, IsLawfulValue, tag_of}
use Rattle.cap_model.specs.results.Addresses.{address_of, keeps_bounds}
use Rattle.cap_model.specs.results.Readings.{base_of, top_of}
use Rattle.cap_model.specs.results.CapInstructions as cap
use Rattle.cap_model.specs.results.Reasons.{reasons}
use Rattle.cap_model.specs.results.Rebuilt.{are_aligned, build}
use Rattle.cap_model.specs.bounds.Lengths.{alignment}
use Rattle.cheri_model.proofs.Runs.Fetches.{not_false}
use Rattle.facts.specs.declared.operands.Operands.{Operands}
use Rattle.facts.specs.declared.why.Why.{Why}
use Rattle.facts.specs.declared.why.Why.TheVariants as why
use Rattle.facts.specs.Losses.{first_why, why_of, why_lost, outside_region}
use Rattle.facts.specs.Whys.{first_of, not_open, rebuilt_outside, more_permissions, not_buildable}
use Rattle.facts.proofs.Aligned.{rebuilt_aligned}
use Rattle.facts.proofs.Reasons.{kept_without_why}

first_if : (b : Bool) (reason : Why) (rest later : Option Why) →
    first_of (if b then Some reason else rest) later ≡ (if b then Some reason else first_of rest later)
first_if true reason rest later = refl
first_if false reason rest later = refl

-- the lines on what a capability can encode
abbrev last_lines : Operands → Option Why
last_lines o =
    if not (are_aligned (base_of o.w) (top_of o.w)) then Some (why.NotAligned (alignment (top_of o.w - base_of o.w)))
    else if not (keeps_bounds o.w (address_of o.w)) then Some (outside_region (base_of o.w) (top_of o.w) (address_of o.w))
    else None

build_lines : (o : Operands) → first_of (not_buildable o) (last_lines o) ≡ why_lost cap.CBuildCap o
unfolding why_lost first_why why_of reasons
build_lines o = simp first_if refl

-- the first of those lines is the first of the table
pub first_line : (o : Operands) (reason : Why) → not_buildable o ≡ Some reason → Some reason ≡ why_lost cap.CBuildCap o
first_line o reason is = ap (λ first. first_of first (last_lines o)) (sym is) ∙ build_lines o

from_first : (a b : Option Why) → first_of a b ≡ None → (a ≡ None) × (b ≡ None)
from_first None b none = (refl, none)
from_first (Some x) b none = absurd (cc)

none_if : (b : Bool) (reason : Why) (rest : Option Why) → (if b then Some reason else rest) ≡ None → (b ≡ false) × (rest ≡ None)
none_if true reason rest none = absurd (cc)
none_if false reason rest none = (refl, none)

-- what a word is that could be rebuilt otherwise
pub record IsBuildable (o : Operands) : Type 0 where
  pub tagged : tag_of o.v ≡ true
  pub within : top_of o.w ≤ top_of o.v
  pub ordered : base_of o.w ≤ top_of o.w

not_less : (a b : ℕ) → nat_lt a b ≡ false → b ≤ a
not_less a b is = grind (arith, nat_tests)

pub buildable : (o : Operands) → not_buildable o ≡ None → IsBuildable o
buildable o none =
    let lines = from_first (not_open o) _ none in
    let open_lines = none_if (not (tag_of o.v)) _ _ lines.0 in
    let later = none_if _ _ _ lines.1 in
    let range = from_first (rebuilt_outside o) (more_permissions o) later.1 in
    let base = none_if (nat_lt (base_of o.w) (base_of o.v)) _ _ range.0 in
    let top = none_if (nat_lt (top_of o.v) (top_of o.w)) _ _ base.1 in
    let order = none_if (nat_lt (top_of o.w) (base_of o.w)) _ _ top.1 in
    record {
      tagged = not_false _ open_lines.0;
      within = not_less _ _ top.0;
      ordered = not_less _ _ order.0;
    }

pub top_at_most : (v : CapValue) → IsLawfulValue v → tag_of v ≡ true → top_of v ≤ 2 ^ 64
top_at_most (valid c) lawful tagged = lawful.top_at_most
top_at_most (raw word) lawful tagged = absurd (cc)

-- a tagged result has no reason
none_of : (reason : Option Why) → is_none reason ≡ true → None ≡ reason
none_of None is = refl
none_of (Some x) is = absurd (cc)

pub no_line : (o : Operands) → IsLawfulValue o.v → tag_of (build o.v o.w) ≡ true → None ≡ why_lost cap.CBuildCap o
unfolding cap.capability_result
no_line o lawful tagged = none_of _ (sym (kept_without_why cap.CBuildCap o lawful) ∙ tagged)

-- and one without a tag that no other line explains has the last
by_bounds : (b : Bool) (reason : Why) (lost : Option Why) → lost ≡ (if not b then Some reason else None) → is_none lost ≡ false → Some reason ≡ lost
by_bounds true reason lost is some = absurd (cc)
by_bounds false reason lost is some = sym is

pub last_line : (o : Operands) → IsLawfulValue o.v → IsLawfulValue o.w → not_buildable o ≡ None → tag_of (build o.v o.w) ≡ false →
    Some (outside_region (base_of o.w) (top_of o.w) (address_of o.w)) ≡ why_lost cap.CBuildCap o
unfolding cap.capability_result
last_line o lawful_v lawful_w none untagged =
    let is = buildable o none in
    let aligned = rebuilt_aligned o.v o.w lawful_v lawful_w is.tagged is.within in
    let lines : why_lost cap.CBuildCap o ≡ last_lines o = sym (build_lines o) ∙ ap (λ first. first_of first (last_lines o)) none in
    let last : last_lines o ≡ (if not (keeps_bounds o.w (address_of o.w)) then Some (outside_region (base_of o.w) (top_of o.w) (address_of o.w)) else None) = rw aligned refl in
    by_bounds (keeps_bounds o.w (address_of o.w)) _ _ (lines ∙ last) (sym (kept_without_why cap.CBuildCap o lawful_v) ∙ untagged)
