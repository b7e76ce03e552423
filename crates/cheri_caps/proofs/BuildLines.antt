-- CBuildCap's table: the lines on what a word says, then two on what a capability can encode. No word meets the first of
-- these, and the other is tested by making a capability of what the word says.
use Rattle.std.proofs.Common.{◌≡◌, ℕ, ◌/◌, ◌%◌, ◌^◌, ◌≤◌, ◌-◌, ◌==◌, Bool, true, false, not, List, [], ◌∷◌, ◌++◌, refl, sym, ap, ◌∙◌, arith}
use Rattle.std.specs.Prelude.{◌&&◌, nat_lt, take, drop, Option, None, Some, is_none, Result, Ok, Err, if◌then◌else◌}
use Rattle.std.proofs.lemmas.Bool.Decides.{nat_tests}
use Rattle.cap_model.specs.declared.reason.Reason.{Reason}
use Rattle.cap_model.specs.declared.reason.Reason.TheVariants.{SourceUntagged, SourceSealed, ReservedBits, BaseBelow, TopAbove, BaseAboveTop, NotAligned, NotRepresentable}
use Rattle.cap_model.specs.words.Fields.{word_reserved}
use Rattle.cap_model.specs.values.Capability.{capability_at, unsealed_type}
use Rattle.cap_model.specs.values.CapValue.{CapValue, valid, raw, IsLawfulValue, bits_of, parts_of, tag_of}
use Rattle.cap_model.specs.results.Addresses.{address_of, keeps_bounds}
use Rattle.cap_model.specs.results.CapInstructions.{CBuildCap, capability_result}
use Rattle.cap_model.specs.results.Readings.{base_of, top_of, is_sealed, permissions_of}
use Rattle.cap_model.specs.results.Reasons.{build_reasons, first_reason, no_reason, reasons}
use Rattle.cap_model.specs.results.Rebuilt.{are_aligned, build}
use Rattle.cap_model.proofs.Bounds.RawAligned.{raw_bounds_aligned}
use Rattle.cap_model.specs.bounds.Window.{is_in_window}
use Rattle.cap_ops.specs.declared.making.MakeFault.{MakeFault}
use Rattle.cap_ops.specs.Making.{made}
use Rattle.cap_ops.proofs.BuiltAgain.{not_made}
use Rattle.cap_model.proofs.Results.ReasonTables.{tag_kept}
use Rattle.cheri_caps.proofs.ReasonLemmas.{line_later, none_alone}

-- a line that holds among the first of a table is the whole table's
some_line : (holds : Bool) (line : Reason) (rest later : List (Bool × Reason)) (reason : Reason) →
    (first_reason rest ≡ Some reason → first_reason (rest ++ later) ≡ Some reason) →
    first_reason ((holds, line) ∷ rest) ≡ Some reason → first_reason ((holds, line) ∷ rest ++ later) ≡ Some reason
unfolding first_reason
some_line true line rest later reason next is = is
some_line false line rest later reason next is = next is

first_of_all : (lines later : List (Bool × Reason)) (reason : Reason) → first_reason lines ≡ Some reason → first_reason (lines ++ later) ≡ Some reason
unfolding first_reason
first_of_all [] later reason is = absurd (cc)
first_of_all (line ∷ rest) later reason is = some_line line.0 line.1 rest later reason (first_of_all rest later reason) is

pub contents_first : (v w : CapValue) (reason : Reason) → first_reason (take 7 (reasons CBuildCap v w)) ≡ Some reason →
    Some reason ≡ first_reason (reasons CBuildCap v w)
unfolding reasons
contents_first v w reason is = sym (first_of_all (take 7 (build_reasons v w)) (drop 7 (build_reasons v w)) reason is)

-- lines that don't hold leave it to the others
none_lines : (holds : Bool) (line : Reason) (rest : List (Bool × Reason)) → first_reason ((holds, line) ∷ rest) ≡ None → (holds ≡ false) × (first_reason rest ≡ None)
unfolding first_reason
none_lines true line rest none = absurd (cc)
none_lines false line rest none = (refl, none)

after_none : (lines later : List (Bool × Reason)) → first_reason lines ≡ None → first_reason later ≡ first_reason (lines ++ later)
after_none [] later none = refl
after_none (line ∷ rest) later none =
    let both = none_lines line.0 line.1 rest none in
    line_later line.0 line.1 (rest ++ later) (first_reason later) both.0 (after_none rest later both.1)

not_less : (a b : ℕ) → nat_lt a b ≡ false → b ≤ a
not_less a b is = grind (arith, nat_tests)

not_false : (b : Bool) → not b ≡ false → b ≡ true
not_false true is = refl
not_false false is = absurd (cc)

both_zero : (a b : ℕ) → a ≡ 0 → b ≡ 0 → ((a == 0) && (b == 0)) ≡ true
both_zero a b is_a is_b = rw (is_a, is_b) refl

-- bounds of a word that lie in those of a tagged capability are multiples of their alignment
built_aligned : (v w : CapValue) → IsLawfulValue v → IsLawfulValue w → tag_of v ≡ true → top_of w ≤ top_of v →
    are_aligned (base_of w) (top_of w) ≡ true
unfolding capability_at
built_aligned (raw word) w lawful_v lawful_w tagged within = absurd (cc)
built_aligned (valid c) (raw word) lawful_v lawful_w tagged within =
    let below = lawful_v.top_at_most in
    raw_bounds_aligned (word / 2 ^ 64) (word % 2 ^ 64) (omega arith)
built_aligned (valid c) (valid d) lawful_v lawful_w tagged within =
    both_zero _ _ lawful_w.base_fits lawful_w.top_fits

-- what was made has its address in the window of its bounds
inside_of : (past exact inside : Bool) (a b c : MakeFault) (made v : CapValue) →
    (if past then Err a else if not exact then Err b else if not inside then Err c else Ok made) ≡ Ok v → inside ≡ true
inside_of true exact inside a b c made v is = absurd (cc)
inside_of false false inside a b c made v is = absurd (cc)
inside_of false true false a b c made v is = absurd (cc)
inside_of false true true a b c made v is = refl

made_inside : (base len addr perms otype : ℕ) (v : CapValue) → made base len addr perms otype ≡ Ok v → is_in_window base len addr ≡ true
unfolding made
made_inside base len addr perms otype v is = inside_of _ _ _ _ _ _ _ v is

-- where the lines on what the word says pass
module _ (v w : CapValue) (lawful_v : IsLawfulValue v) (lawful_w : IsLawfulValue w) (none : first_reason (take 7 (build_reasons v w)) ≡ None) where
  -- its bounds are multiples of their alignment, and in order
  passed : (are_aligned (base_of w) (top_of w) ≡ true) × (base_of w ≤ top_of w)
  passed =
      let one = none_lines (not (tag_of v)) SourceUntagged (drop 1 (take 7 (build_reasons v w))) none in
      let two = none_lines (is_sealed v) SourceSealed (drop 2 (take 7 (build_reasons v w))) one.1 in
      let three = none_lines (not (word_reserved (bits_of w / 2 ^ 64) == 0)) ReservedBits (drop 3 (take 7 (build_reasons v w))) two.1 in
      let four = none_lines (nat_lt (base_of w) (base_of v)) BaseBelow (drop 4 (take 7 (build_reasons v w))) three.1 in
      let five = none_lines (nat_lt (top_of v) (top_of w)) TopAbove (drop 5 (take 7 (build_reasons v w))) four.1 in
      let six = none_lines (nat_lt (top_of w) (base_of w)) BaseAboveTop (drop 6 (take 7 (build_reasons v w))) five.1 in (
        built_aligned v w lawful_v lawful_w (not_false (tag_of v) one.0) (not_less (top_of v) (top_of w) five.0),
        not_less (top_of w) (base_of w) six.0,
      )

  last_line : first_reason ((not (keeps_bounds w (address_of w)), NotRepresentable) ∷ []) ≡ first_reason (build_reasons v w)
  last_line =
      line_later (not (are_aligned (base_of w) (top_of w))) NotAligned ((not (keeps_bounds w (address_of w)), NotRepresentable) ∷ []) _ (ap not passed.0) refl
      ∙ after_none (take 7 (build_reasons v w)) (drop 7 (build_reasons v w)) none

kept_none : (v w : CapValue) → IsLawfulValue v → tag_of (build v w) ≡ is_none (first_reason (build_reasons v w))
unfolding capability_result reasons no_reason
kept_none v w lawful = tag_kept CBuildCap v w lawful

some_last : (holds : Bool) (reason : Reason) (first : Option Reason) → first_reason ((holds, reason) ∷ []) ≡ first → is_none first ≡ false → Some reason ≡ first
unfolding first_reason
some_last true reason first last some = last
some_last false reason first last some = absurd (cc)

-- what the table says of a word that passes the lines on what it says
module _ (v w : CapValue) (lawful_v : IsLawfulValue v) (lawful_w : IsLawfulValue w) (none : first_reason (take 7 (reasons CBuildCap v w)) ≡ None) where
  -- the word's end is not before its base
  pub built_ordered : base_of w ≤ top_of w
  unfolding reasons
  built_ordered = (passed v w lawful_v lawful_w none).1

  -- the capability of the word's parts, its flag aside
  abbrev pub made_of : Result CapValue MakeFault
  made_of = made (base_of w) (top_of w - base_of w) (parts_of w).addr (permissions_of w) unsealed_type

  pub built_kept : (made : CapValue) → made_of ≡ Ok made → None ≡ first_reason (reasons CBuildCap v w)
  unfolding reasons address_of
  built_kept made is =
      none_alone (keeps_bounds w (address_of w)) NotRepresentable
      (made_inside (base_of w) (top_of w - base_of w) (parts_of w).addr (permissions_of w) unsealed_type made is)
      ∙ last_line v w lawful_v lawful_w none

  pub built_lost : (fault : MakeFault) → made_of ≡ Err fault → Some NotRepresentable ≡ first_reason (reasons CBuildCap v w)
  unfolding reasons
  built_lost fault refused =
      some_last (not (keeps_bounds w (address_of w))) NotRepresentable _ (last_line v w lawful_v lawful_w none)
      (sym (kept_none v w lawful_v) ∙ ap (λ u. tag_of u) (not_made v w lawful_v lawful_w fault refused))
