-- Tables of reasons: a tag is kept where no line holds, and the reason that is told is one that holds.
use Rattle.std.specs.Prelude.{bit_and, ◌-◌, ◌≡◌, ℕ, ◌/◌, ◌%◌, ◌^◌, ◌==◌, nat_lt, nat_le, Bool, true, false, not, ◌&&◌, List, [], ◌∷◌, Some, find, Contains}
use Rattle.std.proofs.Common.{arith, refl, ap, ◌∙◌, cond, suc}
use Rattle.std.specs.Option.{option_map}
use Rattle.std.proofs.lemmas.Bool.Decides.{nat_tests}
use Rattle.cap_model.specs.declared.reason.Reason.{Reason}
use Rattle.cap_model.specs.bounds.Lengths.{alignment}
use Rattle.cap_model.specs.words.Fields.{word_reserved}
use Rattle.cap_model.specs.values.Capability.{Capability, IsLawfulType, unsealed_type, sentry_type}
use Rattle.cap_model.specs.values.CapValue.{CapValue, valid, raw, tag_of, parts_of, bits_of, tagged_where, IsLawfulValue}
use Rattle.cap_model.specs.results.Addresses.{address_of, keeps_bounds, set_address, inc_offset, set_bounds, set_bounds_exact}
use Rattle.cap_model.specs.results.Readings.{permissions_of, base_of, top_of}
use Rattle.cap_model.specs.results.Fields.{and_perm, set_flags, set_high}
use Rattle.cap_model.specs.results.Seals.{is_sealable, seal, unseal, seal_entry, unsealed}
use Rattle.cap_model.specs.results.Rebuilt.{is_buildable, build}
use Rattle.cap_model.specs.results.CapInstructions.{CapInstruction, CMove, CClearTag, CSetAddr, CIncOffset, CSetBounds, CSetBoundsExact, CAndPerm, CSetFlags, CSetHigh, CSeal, CUnseal, CSealEntry, CBuildCap, UnsealedByJump, capability_result}
use Rattle.cap_model.specs.results.Reasons.{first_reason, no_reason, reasons}

tag_where : (b : Bool) (c : Capability) (word : ℕ) → tag_of (tagged_where b c word) ≡ b
tag_where true c word = refl
tag_where false c word = refl

no_line : no_reason [] ≡ true
unfolding no_reason first_reason
no_line = refl

no_reason-cons : (b : Bool) (reason : Reason) (rest : List (Bool × Reason)) → no_reason ((b, reason) ∷ rest) ≡ (not b && no_reason rest)
unfolding no_reason first_reason
no_reason-cons true reason rest = refl
no_reason-cons false reason rest = refl

twice_not : (b : Bool) → not (not b) ≡ b
twice_not true = refl
twice_not false = refl

and_last : (b : Bool) → (b && true) ≡ b
and_last true = refl
and_last false = refl

and_regroup : (a b c : Bool) → ((a && b) && c) ≡ (a && (b && c))
and_regroup true b c = refl
and_regroup false b c = refl

not_less : (a b : ℕ) → not (nat_lt a b) ≡ nat_le b a
not_less a b = grind (arith, nat_tests)

ruleset lines = (tag_where, no_line, no_reason-cons, twice_not, and_last, and_regroup, not_less)

-- an object type of a lawful capability is sealable where it is neither unsealed nor a sentry
sealable_otype : (otype : ℕ) → IsLawfulType otype → is_sealable otype ≡ (not (not (not (otype == unsealed_type))) && not (otype == sentry_type))
sealable_otype otype lawful =
    let below = lawful.below in
    let one = lawful.not_reserved in
    let other = lawful.not_reserved_either in
    grind (arith, nat_tests)

and_swap : (a b c : Bool) → (a && (b && c)) ≡ (b && (a && c))
and_swap true b c = refl
and_swap false true c = refl
and_swap false false c = refl

-- the conditions of a rebuilding, and the order in which its reasons are told
rebuilt_order : (base top perms reserved ordered rest : Bool) →
    (base && (top && (perms && (reserved && (ordered && rest))))) ≡ (reserved && (base && (top && (ordered && (perms && rest)))))
rebuilt_order base top perms reserved ordered rest =
    ap (λ b. base && (top && b)) (and_swap perms reserved _)
    ∙ ap (λ b. base && b) (and_swap top reserved _)
    ∙ and_swap base reserved _
    ∙ ap (λ b. reserved && (base && (top && b))) (and_swap perms ordered rest)

pub tag_kept : (i : CapInstruction) (v w : CapValue) → IsLawfulValue v → tag_of (capability_result i v w) ≡ no_reason (reasons i v w)
unfolding capability_result reasons set_address inc_offset set_bounds set_bounds_exact and_perm set_flags set_high seal unseal seal_entry unsealed build is_buildable
tag_kept CMove v w lawful = simp lines refl
tag_kept CClearTag v w lawful = simp lines refl
tag_kept CSetAddr v w lawful = simp lines refl
tag_kept CIncOffset v w lawful = simp lines refl
tag_kept CSetBounds v w lawful = simp lines refl
tag_kept CSetBoundsExact v w lawful = simp lines refl
tag_kept CAndPerm v w lawful = simp lines refl
tag_kept CSetFlags v w lawful = simp lines refl
tag_kept CSetHigh v w lawful = simp lines refl
tag_kept CSeal v w lawful = simp lines refl
tag_kept CUnseal (valid c) w lawful = simp (lines, sealable_otype c.otype lawful.otype) refl
tag_kept CUnseal (raw word) w lawful = simp lines refl
tag_kept CSealEntry v w lawful = simp lines refl
tag_kept CBuildCap v w lawful =
    simp lines (ap (λ rest. tag_of v && (((parts_of v).otype == unsealed_type) && rest)) (rebuilt_order
    (nat_le (base_of v) (base_of w)) (nat_le (top_of w) (top_of v))
    (bit_and (permissions_of w) (permissions_of v) == permissions_of w)
    (word_reserved (bits_of w / 2 ^ 64) == 0) (nat_le (base_of w) (top_of w))
    ((base_of w % alignment (top_of w - base_of w) == 0)
    && ((top_of w % alignment (top_of w - base_of w) == 0) && keeps_bounds w (address_of w)))))
tag_kept UnsealedByJump v w lawful = simp lines refl

-- the reason that is told stands in a line that holds
pub told_holds : (table : List (Bool × Reason)) (reason : Reason) → first_reason table ≡ Some reason → Contains table (true, reason)
unfolding first_reason
told_holds [] reason told = cc
told_holds (line ∷ rest) reason told = by line.0 refl (told_holds rest reason) told
  where
    by : (holds : Bool) → line.0 ≡ holds → (first_reason rest ≡ Some reason → Contains rest (true, reason)) →
        option_map (λ l. l.1) (cond holds (Some line) (find (λ l. l.0) rest)) ≡ Some reason →
        Contains (line ∷ rest) (true, reason)
    by true holds later said =
        let same : line.1 ≡ reason = cc in
        (0, omega arith, rw (holds, same) refl)
    by false fails later said =
        let place = later said in
        (suc place.0, omega arith, place.2)
