-- The first line of a table of reasons that holds, a line at a time.
use Rattle.std.proofs.Common.{◌≡◌, ℕ, ◌==◌, Bool, true, false, not, List, [], ◌∷◌, refl, sym, ap, ◌∙◌}
use Rattle.std.specs.Prelude.{◌&&◌, Option, None, Some, is_none}
use Rattle.cap_model.specs.declared.reason.Reason.{Reason}
use Rattle.cap_model.specs.declared.reason.Reason.TheVariants as reasons_of
use Rattle.cap_model.specs.values.Capability.{Capability, unsealed_type}
use Rattle.cap_model.specs.values.CapValue.{CapValue, tag_of, parts_of, tagged_where, IsLawfulValue}
use Rattle.cap_model.specs.results.Addresses.{is_open, keeps_bounds, set_address}
use Rattle.cap_model.specs.results.CapInstructions.{CapInstruction, capability_result}
use Rattle.cap_model.specs.results.Readings.{is_sealed}
use Rattle.cap_model.specs.results.Reasons.{first_reason, no_reason, not_representable, reasons}
use Rattle.cap_model.proofs.Results.ReasonTables.{tag_kept}
use Rattle.cheri_caps.specs.Reasons.{reason_number, number_of, why}

-- the first line holds
pub line_holds : (holds : Bool) (reason : Reason) (rest : List (Bool × Reason)) →
    holds ≡ true → Some reason ≡ first_reason ((holds, reason) ∷ rest)
unfolding first_reason
line_holds holds reason rest is = rw is refl

-- or a later one does
pub line_later : (holds : Bool) (reason : Reason) (rest : List (Bool × Reason)) (first : Option Reason) →
    holds ≡ false → first ≡ first_reason rest → first ≡ first_reason ((holds, reason) ∷ rest)
unfolding first_reason
line_later holds reason rest first is later = rw is later

pub no_line : None ≡ first_reason []
unfolding first_reason
no_line = refl

-- what passes the first two lines of most tables is open
open_both : (tag unsealed : Bool) → not tag ≡ false → not unsealed ≡ false → (tag && unsealed) ≡ true
open_both true true passes unlike = refl
open_both true false passes unlike = absurd (cc)
open_both false unsealed passes unlike = absurd (cc)

pub open_value : (v : CapValue) → not (tag_of v) ≡ false → is_sealed v ≡ false → is_open v ≡ true
open_value v tagged unsealed = open_both (tag_of v) ((parts_of v).otype == unsealed_type) tagged unsealed

-- the only line, by what it says doesn't hold
pub none_alone : (b : Bool) (reason : Reason) → b ≡ true → None ≡ first_reason ((not b, reason) ∷ [])
unfolding first_reason
none_alone b reason is = rw is refl

pub some_alone : (b : Bool) (reason : Reason) → b ≡ false → Some reason ≡ first_reason ((not b, reason) ∷ [])
unfolding first_reason
some_alone b reason is = rw is refl

-- the tag of an open value that is moved says whether the bounds stay
tag_where : (b : Bool) (c : Capability) (word : ℕ) → tag_of (tagged_where b c word) ≡ b
tag_where true c word = refl
tag_where false c word = refl

moved_tag : (v : CapValue) (a : ℕ) → is_open v ≡ true → tag_of (set_address v a) ≡ keeps_bounds v a
unfolding set_address
moved_tag v a open_now = tag_where _ _ _ ∙ ap (λ b. b && keeps_bounds v a) open_now

pub kept_address : (v : CapValue) (a : ℕ) → is_open v ≡ true → tag_of (set_address v a) ≡ true →
    None ≡ first_reason (not_representable v a ∷ [])
kept_address v a open_now tagged = none_alone (keeps_bounds v a) reasons_of.NotRepresentable (sym (moved_tag v a open_now) ∙ tagged)

pub lost_address : (v : CapValue) (a : ℕ) → is_open v ≡ true → tag_of (set_address v a) ≡ false →
    Some reasons_of.NotRepresentable ≡ first_reason (not_representable v a ∷ [])
lost_address v a open_now untagged = some_alone (keeps_bounds v a) reasons_of.NotRepresentable (sym (moved_tag v a open_now) ∙ untagged)

pub ruleset table_lines = (line_later, line_holds, no_line, open_value, kept_address, lost_address)

-- the number of a reason is never 0
number_some : (reason : Reason) → (reason_number reason == 0) ≡ false
number_some reasons_of.Cleared = refl
number_some reasons_of.UpperReplaced = refl
number_some reasons_of.SourceUntagged = refl
number_some reasons_of.SourceSealed = refl
number_some reasons_of.SourceUnsealed = refl
number_some reasons_of.SourceSentry = refl
number_some reasons_of.AuthorityUntagged = refl
number_some reasons_of.AuthoritySealed = refl
number_some reasons_of.NoExecute = refl
number_some reasons_of.NoSeal = refl
number_some reasons_of.NoUnseal = refl
number_some reasons_of.NotRepresentable = refl
number_some reasons_of.BaseBelow = refl
number_some reasons_of.EndAbove = refl
number_some reasons_of.TopAbove = refl
number_some reasons_of.Rounded = refl
number_some reasons_of.TypeOutside = refl
number_some reasons_of.TypeNotSealable = refl
number_some reasons_of.TypeDiffers = refl
number_some reasons_of.ReservedBits = refl
number_some reasons_of.BaseAboveTop = refl
number_some reasons_of.MorePermissions = refl
number_some reasons_of.NotAligned = refl

number_none : (first : Option Reason) → (number_of first == 0) ≡ is_none first
number_none None = refl
number_none (Some reason) = number_some reason

pub kept_without_why : (instruction : CapInstruction) (v w : CapValue) → IsLawfulValue v →
    (why (Some instruction) v w == 0) ≡ tag_of (capability_result instruction v w)
unfolding why no_reason
kept_without_why instruction v w lawful = number_none (first_reason (reasons instruction v w)) ∙ sym (tag_kept instruction v w lawful)
