-- Which lines are slices.
use Rattle.std.proofs.Common.{◌≡◌, ◌∙◌, ℕ, List, [], ◌∷◌, ◌++◌, sym, subst, refl}
use Rattle.std.specs.Prelude.{Bool, true, false, ◌↔◌, IfOk, IsTrue, IsUtf8, None, Some, Result, Ok, Err}
use Rattle.std.proofs.lemmas.Option.{same_Some}
use Rattle.serde_json.specs.Data.{Data}
use Rattle.serde_json.specs.Read.{read}
use Rattle.shown_states.specs.declared.form.Format.TheVariants.{Json}
use Rattle.sample_slices.specs.Claimed.{claimed}
use Rattle.sample_slices.specs.Lines.{IsLineOf, IsLineRead, IsNoSlice, IsSlice, IsWrittenAgain}
use Rattle.sample_slices.specs.Members.{Gives}
use Rattle.sample_slices.specs.Slices.{Fits, IsTextOf, ListingParts, SliceParts, asked, looked_at}
use Rattle.sample_slices.specs.declared.fault.LineFault.{LineFault}
use Rattle.sample_slices.specs.declared.fault.LineFault.TheVariants.{Form, NoMemory}
use Rattle.sample_slices.proofs.TextLemmas.{same_text}

-- a slice that was written as this line is it, and one that was written otherwise is not
pub same_line : (listing : ListingParts) (slice : SliceParts) (line text : List ℕ) (is : Bool)
    → IsTextOf listing.image (asked (looked_at listing.properties slice.is_checked)) slice Json text
    → (IsTrue is ↔ (text ≡ line ++ 0x0A ∷ [])) → is ≡ true → IsLineOf listing slice line
same_line listing slice line text is written says so =
    subst (λ (t : List ℕ). IsTextOf listing.image (asked (looked_at listing.properties slice.is_checked)) slice Json t)
    (says.0 so) written

pub other_line : (listing : ListingParts) (slice : SliceParts) (line text : List ℕ) (is : Bool)
    → IsTextOf listing.image (asked (looked_at listing.properties slice.is_checked)) slice Json text
    → (IsTrue is ↔ (text ≡ line ++ 0x0A ∷ [])) → is ≡ false → ¬ (IsLineOf listing slice line)
other_line listing slice line text is written says otherwise line_is =
    let so : is ≡ true =
    says.1 (same_text listing.image (asked (looked_at listing.properties slice.is_checked)) slice text (line ++ 0x0A ∷ []) written line_is) in
    absurd (cc)

pub ruleset again = (same_line, other_line)

module _ (listing : ListingParts) (line : List ℕ) where
  -- what is no JSON is no slice
  pub no_json : (IsUtf8 line → read line ≡ None) → IsNoSlice listing line
  no_json none slice is = let e : Some is.value ≡ None = sym is.is_json ∙ none is.utf8 in absurd cc

  module _ (value : Data) (read_is : read line ≡ Some value) where
    same_claim : (slice : SliceParts) → IsSlice listing line slice → claimed listing value ≡ Some slice
    same_claim slice is =
        subst (λ (v : Data). claimed listing v ≡ Some slice) (same_Some is.value value (sym is.is_json ∙ read_is)) is.is_claimed

    -- so is what claims none
    pub no_claim : claimed listing value ≡ None → IsNoSlice listing line
    no_claim none slice is = let e : Some slice ≡ None = sym (same_claim slice is) ∙ none in absurd cc

    -- and what is written otherwise
    pub no_text : (claim : SliceParts) → claimed listing value ≡ Some claim → ¬ (IsLineOf listing claim line)
        → IsNoSlice listing line
    no_text claim claims other slice is =
        let same : slice ≡ claim = same_Some slice claim (sym (same_claim slice is) ∙ claims) in
        other (subst (λ (s : SliceParts). IsLineOf listing s line) same is.is_line)

    pub is_slice : IsUtf8 line → (slice : SliceParts) → claimed listing value ≡ Some slice → IsLineOf listing slice line
        → IsSlice listing line slice
    is_slice utf8 slice claims written = record {
      utf8 = utf8;
      value = value;
      is_json = read_is;
      is_claimed = claims;
      is_line = written;
    }

-- ---- answers

module _ (listing : ListingParts) (line : List ℕ) where
  -- a line that is not read as JSON
  pub json_fails : (fault : LineFault) → (fault ≡ Form → IsUtf8 line → read line ≡ None) → IsLineRead listing line (Err fault)
  json_fails Form none = no_json listing line (none refl)
  json_fails NoMemory none = tt

  -- what claims none
  pub claim_fails : (value : Data) (fault : LineFault) → read line ≡ Some value → Gives {X = SliceParts} (Err fault) (claimed listing value)
      → IsLineRead listing line (Err fault)
  claim_fails value Form read_is none = no_claim listing line value read_is none
  claim_fails value NoMemory read_is none = tt

  -- what is written again
  pub written_read : (value : Data) (slice : SliceParts) (result : Result SliceParts LineFault) → IsUtf8 line → read line ≡ Some value
      → claimed listing value ≡ Some slice → IsWrittenAgain listing slice line result → IsLineRead listing line result
  written_read value slice (Ok other) utf8 read_is claims written =
      subst (λ (s : SliceParts). IsSlice listing line s) (sym written.0) (is_slice listing line value read_is utf8 slice claims written.1)
  written_read value slice (Err Form) utf8 read_is claims written = no_text listing line value read_is slice claims written
  written_read value slice (Err NoMemory) utf8 read_is claims written = tt

  pub written_fits : (slice : SliceParts) (result : Result SliceParts LineFault) → Fits listing slice
      → IsWrittenAgain listing slice line result → IfOk result (λ other. Fits listing other)
  written_fits slice (Ok other) fits written = subst (λ (s : SliceParts). Fits listing s) (sym written.0) fits
  written_fits slice (Err fault) fits written = tt
