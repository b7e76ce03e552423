-- One line after another, up to the first fault; and the lines of a good listing.
use Rattle.std.proofs.Common.{◌≡◌, ℕ, ◌+◌, ◌≤◌, List, [], ◌∷◌, length, drop, Result, Ok, Err, refl, sym, ap, ◌∙◌}
use Rattle.std.specs.Prelude.{Bool, true, false, ◌&&◌, if◌then◌else◌, nat_lt}
use Rattle.std.specs.List.{list_all}
use Rattle.std.proofs.Math.ListN.{drop_of_length-le}
use Rattle.cheri_model.specs.runs.Image.{ImageParts}
use Rattle.explore_properties.specs.Properties.{PropertiesParts}
use Rattle.explore_properties.specs.Reading.{AddsByte, at_line, fault_at, GivesPlace, line_read, lines_read}
use Rattle.explore_properties.specs.declared.fault.LineFault.{LineFault}
use Rattle.explore_properties.specs.declared.fault.LineFault.TheVariants as line_faults
use Rattle.explore_properties.specs.declared.fault.PropertyPlace.{PropertyPlace}
use Rattle.grammar.specs.Faults.{◌>>=◌}
use Rattle.grammar.specs.Labels.{LabelParts, labels_of}
use Rattle.grammar.specs.Lines.{is_plain, lines_of}
use Rattle.grammar.specs.Tokens.{tokens_of}
use Rattle.grammar.specs.declared.fault.ListingFaultKind.{ListingFaultKind}
use Rattle.listings.specs.declared.fault.ListingFault.{ListingFault}
use Rattle.listings.specs.Draft.{DraftParts, empty_draft}
use Rattle.listings.specs.Meaning.{at_line as at_listing}
use Rattle.listings.specs.Meaning.{finished, line_meaning, lines_meaning, listing_limit, listing_meaning, whole_fault}

-- ---- one line more

module _ (labels : LabelParts) (image : ImageParts) (number : ℕ) (read : PropertiesParts) (line : List ℕ) (rest : List (List ℕ))
    (whole : Result PropertiesParts PropertyPlace) where
  -- after a good line the whole goes on from what it made
  pub after_line : (next : PropertiesParts) → line_read labels image number read line ≡ Ok next →
      lines_read labels image number read (line ∷ rest) ≡ whole → lines_read labels image (number + 1) next rest ≡ whole
  unfolding lines_read
  after_line next e h =
      sym (ap (λ (made : Result PropertiesParts _). at_line number made >>= (λ n. lines_read labels image (number + 1) n rest)) e) ∙ h

  -- a faulty line is the whole's fault
  pub at_fault : (fault : LineFault) (left : PropertiesParts) → AddsByte (Err fault) left (line_read labels image number read line) →
      lines_read labels image number read (line ∷ rest) ≡ whole → GivesPlace (Err (fault_at number fault)) whole
  unfolding lines_read
  at_fault line_faults.NoMemory left e h = tt
  at_fault (line_faults.Byte byte) left e h =
      sym h ∙ ap (λ (made : Result PropertiesParts _). at_line number made >>= (λ n. lines_read labels image (number + 1) n rest)) e

-- after the last line the whole is what the lines made
pub after_last : (labels : LabelParts) (image : ImageParts) (lines : List (List ℕ)) (index number : ℕ) (read : PropertiesParts)
    (whole : Result PropertiesParts PropertyPlace) → length lines ≤ index → lines_read labels image number read (drop index lines) ≡ whole →
    whole ≡ Ok read
unfolding lines_read
after_last labels image lines index number read whole h e = sym (rw (drop_of_length-le lines h) at e)

-- ---- the lines of a good listing are plain

and_true : (a b : Bool) → a ≡ true → b ≡ true → (a && b) ≡ true
and_true a b is also = rw (is, also) refl

plain_of : (plain : Bool) (other : Result DraftParts ListingFaultKind) (fault : ListingFaultKind) (next : DraftParts) →
    (if plain then other else Err fault) ≡ Ok next → plain ≡ true
plain_of true other fault next is = refl
plain_of false other fault next is = absurd (cc)

plain_step : (labels : LabelParts) (number : ℕ) (draft end : DraftParts) (line : List ℕ) (lines : List (List ℕ))
    (made : Result DraftParts ListingFaultKind) → line_meaning labels number draft line ≡ made →
    (at_listing number made >>= (λ next. lines_meaning labels (number + 1) next lines)) ≡ Ok end →
    ((next : DraftParts) → lines_meaning labels (number + 1) next lines ≡ Ok end → list_all (λ l. list_all is_plain l) lines ≡ true) →
    list_all (λ l. list_all is_plain l) (line ∷ lines) ≡ true
unfolding line_meaning
plain_step labels number draft end line lines (Ok next) made ends more =
    and_true (list_all is_plain line) (list_all (λ l. list_all is_plain l) lines) (plain_of (list_all is_plain line) _ _ next made) (more next ends)
plain_step labels number draft end line lines (Err kind) made ends more = absurd (cc)

lines_plain : (labels : LabelParts) (number : ℕ) (draft end : DraftParts) (lines : List (List ℕ)) →
    lines_meaning labels number draft lines ≡ Ok end → list_all (λ line. list_all is_plain line) lines ≡ true
unfolding lines_meaning
lines_plain labels number draft end [] is = refl
lines_plain labels number draft end (line ∷ lines) is =
    plain_step labels number draft end line lines (line_meaning labels number draft line) refl is
    (λ next ends. lines_plain labels (number + 1) next end lines ends)

lines_good : (made : Result DraftParts ListingFault) (image : ImageParts) → (made >>= finished) ≡ Ok image →
    (draft : DraftParts) × (made ≡ Ok draft)
lines_good (Ok draft) image is = (draft, refl)
lines_good (Err fault) image is = absurd (cc)

not_refused : (test : Bool) (fault : ListingFault) (other : Result ImageParts ListingFault) (image : ImageParts) →
    (if test then Err fault else other) ≡ Ok image → other ≡ Ok image
not_refused true fault other image is = absurd (cc)
not_refused false fault other image is = is

pub good_lines : (text : List ℕ) (image : ImageParts) → listing_meaning text ≡ Ok image →
    list_all (λ line. list_all is_plain line) (lines_of text) ≡ true
unfolding listing_meaning
good_lines text image is =
    let good = lines_good (lines_meaning (labels_of text) 1 empty_draft (lines_of text)) image
    (not_refused (nat_lt listing_limit (length text)) _ _ image is) in
    lines_plain (labels_of text) 1 empty_draft good.0 (lines_of text) good.1
