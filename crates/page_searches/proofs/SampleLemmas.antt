-- What was asked of orders drawn by chance, and so what is answered, from what was read.
use Rattle.std.proofs.Common.{◌≡◌, ◌∙◌, ℕ, ◌-◌, List, [], ◌∷◌, Result, refl, sym, ap, subst, inl, inr}
use Rattle.std.specs.Prelude.{◌⊎◌, true, false, None, Ok, Err, IfOk}
use Rattle.cheri_model.specs.runs.Image.{ImageParts}
use Rattle.listings.specs.Faults.{no_memory}
use Rattle.listings.specs.Meaning.{listing_meaning}
use Rattle.listings.specs.declared.fault.ListingFault.{ListingFault}
use Rattle.sample_draws.specs.Drawings.{DrawingParts}
use Rattle.sample_tallies.specs.Tallies.{TallyParts, tally, numbers_from}
use Rattle.sample_texts.specs.SampleData.{sample_text}
use Rattle.shown_states.specs.declared.form.Format.TheVariants.{Json}
use Rattle.sinks.specs.Sinks.{Memory}
use Rattle.sinks.specs.declared.fault.WriteFault.{WriteFault}
use Rattle.page_searches.specs.Answered.{IsAnswer}
use Rattle.page_searches.specs.Drawn.{drawing_of, image_or_fault, is_drawn, sample_asked, sampled, IsSample, IsSampleAnswer}
use Rattle.page_searches.specs.Faults.{listing_fault}
use Rattle.page_searches.specs.declared.drawn.Drawn.{Drawn}
use Rattle.page_searches.specs.declared.fault.SearchFault.{SearchFault}
use Rattle.page_searches.specs.declared.fault.SearchFault.TheVariants.{NoMemory, Number}

module _ (listing : List ℕ) (drawn : Drawn) where
  pub numbers_refused : is_drawn drawn ≡ false → sample_asked listing drawn ≡ Err Number
  unfolding sample_asked
  numbers_refused is = rw is refl

  read : is_drawn drawn ≡ true → sample_asked listing drawn ≡ image_or_fault (listing_meaning listing)
  unfolding sample_asked
  read is = rw is refl

  pub image_drawn : (image : ImageParts) → is_drawn drawn ≡ true → listing_meaning listing ≡ Ok image → sample_asked listing drawn ≡ Ok image
  image_drawn image is means = read is ∙ ap image_or_fault means

  pub drawn_listing_refused : (refused : ListingFault) (fault : SearchFault) → is_drawn drawn ≡ true → fault ≡ listing_fault refused
      → (refused ≡ no_memory) ⊎ (listing_meaning listing ≡ Err refused) → (fault ≡ NoMemory) ⊎ (sample_asked listing drawn ≡ Err fault)
  drawn_listing_refused refused fault is same (inl none) = inl (same ∙ ap listing_fault none)
  drawn_listing_refused refused fault is same (inr means) =
      inr (read is ∙ (ap image_or_fault means ∙ ap (λ (f : SearchFault). Err f) (sym same)))

  pub sample_refused : (fault : SearchFault) → (fault ≡ NoMemory) ⊎ (sample_asked listing drawn ≡ Err fault)
      → (fault ≡ NoMemory) ⊎ IsSampleAnswer listing drawn (Err fault)
  sample_refused fault (inl none) = inl none
  sample_refused fault (inr is) =
      inr (subst (λ (m : Result ImageParts SearchFault). IsAnswer (IsSample drawn) m (Err fault)) (sym is) refl)

  pub sample_answered : (image : ImageParts) (text : List ℕ) → sample_asked listing drawn ≡ Ok image → IsSample drawn image text
      → IsSampleAnswer listing drawn (Ok text)
  sample_answered image text is so =
      subst (λ (m : Result ImageParts SearchFault). IsAnswer (IsSample drawn) m (Ok text)) (sym is) so

-- what is told of the runs of an image, from its parts
sample_said : (drawn : Drawn) (image : ImageParts) (drawing : DrawingParts) (count last : ℕ) (sum : TallyParts) (text : List ℕ)
    → drawing ≡ drawing_of drawn → count ≡ drawn.runs → last ≡ drawn.runs - 1 → sum ≡ tally image drawing (numbers_from 0 count)
    → text ≡ sample_text Json (record { image = image; drawing = drawing; items = None; numbers = record { first = 0; last = last } ∷ []; sum = sum; properties = [] })
    → IsSample drawn image text
unfolding sampled
sample_said drawn image drawing count last sum text by all ends gives is = rw (gives, all, by, ends) at is

pub sample_kept : (drawn : Drawn) (image : ImageParts) (drawing : DrawingParts) (count last : ℕ) (sum : TallyParts) (text : List ℕ)
    (kept : Result Memory WriteFault)
    → drawing ≡ drawing_of drawn → count ≡ drawn.runs → last ≡ drawn.runs - 1 → sum ≡ tally image drawing (numbers_from 0 count)
    → text ≡ sample_text Json (record { image = image; drawing = drawing; items = None; numbers = record { first = 0; last = last } ∷ []; sum = sum; properties = [] })
    → IfOk kept (λ said. said.bytes ≡ text) → IfOk kept (λ said. IsSample drawn image said.bytes)
sample_kept drawn image drawing count last sum text (Ok said) by all ends gives is same =
    same ∙ sample_said drawn image drawing count last sum text by all ends gives is
sample_kept drawn image drawing count last sum text (Err fault) by all ends gives is same = same

pub ruleset drawn_answers = (numbers_refused, image_drawn, drawn_listing_refused, sample_refused, sample_answered)
