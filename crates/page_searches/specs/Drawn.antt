-- Orders drawn by chance, as plain numbers ask for them.
use Rattle.std.specs.Prelude.{◌≡◌, ℕ, ◌-◌, ◌==◌, nat_le, Bool, ◌&&◌, if◌then◌else◌, List, [], ◌∷◌}
use Rattle.std.specs.Prelude.{Option, Some, None, Result, Ok, Err}
use Rattle.cheri_model.specs.runs.Image.{ImageParts}
use Rattle.listings.specs.Meaning.{listing_meaning}
use Rattle.listings.specs.declared.fault.ListingFault.{ListingFault}
use Rattle.sample_draws.specs.Drawings.{DrawingParts, is_drawing}
use Rattle.sample_tallies.specs.Tallies.{tally, numbers_from}
use Rattle.sample_texts.specs.SampleData.{sample_text}
use Rattle.sample_texts.specs.SampleParts.{SampledParts}
use Rattle.shown_states.specs.declared.form.Format.TheVariants.{Json}
use Rattle.page_searches.specs.Answered.{Answer, IsAnswer}
use Rattle.page_searches.specs.Faults.{listing_fault}
use Rattle.page_searches.specs.declared.drawn.Drawn.{Drawn}
use Rattle.page_searches.specs.declared.drawn.TheConstants.{MOST_RUNS}
use Rattle.page_searches.specs.declared.fault.SearchFault.{SearchFault}
use Rattle.page_searches.specs.declared.fault.SearchFault.TheVariants.{Number}

-- 0 where each step is drawn
abbrev pub depth_of : ℕ → Option ℕ
depth_of depth = if depth == 0 then None else Some depth

-- without sweeps
abbrev pub drawing_of : Drawn → DrawingParts
drawing_of drawn = record {
  seed = drawn.seed;
  length = drawn.length;
  depth = depth_of drawn.depth;
  sweeps = [];
}

-- each number is in its limits
unfoldable pub is_drawn : Drawn → Bool
is_drawn drawn = nat_le 1 drawn.runs && nat_le drawn.runs MOST_RUNS && is_drawing (drawing_of drawn)

-- the image that runs, or why none does: the numbers are judged first
abbrev pub image_or_fault : Result ImageParts ListingFault → Result ImageParts SearchFault
image_or_fault (Ok image) = Ok image
image_or_fault (Err fault) = Err (listing_fault fault)

unfoldable pub sample_asked : List ℕ → Drawn → Result ImageParts SearchFault
sample_asked listing drawn =
    if is_drawn drawn then image_or_fault (listing_meaning listing) else Err Number

-- all that is told of these runs
unfoldable pub sampled : Drawn → ImageParts → SampledParts
sampled drawn image = record {
  image = image;
  drawing = drawing_of drawn;
  items = None;
  numbers = record { first = 0; last = drawn.runs - 1 } ∷ [];
  sum = tally image (drawing_of drawn) (numbers_from 0 drawn.runs);
  properties = [];
}

abbrev pub IsSample : Drawn → ImageParts → List ℕ → Type 0
IsSample drawn image text = text ≡ sample_text Json (sampled drawn image)

-- `sample`
abbrev pub IsSampleAnswer : List ℕ → Drawn → Answer → Type 0
IsSampleAnswer listing drawn answer = IsAnswer (IsSample drawn) (sample_asked listing drawn) answer
