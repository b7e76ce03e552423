-- What is searched.
use Rattle.std.specs.Prelude.{◌≡◌, ℕ, ◌<◌, ◌≤◌, List, length, Bool}
use Rattle.cheri_model.specs.runs.Image.{ImageParts}
use Rattle.explore_sights.specs.Sights.{sight_of}
use Rattle.explore_sights.specs.declared.sights.Sight.{Sight}
use Rattle.schedules.specs.declared.ranges.SweepRange.{SweepRange}
use Rattle.states.specs.declared.graph.TheConstants.{MAX_SWEEPS}
use Rattle.states.specs.declared.search.Search.{Search}

-- The states that an image reaches by steps of its harts and by these sweeps, told apart after
-- every step or only after those that the question sees; and how many of them may be kept.
pub record SearchParts : Type 0 where
  pub image : ImageParts
  pub sweeps : List SweepRange
  pub every_step : Bool
  pub limit : ℕ

abbrev pub search_of : Search → SearchParts
search_of search =
    record {
      image = search.image.now;
      sweeps = search.sweeps.now;
      every_step = search.every_step;
      limit = search.limit;
    }

-- it can be searched: at least one state may be kept, and there are no more sweeps than a search
-- takes
abbrev pub IsSearchable : SearchParts → Type 0
IsSearchable search = (0 < search.limit) × (length search.sweeps ≤ MAX_SWEEPS)

-- turns of this image and of these sweeps, seen so, are those of a search whose question sees this
pub record AreTurnsOf (search : SearchParts) (sees : Sight) (image : ImageParts)
    (sweeps : List SweepRange) (sight : Sight) : Type 0 where
  pub image_is : image ≡ search.image
  pub sweeps_are : sweeps ≡ search.sweeps
  pub sight_is : sight ≡ sight_of search.every_step sees
