-- The run of an order: a function, which takes the operations one by one until one is refused.
use Rattle.std.specs.Prelude.{◌≡◌, ℕ, ◌+◌, true, List, [], ◌∷◌, take, slice_get, Option, Some}
use Rattle.std.specs.Prelude.{None, IfSome, IsSomeAnd}
use Rattle.cheri_model.specs.declared.operation.Op.{Op}
use Rattle.cheri_model.specs.runs.Authority.{IsConfined, IsLawfulState}
use Rattle.cheri_model.specs.runs.Image.{ImageParts}
use Rattle.cheri_model.specs.runs.Machine.{opening_state}
use Rattle.cheri_model.specs.runs.Replay.{operations_of}
use Rattle.cores.specs.declared.faults.StepFault.{StepFault}
use Rattle.cores.specs.Cores.{CoreParts, IsCore, opening_core, core_after, is_limit, refused}

-- the place of a refused operation in its order, counted from 0, and why it is refused
abbrev pub Stop : Type 0
Stop = ℕ × StepFault

-- what a run leaves: the core, and where it stopped before the order's end
abbrev pub Run : Type 0
Run = CoreParts × Option Stop

-- a run stops before a refused operation, and otherwise goes on
abbrev pub unless_stopped : Option StepFault → CoreParts → ℕ → Run → Run
unless_stopped None core place later = later
unless_stopped (Some fault) core place later = (core, Some (place, fault))

-- the run of operations from a core on, the first of which has this place in the order
unfoldable pub run_from : CoreParts → ℕ → List Op → Run
run_from core place [] = (core, None)
run_from core place (op ∷ order) =
    unless_stopped (refused core op) core place (run_from (core_after core op) (place + 1) order)

-- the run of an order from an image, with a trace of at most this limit
unfoldable pub run_of : ImageParts → List Op → ℕ → Run
run_of image order limit = run_from (opening_core image limit) 0 order

-- the operations of an order before the place where a run stopped
abbrev pub before_stop : Option Stop → List Op → List Op
before_stop None order = order
before_stop (Some stop) order = take stop.0 order

-- A run takes the order as far as it can be taken: its core, of this image and limit, took all of
-- it, or what is before the operation that it refuses.
pub record TakesAll (image : ImageParts) (order : List Op) (limit : ℕ) (run : Run) : Type 0 where
  pub image_is : run.0.image ≡ image
  pub limit_is : run.0.limit ≡ limit
  pub taken : operations_of run.0.trace ≡ before_stop run.1 order
  pub refused : IfSome run.1 (λ stop.
      IsSomeAnd (slice_get order stop.0) (λ op. refused run.0 op ≡ Some stop.1))

-- What a run leaves is the replay of its trace, and lies within what its image gave.
pub record IsConfinedRun (run : Run) : Type 0 where
  pub core : IsCore run.0
  pub confined : IsConfined run.0.image run.0.state

-- Every run takes all it can, and its core is the replay of what it took.
abbrev pub RunsTakeAll : Type 0
RunsTakeAll = (image : ImageParts) (order : List Op) (limit : ℕ) →
    TakesAll image order limit (run_of image order limit)

abbrev pub RunsAreReplays : Type 0
RunsAreReplays = (image : ImageParts) (order : List Op) (limit : ℕ) →
    IsLawfulState (opening_state image) → is_limit limit ≡ true
    → IsCore (run_of image order limit).0
