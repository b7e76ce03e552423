-- How a command ends, and what standard output then has of its answer.
use Rattle.std.specs.Prelude.{◌≡◌, ℕ, List, [], ◌∷◌, ◌++◌, Option, Result, Ok, Err, ◌⊎◌, Bool, true}
use Rattle.std.specs.Io.KnownBytes.{Appends}
use Rattle.sinks.specs.Sinks.{TakesPrefix}

-- The answer to a command: its text, and how the command then ends; or the fault that comes before
-- anything is printed.
abbrev pub Answer : Type 0 → Type 0 → Type 0
Answer End Fault = Result (List ℕ × End) Fault

-- a writer got the whole text of an answer, or a prefix of it
abbrev pub HasWhole : {End Fault : Type 0} → (Answer End Fault → Type 0) → End
    → Option (List ℕ) → Option (List ℕ) → Type 0
HasWhole IsAnswer end old new =
    (text : List ℕ) × IsAnswer (Ok (text, end)) × Appends old new text

abbrev pub HasPrefix : {End Fault : Type 0} → (Answer End Fault → Type 0)
    → Option (List ℕ) → Option (List ℕ) → Type 0
HasPrefix {End} IsAnswer old new =
    (text : List ℕ) × (end : End) × IsAnswer (Ok (text, end)) × TakesPrefix old new text

-- The ways in which a command fails: its answer is a fault; a write failed; memory ran out, where
-- the text is printed in pieces or at once; or its text was printed and ends so.
pub data Failure (End : Type 0) : Type 0 where
  Refused : Failure End
  Unwritten : Failure End
  OutOfMemory : Bool → Failure End
  Stopped : End → Failure End

-- What standard output then has of the answer: the whole, a prefix or nothing. Memory may run out
-- at any time; where the text is printed in pieces, also when a prefix of it was.
abbrev pub FailsBy : {End Fault : Type 0} → Failure End → (Answer End Fault → Type 0) → Fault
    → Option (List ℕ) → Option (List ℕ) → Type 0
FailsBy Refused IsAnswer fault old new = IsAnswer (Err fault) × (new ≡ old)
FailsBy Unwritten IsAnswer fault old new = HasPrefix IsAnswer old new
FailsBy (OutOfMemory in_pieces) IsAnswer fault old new =
    (new ≡ old) ⊎ ((in_pieces ≡ true) × HasPrefix IsAnswer old new)
FailsBy (Stopped end) IsAnswer fault old new = HasWhole IsAnswer end old new

-- A program ends with a status by a fault of which this is so; standard error got the fault's line,
-- or a prefix of it.
pub record EndsBy {Fault : Type 0} (status_of : Fault → ℕ) (text_of : Fault → List ℕ)
    (IsSo : Fault → Type 0) (status : ℕ) (old new : Option (List ℕ)) : Type 0 where
  pub fault : Fault
  pub status_is : status ≡ status_of fault
  pub is_so : IsSo fault
  pub told : TakesPrefix old new (text_of fault ++ 10 ∷ [])
