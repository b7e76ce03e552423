-- What was printed, as the ending of a command.
use Rattle.std.proofs.Common.{◌≡◌, refl, ℕ, List, [], Option, Result, Ok, Err, append-nil, inl, inr}
use Rattle.std.specs.Prelude.{OnOk, ⊤}
use Rattle.std.specs.Io.KnownBytes.{Appends, Keeps}
use Rattle.std.proofs.KnownBytes.{Appends-kept}
use Rattle.sinks.specs.Sinks.{TakesPrefix}
use Rattle.printing.specs.Endings.{Answer, Failure, Refused, Unwritten, OutOfMemory, Stopped, FailsBy, HasPrefix, HasWhole}

-- a text that was written whole, and then flushed or not
pub begins_whole : (old now new : Option (List ℕ)) (text : List ℕ) → Appends old now text → Keeps now new →
    TakesPrefix old new text
begins_whole old now new text grown kept =
    ([], record { taken = text; grown = Appends-kept old now new text grown kept; parts = rw append-nil refl })

-- a text that was written whole
pub whole_printed : {End Fault T : Type 0} (IsAnswer : Answer End Fault → Type 0) (text : List ℕ) (end : End) (old new : Option (List ℕ))
    (result : Result (Unit {0}) T) → IsAnswer (Ok (text, end)) → OnOk result (Appends old new text) →
    OnOk result (HasWhole IsAnswer end old new)
whole_printed IsAnswer text end old new (Ok done) answer grown = (text, answer, grown)
whole_printed IsAnswer text end old new (Err fault) answer grown = tt

-- a failure before anything is printed
abbrev pub IsEarly : {End : Type 0} → Failure End → Type 0
IsEarly Refused = ⊤
IsEarly Unwritten = ⊥
IsEarly (OutOfMemory in_pieces) = ⊤
IsEarly (Stopped end) = ⊥

-- an answer that is a fault
pub early : {End Fault : Type 0} (IsAnswer : Answer End Fault → Type 0) (failure : Failure End) (fault : Fault)
    (old new : Option (List ℕ)) → IsEarly failure → IsAnswer (Err fault) → new ≡ old → FailsBy failure IsAnswer fault old new
early IsAnswer Refused fault old new is answer same = (answer, same)
early IsAnswer Unwritten fault old new is answer same = absurd is
early IsAnswer (OutOfMemory in_pieces) fault old new is answer same = inl same
early IsAnswer (Stopped end) fault old new is answer same = absurd is

-- what ends with some answers ends so with more of them
module _ {End Fault : Type 0} (IsSome IsMore : Answer End Fault → Type 0)
    (more : (answer : Answer End Fault) → IsSome answer → IsMore answer) (old new : Option (List ℕ)) where
  pub whole_more : (end : End) → HasWhole IsSome end old new → HasWhole IsMore end old new
  whole_more end printed = (printed.0, more (Ok (printed.0, end)) printed.1, printed.2)

  pub prefix_more : HasPrefix IsSome old new → HasPrefix IsMore old new
  prefix_more begun = (begun.0, begun.1, more (Ok (begun.0, begun.1)) begun.2, begun.3)

  pub fails_more : (failure : Failure End) (fault : Fault) → FailsBy failure IsSome fault old new →
      FailsBy failure IsMore fault old new
  fails_more Refused fault is = (more (Err fault) is.0, is.1)
  fails_more Unwritten fault begun = prefix_more begun
  fails_more (OutOfMemory in_pieces) fault (inl same) = inl same
  fails_more (OutOfMemory in_pieces) fault (inr begun) = inr (begun.0, prefix_more begun.1)
  fails_more (Stopped end) fault printed = whole_more end printed
