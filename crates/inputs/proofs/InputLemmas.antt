-- Files that were refused, as faults of a program.
use Rattle.std.proofs.Common.{◌≡◌, refl, subst, sym, ℕ, Bool, List, Option, Result, Err, inl, inr}
use Rattle.cheri_model.specs.runs.Image.{ImageParts}
use Rattle.printing.specs.Endings.{Answer, Failure, FailsBy, OutOfMemory}
use Rattle.printing.proofs.EndingLemmas.{IsEarly, early}
use Rattle.inputs.specs.Reading.{AreTextsUnread, IsImageRefused, MeansImage, OfImage, OfMeant, OfTexts}
use Rattle.inputs.specs.declared.fault.InputFault.{InputFault}
use Rattle.inputs.specs.declared.fault.InputFault.TheVariants as faults

-- A program has the faults of files among its own: before anything is printed.
pub record IsReported {End Fault : Type 0} (of_input : InputFault → Fault) (failure_of : Fault → Failure End)
    (in_pieces : Bool) : Type 0 where
  pub memory : failure_of (of_input faults.NoMemory) ≡ OutOfMemory in_pieces
  pub early : (fault : InputFault) → IsEarly (failure_of (of_input fault))

module _ {End Fault : Type 0} (of_input : InputFault → Fault) (failure_of : Fault → Failure End) (in_pieces : Bool)
    (reported : IsReported of_input failure_of in_pieces) (old new : Option (List ℕ)) where
  -- memory that ran out
  pub memory_fails : (IsAnswer : Answer End Fault → Type 0) → new ≡ old →
      FailsBy (failure_of (of_input faults.NoMemory)) IsAnswer (of_input faults.NoMemory) old new
  memory_fails IsAnswer same =
      subst (λ (failure : Failure End). FailsBy failure IsAnswer (of_input faults.NoMemory) old new) (sym reported.memory) (inl same)

  -- a fault that is the answer
  pub input_fails : (IsAnswer : Answer End Fault → Type 0) (fault : InputFault) → IsAnswer (Err (of_input fault)) → new ≡ old →
      FailsBy (failure_of (of_input fault)) IsAnswer (of_input fault) old new
  input_fails IsAnswer fault is same = early IsAnswer (failure_of (of_input fault)) (of_input fault) old new (reported.early fault) is same

  -- texts that were not read
  pub texts_fail : (IsSo : Answer End Fault → List ℕ → List ℕ → Type 0) (listing order : Option (List ℕ)) (fault : InputFault) →
      AreTextsUnread listing order fault → new ≡ old →
      FailsBy (failure_of (of_input fault)) (λ answer. OfTexts listing order (λ f. Err (of_input f)) (IsSo answer) answer)
      (of_input fault) old new
  texts_fail IsSo listing order faults.NoMemory is same = memory_fails _ same
  texts_fail IsSo listing order faults.CannotReadListing is same = input_fails _ faults.CannotReadListing (inl (is, refl)) same
  texts_fail IsSo listing order faults.CannotReadOrder is same =
      input_fails _ faults.CannotReadOrder (inr (is.0.0, is.0.1, inl (is.1, refl))) same
  texts_fail IsSo listing order (faults.Listing fault) is same = absurd is
  texts_fail IsSo listing order (faults.Order fault) is same = absurd is

  -- a listing that was refused
  pub image_fails : (IsSo : Answer End Fault → ImageParts → Type 0) (file : Option (List ℕ)) (fault : InputFault) →
      IsImageRefused file fault → new ≡ old →
      FailsBy (failure_of (of_input fault)) (λ answer. OfImage file (λ f. Err (of_input f)) (IsSo answer) answer)
      (of_input fault) old new
  image_fails IsSo file faults.NoMemory is same = memory_fails _ same
  image_fails IsSo file faults.CannotReadListing is same = input_fails _ faults.CannotReadListing (inl (is, refl)) same
  image_fails IsSo file (faults.Listing fault) is same =
      input_fails _ (faults.Listing fault)
      (inr (
        is.0,
        is.1,
        subst (λ (r : Result ImageParts InputFault). OfMeant {A = Answer End Fault} r (λ f. Err (of_input f))
            (IsSo (Err (of_input (faults.Listing fault)))) (Err (of_input (faults.Listing fault)))) (sym is.2)
            refl,
      )) same
  image_fails IsSo file faults.CannotReadOrder is same = absurd is
  image_fails IsSo file (faults.Order fault) is same = absurd is

-- what is so of the image is an answer
pub of_image : {A : Type 0} (file : Option (List ℕ)) (refused : InputFault → A) (IsSo : ImageParts → Type 0) (answer : A) (image : ImageParts) →
    MeansImage file image → IsSo image → OfImage file refused IsSo answer
of_image file refused IsSo answer image means so =
    inr (means.0, means.1, subst (λ (r : Result ImageParts InputFault). OfMeant r refused IsSo answer) (sym means.2) so)
