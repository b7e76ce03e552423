-- Faults that come before anything is printed, as failures of a command.
use Rattle.std.proofs.Common.{◌≡◌, ◌≤◌, arith, sym, subst, ℕ, List, Err, Bool, true, false, refl, inl, inr}
use Rattle.std.specs.Prelude.{◌⊎◌, if◌then◌else◌, IfSome, Option, Some, Result}
use Rattle.command_line.specs.declared.faults.CommandFault.{CommandFault}
use Rattle.command_line.specs.declared.faults.CommandFault.TheVariants as commands
use Rattle.listings.specs.declared.fault.ListingFault.{ListingFault}
use Rattle.listings.specs.Faults.{no_memory as listing_no_memory}
use Rattle.inputs.specs.Faults.{listing_fault, status_of as input_status}
use Rattle.inputs.specs.declared.fault.InputFault.{InputFault}
use Rattle.inputs.specs.declared.fault.InputFault.TheVariants as inputs
use Rattle.inputs.proofs.InputLemmas.{IsReported, input_fails}
use Rattle.printing.proofs.EndingLemmas.{IsEarly}
use Rattle.printing.specs.Endings.{Answer, Failure, FailsBy}
use Rattle.program_io.specs.declared.fault.Fault.{Fault}
use Rattle.program_io.specs.declared.fault.Fault.TheVariants.{Usage, Input, CannotWrite, Own}
use Rattle.program_io.specs.Faults.{command_fault, failure_of, fault_text, input_failure, no_memory, status_of, text_of}

inputs_are_early : (End : Type 0) (in_pieces : Bool) (fault : InputFault) → IsEarly (input_failure {End = End} in_pieces fault)
inputs_are_early End in_pieces inputs.NoMemory = tt
inputs_are_early End in_pieces inputs.CannotReadListing = tt
inputs_are_early End in_pieces inputs.CannotReadOrder = tt
inputs_are_early End in_pieces (inputs.Listing fault) = tt
inputs_are_early End in_pieces (inputs.Order fault) = tt

-- what is so of a fault's text
pub text_is_so : {T : Type 0} (own : T → List ℕ) (IsSo : List ℕ → Type 0) (fault : Fault T)
    → IfSome (text_of (λ f. Some (own f)) fault) IsSo → IsSo (fault_text own fault)
text_is_so own IsSo Usage so = so
text_is_so own IsSo (Input fault) so = so
text_is_so own IsSo CannotWrite so = so
text_is_so own IsSo (Own fault) so = so

-- the status of a fault is 1, 2 or 3
input_status_range : (fault : InputFault) → (1 ≤ input_status fault) × (input_status fault ≤ 3)
input_status_range inputs.NoMemory = (omega arith, omega arith)
input_status_range inputs.CannotReadListing = (omega arith, omega arith)
input_status_range inputs.CannotReadOrder = (omega arith, omega arith)
input_status_range (inputs.Listing fault) = (omega arith, omega arith)
input_status_range (inputs.Order fault) = (omega arith, omega arith)

own_status_range : (is_refusal : Bool) → (1 ≤ (if is_refusal then 1 else 3)) × ((if is_refusal then 1 else 3) ≤ 3)
own_status_range true = (omega arith, omega arith)
own_status_range false = (omega arith, omega arith)

pub status_range : {T : Type 0} (is_refusal : T → Bool) (fault : Fault T)
    → (1 ≤ status_of is_refusal fault) × (status_of is_refusal fault ≤ 3)
status_range is_refusal Usage = (omega arith, omega arith)
status_range is_refusal (Input fault) = input_status_range fault
status_range is_refusal CannotWrite = (omega arith, omega arith)
status_range is_refusal (Own fault) = own_status_range (is_refusal fault)

-- arguments that ask for nothing are a bad command line, or there was no memory to know it
pub refused_words : {X T : Type 0} (refused : CommandFault) → (◌≡◌ {A = Result X (Fault T)} (Err (command_fault refused)) (Err Usage))
    ⊎ (◌≡◌ {A = Result X (Fault T)} (Err (command_fault refused)) (Err no_memory))
refused_words commands.Usage = inl refl
refused_words commands.NoMemory = inr refl

module _ {End T : Type 0} (own : T → Failure End) (in_pieces : Bool) where
  -- the faults of files are among a program's
  pub reported : IsReported {End = End} {Fault = Fault T} (λ fault. Input fault) (failure_of own in_pieces) in_pieces
  reported = record { memory = refl; early = inputs_are_early End in_pieces }

  module _ (IsAnswer : Answer End (Fault T) → Type 0) (old new : Option (List ℕ)) where
    -- a fault of a file that is the answer
    pub file_fails : (fault : InputFault) → IsAnswer (Err (Input fault)) → new ≡ old
        → FailsBy (failure_of own in_pieces (Input fault)) IsAnswer (Input fault) old new
    file_fails fault answer same = input_fails (λ f. Input f) (failure_of own in_pieces) in_pieces reported old new IsAnswer fault answer same

    -- a listing that was refused, or for which there was no memory
    pub listing_fails : (fault : ListingFault) → (fault ≡ listing_no_memory) ⊎ IsAnswer (Err (Input (listing_fault fault))) → new ≡ old
        → FailsBy (failure_of own in_pieces (Input (listing_fault fault))) IsAnswer (Input (listing_fault fault)) old new
    listing_fails fault (inl none) same =
        subst (λ (f : ListingFault). FailsBy (failure_of own in_pieces (Input (listing_fault f))) IsAnswer (Input (listing_fault f)) old new)
        (sym none) (inl same)
    listing_fails fault (inr answer) same = file_fails (listing_fault fault) answer same

    -- arguments that ask for nothing
    pub command_fails : {X : Type 0} (result : Result X CommandFault) (refused : CommandFault) → result ≡ Err refused
        → (result ≡ Err commands.Usage → IsAnswer (Err Usage)) → new ≡ old
        → FailsBy (failure_of own in_pieces (command_fault refused)) IsAnswer (command_fault refused) old new
    command_fails result commands.Usage is nothing same = (nothing is, same)
    command_fails result commands.NoMemory is nothing same = inl same
