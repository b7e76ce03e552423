-- The commands of `cheri_sim` are such as `clap` defines the reading of, and what a fault of that reading means for any program.
use Rattle.std.proofs.Common.{◌≡◌, ◌∙◌, true, List, [], ◌∷◌, Option, Some, None, Result, Err, refl, sym, ap, subst, inl, inr}
use Rattle.std.specs.Prelude.{option_and_then, option_map, ok_or, IfOk, IsErrAnd, ◌⊎◌}
use Rattle.clap.specs.Words.{App, HasKind, IsAmong, Kinds, Text, fault_of, is_simple, is_simple_and_free, kind_of, subcommand_of}
use Rattle.clap.specs.declared.error.Error.{Error}
use Rattle.clap.proofs.OnLiterals.{clap_on_literals}
use Rattle.clap.specs.declared.error.kind.ErrorKind.{ErrorKind}
use Rattle.clap.specs.declared.error.kind.ErrorKind.TheVariants as kinds
use Rattle.command_line.specs.declared.faults.CommandFault.{CommandFault}
use Rattle.command_line.specs.declared.faults.CommandFault.TheVariants.{Usage}
use Rattle.command_line.specs.Commands.{program}
use Rattle.command_line.specs.Faults.{fault_of_kind}
use Rattle.command_line.specs.Requests.{Asked, asked, asked_of}

pub program_is_simple : is_simple program ≡ true
unfolding clap_on_literals
program_is_simple = refl

pub program_is_free : is_simple_and_free program ≡ true
unfolding clap_on_literals
program_is_free = refl

-- what a command asks for where there is no fault
pub record Reads {A : Type 0} (program : App) (met : List Text → Option A) (asked : List Text → Option A) : Type 0 where
  pub without_fault : (args : List Text) → fault_of program args ≡ [] → asked args ≡ met args
  pub with_fault : (args : List Text) (k : ErrorKind) (ks : Kinds) → fault_of program args ≡ k ∷ ks → asked args ≡ None

abbrev pub sim_met : List Text → Option Asked
sim_met args = option_and_then (λ found. asked_of found.0 found.1) (subcommand_of program args)

pub sim_reads : Reads program sim_met asked
unfolding asked
sim_reads = record {
  without_fault = λ args none. rw none refl;
  with_fault = λ args k ks some. rw some refl;
}

module _ {A : Type 0} (program : App) (met asked : List Text → Option A) (reads : Reads program met asked) where
  -- where an error other than out of memory came, arguments ask for nothing
  asked_at_error : (args : List Text) (kind : ErrorKind) →
      (kind ≡ kinds.OutOfMemory) ⊎ IsAmong kind (fault_of program args) → Usage ≡ fault_of_kind kind → asked args ≡ None
  asked_at_error args kind (inl memory) usage = (let bad : Usage ≡ fault_of_kind kinds.OutOfMemory = usage ∙ ap fault_of_kind memory in cc)
  asked_at_error args kind (inr among) usage = by (fault_of program args) refl among
    where
      by : (ks : Kinds) → fault_of program args ≡ ks → IsAmong kind ks → asked args ≡ None
      by [] e among = absurd among
      by (k ∷ ks) e among = reads.with_fault args k ks e

  -- an error told as no command
  pub usage_told : {T : Type 0} (app : App) (args : List Text) (error : Error) (result : Result T CommandFault) →
      app ≡ program → HasKind (fault_of app args) error → IsErrAnd result (λ fault. fault ≡ fault_of_kind (kind_of error)) →
      result ≡ Err Usage → asked args ≡ None
  usage_told {T} app args error result is has given usage =
      asked_at_error args (kind_of error) (subst (λ (a : App). HasKind (fault_of a args) error) is has)
      (subst (λ (r : Result T CommandFault). IsErrAnd r (λ fault. fault ≡ fault_of_kind (kind_of error))) usage given)

  -- arguments without a fault ask for what was met of them
  pub asked_is_met : (app : App) (args : List Text) → app ≡ program → fault_of app args ≡ [] → asked args ≡ met args
  asked_is_met app args is none = reads.without_fault args (ap (λ a. fault_of a args) (sym is) ∙ none)

-- a request that was answered is what the arguments ask for
pub request_told : {A T : Type 0} (by : T → A) (asked : Option A) (request : Option T) (result : Result T CommandFault) →
    asked ≡ option_map by request → result ≡ ok_or request Usage → IfOk result (λ r. asked ≡ Some (by r))
request_told {A} {T} by asked (Some request) result is same =
    subst (λ (r : Result T CommandFault). IfOk r (λ q. asked ≡ Some (by q))) (sym same) is
request_told {A} {T} by asked None result is same =
    subst (λ (r : Result T CommandFault). IfOk r (λ q. asked ≡ Some (by q))) (sym same) tt

-- and where none was, they ask for nothing
pub no_request_told : {A T : Type 0} (by : T → A) (asked : Option A) (request : Option T) (result : Result T CommandFault) →
    asked ≡ option_map by request → result ≡ ok_or request Usage → result ≡ Err Usage → asked ≡ None
no_request_told by asked (Some request) result is same usage = (let bad : ok_or (Some request) Usage ≡ Err Usage = sym same ∙ usage in cc)
no_request_told by asked None result is same usage = is
