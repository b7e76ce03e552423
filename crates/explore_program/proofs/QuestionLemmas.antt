-- What was printed to a question, as the ending of a command.
use Rattle.std.proofs.Common.{◌≡◌, ℕ, Bool, List, map, Option, Result, Ok, Err, refl, sym, subst, inl}
use Rattle.cheri_model.specs.declared.operation.Op.{Op}
use Rattle.cheri_model.specs.runs.Image.{ImageParts}
use Rattle.conditions.specs.declared.parts.Node.{Node}
use Rattle.condition_texts.specs.declared.fault.TextFault.{TextFault}
use Rattle.condition_texts.specs.declared.fault.TextFault.TheVariants as texts
use Rattle.condition_texts.specs.Conditions.{GivesCondition}
use Rattle.printing.specs.Endings.{Answer, FailsBy}
use Rattle.shown_states.specs.Endings.{IsUnwritten}
use Rattle.shown_states.specs.declared.form.Ending.{Ending}
use Rattle.sinks.specs.declared.fault.WriteFault.{WriteFault}
use Rattle.sinks.specs.declared.fault.WriteFault.TheVariants as written
use Rattle.program_io.specs.Faults.{written_fault}
use Rattle.explore_program.specs.Faults.{Fault, failure_of, property_fault, refused_properties, text_fault}
use Rattle.forgotten_checks.specs.StateChecks.{IsCheckStatesAnswer}
use Rattle.explore_properties.specs.Properties.{PropertiesParts, PropertyParts}
use Rattle.explore_properties.specs.Reading.{GivesPlace}
use Rattle.explore_properties.specs.declared.fault.PropertyFault.{PropertyFault}
use Rattle.explore_properties.specs.declared.fault.PropertyFault.TheVariants as properties
use Rattle.explore_properties.specs.declared.fault.PropertyPlace.{PropertyPlace}
use Rattle.explore_program.specs.Listings.{ListedParts}
use Rattle.explore_program.specs.Questions.{explained_text, IsExplained, IsSaid, IsSaidOf, range_of, swept_by}
use Rattle.reductions.specs.declared.reduction.Keeps.{Keeps}
use Rattle.schedules.specs.declared.ranges.SweepRange.{SweepRange}
use Rattle.shown_states.specs.declared.form.Format.{Format}
use Rattle.states.specs.Searches.{SearchParts}
use Rattle.conditions.specs.Items.{ItemList}
use Rattle.condition_texts.specs.Items.{GivesItems}

-- an answer that was not written whole
pub unwritten : (IsSo : List ℕ → Ending → Type 0) (IsAnswer : Answer Ending Fault → Type 0) (fault : WriteFault) (old new : Option (List ℕ))
    → ((text : List ℕ) (ending : Ending) → IsSo text ending → IsAnswer (Ok (text, ending)))
    → IsUnwritten (λ text. (ending : Ending) × IsSo text ending) old new fault
    → FailsBy (failure_of (written_fault fault)) IsAnswer (written_fault fault) old new
unwritten IsSo IsAnswer written.Write old new so begun =
    (begun.0, begun.1.0, so begun.0 begun.1.0 begun.1.1, begun.2)
unwritten IsSo IsAnswer written.NoMemory old new so none = inl none

-- ---- questions that a text writes

-- what the text writes is asked
pub said_of : {X E : Type 0} (fault : E → Fault) (answers : X → List ℕ → Ending → Type 0) (meaning : Result X E) (x : X)
    → meaning ≡ Ok x → (answer : Answer Ending Fault) → IsSaid (answers x) answer → IsSaidOf fault answers meaning answer
said_of {X} {E} fault answers meaning x is answer said =
    subst (λ (m : Result X E). IsSaidOf fault answers m answer) (sym is) said

refused_by : {X E : Type 0} (fault : E → Fault) (answers : X → List ℕ → Ending → Type 0) (meaning : Result X E) (e : E)
    → meaning ≡ Err e → IsSaidOf fault answers meaning (Err (fault e))
refused_by {X} {E} fault answers meaning e is =
    subst (λ (m : Result X E). IsSaidOf fault answers m (Err (fault e))) (sym is) refl

abbrev pub condition_fault : ℕ → Fault
condition_fault byte = text_fault (texts.Condition byte)

abbrev pub place_fault : ℕ → Fault
place_fault byte = text_fault (texts.Place byte)

pub condition_fails : (answers : List Node → List ℕ → Ending → Type 0) (meaning : Result (List Node) ℕ) (fault : TextFault)
    (old new : Option (List ℕ)) → GivesCondition (Err fault) meaning → new ≡ old
    → FailsBy (failure_of (text_fault fault)) (IsSaidOf condition_fault answers meaning) (text_fault fault) old new
condition_fails answers meaning (texts.Condition byte) old new is same = (refused_by condition_fault answers meaning byte is, same)
condition_fails answers meaning (texts.Place byte) old new is same = absurd is
condition_fails answers meaning texts.NoMemory old new is same = inl same

pub items_fail : (answers : ItemList → List ℕ → Ending → Type 0) (meaning : Result ItemList ℕ) (fault : TextFault)
    (old new : Option (List ℕ)) → GivesItems (Err fault) meaning → new ≡ old
    → FailsBy (failure_of (text_fault fault)) (IsSaidOf place_fault answers meaning) (text_fault fault) old new
items_fail answers meaning (texts.Place byte) old new is same = (refused_by place_fault answers meaning byte is, same)
items_fail answers meaning (texts.Condition byte) old new is same = absurd is
items_fail answers meaning texts.NoMemory old new is same = inl same

pub properties_fail : (answers : PropertiesParts → List ℕ → Ending → Type 0) (meaning : Result PropertiesParts PropertyPlace)
    (fault : PropertyFault) (old new : Option (List ℕ)) → GivesPlace (Err fault) meaning → new ≡ old
    → FailsBy (failure_of (refused_properties fault)) (IsSaidOf property_fault answers meaning) (refused_properties fault) old new
properties_fail answers meaning (properties.Place place) old new is same = (refused_by property_fault answers meaning place is, same)
properties_fail answers meaning properties.NoMemory old new is same = inl same

-- what was read of a listing is checked
pub check_asked : (keeps : Keeps) (search : SearchParts) (explained : Bool) (listed : ListedParts) (sweeps : List SweepRange) (read : PropertiesParts)
    (list : List PropertyParts) (format : Format) (meaning : Result PropertiesParts PropertyPlace) → meaning ≡ Ok read
    → sweeps ≡ map range_of read.sweeps → list ≡ read.properties → (answer : Answer Ending Fault)
    → IsSaid (IsExplained explained listed search.image (IsCheckStatesAnswer keeps (record search { sweeps = sweeps }) list format)) answer
    → IsSaidOf property_fault (λ r. IsExplained explained listed search.image (IsCheckStatesAnswer keeps (swept_by search r) r.properties format)) meaning answer
check_asked keeps search explained listed sweeps read list format meaning is sweeps_are list_is answer said =
    said_of property_fault (λ r. IsExplained explained listed search.image (IsCheckStatesAnswer keeps (swept_by search r) r.properties format)) meaning read is answer
    (subst (λ (ss : List SweepRange).
    IsSaid (IsExplained explained listed search.image (IsCheckStatesAnswer keeps (record search { sweeps = ss }) read.properties format)) answer) sweeps_are
    (subst (λ (ps : List PropertyParts).
    IsSaid (IsExplained explained listed search.image (IsCheckStatesAnswer keeps (record search { sweeps = sweeps }) ps format)) answer) list_is said))

-- ---- an answer with its orders

-- what was answered and explained, is said
pub explained_is : (explained : Bool) (listed : ListedParts) (image : ImageParts) (answers : List (List Op) → List ℕ → Ending → Type 0)
    (orders : List (List Op)) (told : List ℕ) (ending : Ending) → answers orders told ending
    → IsExplained explained listed image answers (explained_text explained listed image orders told) ending
explained_is explained listed image answers orders told ending is = record { orders = orders; told = told; answer = is; said_is = refl }
