-- The faults that only this program has: their lines, whether they are refusals, and what each
-- leaves of the answer.
use Rattle.std.specs.Prelude.{ℕ, Bool, true, false, List, ◌++◌, codes, decimal}
use Rattle.condition_texts.specs.declared.fault.TextFault.{TextFault}
use Rattle.condition_texts.specs.declared.fault.TextFault.TheVariants as texts
use Rattle.printing.specs.Endings.{Failure, Refused, Stopped}
use Rattle.program_io.specs.Faults as faults
use Rattle.program_io.specs.declared.fault.Fault.{Fault as FaultOf}
use Rattle.program_io.specs.declared.fault.Fault.TheVariants.{Own}
use Rattle.sample_slices.specs.declared.fault.SliceError.{SliceError}
use Rattle.sample_slices.specs.declared.fault.SliceError.TheVariants as errors
use Rattle.sample_slices.specs.declared.fault.SliceKind.{SliceKind}
use Rattle.sample_slices.specs.declared.fault.SliceKind.TheVariants as kinds
use Rattle.shown_states.specs.declared.form.Ending.{Ending}
use Rattle.explore_program.specs.declared.faults.OwnFault.{OwnFault}
use Rattle.explore_program.specs.declared.faults.OwnFault.TheVariants.{BadCondition, BadPlace}
use Rattle.explore_program.specs.declared.faults.OwnFault.TheVariants.{BadProperty, Violated}
use Rattle.explore_program.specs.declared.faults.OwnFault.TheVariants.{CannotReadMap, Map}
use Rattle.explore_program.specs.declared.faults.OwnFault.TheVariants.{CannotReadSlices, Slice}
use Rattle.explore_properties.specs.declared.fault.PropertyFault.{PropertyFault}
use Rattle.explore_properties.specs.declared.fault.PropertyFault.TheVariants as properties
use Rattle.explore_properties.specs.declared.fault.PropertyPlace.{PropertyPlace}
use Rattle.shown_states.specs.declared.form.Ending.TheVariants as endings

-- why the program answers nothing, or not all
abbrev pub Fault : Type 0
Fault = FaultOf OwnFault

-- what is wrong with a slice
abbrev pub kind_text : SliceKind → List ℕ
kind_text kinds.Form = codes "1 Form"
kind_text kinds.Other = codes "2 Other"
kind_text kinds.Twice = codes "3 Twice"

-- what standard error says of it
abbrev pub own_text : OwnFault → List ℕ
own_text (BadCondition byte) = codes "bad condition at byte " ++ decimal byte
own_text (BadPlace byte) = codes "bad place at byte " ++ decimal byte
own_text (BadProperty place) =
    codes "bad property at line " ++ (decimal place.line ++ (codes " byte " ++ decimal place.byte))
own_text CannotReadMap = codes "cannot read map"
own_text (Map line) = codes "map line " ++ decimal line
own_text CannotReadSlices = codes "cannot read slices"
own_text (Slice slice) =
    codes "slice line " ++ (decimal slice.line ++ (codes ": " ++ kind_text slice.kind))
own_text (Violated line) = codes "property line " ++ (decimal line ++ codes ": violated")

-- a condition, an item, a property, a map or a slice was refused, or a property is violated
abbrev pub is_refusal : OwnFault → Bool
is_refusal (BadCondition byte) = true
is_refusal (BadPlace byte) = true
is_refusal (BadProperty place) = true
is_refusal CannotReadMap = false
is_refusal (Map line) = true
is_refusal CannotReadSlices = false
is_refusal (Slice slice) = true
is_refusal (Violated line) = true

-- what it leaves of the answer
abbrev pub own_failure : OwnFault → Failure Ending
own_failure (BadCondition byte) = Refused
own_failure (BadPlace byte) = Refused
own_failure (BadProperty place) = Refused
own_failure CannotReadMap = Refused
own_failure (Map line) = Refused
own_failure CannotReadSlices = Refused
own_failure (Slice slice) = Refused
own_failure (Violated line) = Stopped (endings.Violated line)

-- a text that was not read
abbrev pub text_fault : TextFault → Fault
text_fault (texts.Condition byte) = Own (BadCondition byte)
text_fault (texts.Place byte) = Own (BadPlace byte)
text_fault texts.NoMemory = faults.no_memory

-- properties that were not read
abbrev pub property_fault : PropertyPlace → Fault
property_fault place = Own (BadProperty place)

abbrev pub refused_properties : PropertyFault → Fault
refused_properties (properties.Place place) = property_fault place
refused_properties properties.NoMemory = faults.no_memory

-- slices that were not merged
abbrev pub refused_slices : SliceError → Fault
refused_slices (errors.Slice slice) = Own (Slice slice)
refused_slices errors.NoMemory = faults.no_memory

-- the line of any fault, its status, and what it leaves of the answer, which is made whole before
-- it is printed
abbrev pub fault_text : Fault → List ℕ
fault_text fault = faults.fault_text own_text fault

abbrev pub status_of : Fault → ℕ
status_of fault = faults.status_of is_refusal fault

abbrev pub failure_of : Fault → Failure Ending
failure_of fault = faults.failure_of own_failure false fault
