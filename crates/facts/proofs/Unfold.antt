-- Names for `unfolding(..)` that open what their own line names.
use Rattle.std.specs.Prelude.{ℕ, List, Option}
use Rattle.cap_model.specs.results.CapInstructions.{CapInstruction}
use Rattle.cap_model.specs.results.Addresses.{set_address}
use Rattle.cap_model.specs.results.Reasons.{reasons}
use Rattle.cap_model.specs.values.CapValue.{CapValue}
use Rattle.cheri_model.specs.declared.form.Form.{Form}
use Rattle.cheri_model.specs.declared.form.ThreeOp.{ThreeOp}
use Rattle.cheri_model.specs.declared.instr.Instr.{Instr}
use Rattle.cheri_model.specs.instructions.Form.{instr_of, three_instr, two_instr}
use Rattle.cheri_model.specs.instructions.Form.{immediate_instr, upper_instr, load_instr}
use Rattle.cheri_model.specs.instructions.Form.{store_instr, branch_instr, shift_instr}
use Rattle.cheri_model.specs.instructions.Form.{word_shift_instr}
use Rattle.cheri_model.specs.steps.Actions.{Action}
use Rattle.cheri_model.specs.steps.Hart.{HartState, register}
use Rattle.cheri_model.specs.declared.trace.Trap.{Trap}
use Rattle.origins.specs.declared.place.Place.{Place}
use Rattle.origins.specs.declared.place.Spot.{Spot}
use Rattle.origins.specs.Origins.{Origins}
use Rattle.facts.specs.declared.operands.Operands.{Operands}
use Rattle.facts.specs.declared.step_facts.Cleared.{Cleared}
use Rattle.facts.specs.declared.step_facts.NamedValue.{NamedValue}
use Rattle.facts.specs.declared.step_facts.UpToTwo.{UpToTwo}
use Rattle.facts.specs.declared.why.Why.{Why}
use Rattle.facts.specs.declared.why.TrapWhy.{TrapWhy}
use Rattle.facts.specs.Names.{reads_of, sets_of}
use Rattle.facts.specs.Operands.{Derivation, derivation_of}
use Rattle.facts.specs.Losses.{first_why, why_of, why_lost, lost, clears_of}
use Rattle.facts.specs.Traps.{checked_by, access_why, why_of_cause, trap_why}
use Rattle.facts.specs.StepFacts.{fetched_of, named_at}
use Rattle.facts.specs.EventFacts.{swept_in_hart, swept_places}

unfoldable pub names : Form → Action → UpToTwo Spot
unfolding reads_of sets_of
names form act = reads_of form

-- derivations, by the instructions of each form
unfoldable pub derivations : ThreeOp → ℕ → ℕ → ℕ → HartState → Option Derivation
unfolding derivation_of three_instr two_instr immediate_instr upper_instr instr_of shift_instr word_shift_instr load_instr store_instr branch_instr
derivations op cd c1 c2 hart = derivation_of (three_instr op cd c1 c2) hart

unfoldable pub losses : CapInstruction → Operands → Option Why
unfolding why_lost first_why why_of reasons set_address
losses op o = why_lost op o

unfoldable pub clearing : CapInstruction → Operands → Option Cleared
unfolding lost clears_of why_lost first_why why_of reasons
clearing op o = lost op o

unfoldable pub traps : Option Instr → HartState → Trap → TrapWhy
unfolding why_of_cause access_why checked_by register
traps fetched hart trap = trap_why fetched hart trap

-- what a hart fetches, and what it names
unfoldable pub stepping : HartState → List CapValue → Origins → ℕ → Spot → NamedValue
unfolding named_at fetched_of
stepping hart memory origins number spot = named_at hart memory origins number spot

-- what a sweep clears
unfoldable pub sweeping : ℕ → ℕ → ℕ → HartState → List Place
unfolding swept_in_hart swept_places
sweeping lo hi number hart = swept_in_hart lo hi number hart
