-- Steps of one hart in a machine: what they leave of the machine.
use Rattle.std.proofs.Common.{◌≡◌, refl, sym, ap, ◌∙◌, ℕ, zero, suc, ◌<◌, List, length, replicate}
use Rattle.std.proofs.lemmas.List.{get_or-set_same, set-set, set-get_or, length-set}
use Rattle.cheri_model.specs.declared.instr.Instr.{Instr}
use Rattle.cap_model.specs.values.CapValue.{CapValue}
use Rattle.cheri_model.specs.steps.Hart.{HartState}
use Rattle.cheri_model.specs.steps.HartStep.{Stepped, done, hart_step}
use Rattle.cheri_model.specs.runs.Image.{ImageParts}
use Rattle.cheri_model.specs.runs.Machine.{MachineState, hart_at, no_hart, state_after_step}
use Rattle.cheri_model.specs.runs.Replay.{state_after_steps}
use Rattle.asm_laws.specs.Stretches.{after_steps, with_hart}

-- the outcome of the step before says nothing of those to come
same_steps : (program : List Instr) (n : ℕ) (s : Stepped) (number : ℕ) (state : MachineState) →
    with_hart state number (after_steps program n (done s.hart s.memory)) ≡ with_hart state number (after_steps program n s)
unfolding after_steps with_hart
same_steps program zero s number state = refl
same_steps program (suc n) s number state = refl

-- a hart written over is the last one
over : (state : MachineState) (number : ℕ) (first second : Stepped) →
    with_hart (with_hart state number first) number second ≡ with_hart state number second
unfolding with_hart
over state number first second =
    ap (λ (harts : List HartState). record {
      harts = harts;
      memory =
          second.memory;
    }) (set-set state.harts number first.hart second.hart)

hart_there : (state : MachineState) (number : ℕ) (s : Stepped) → number < length state.harts →
    hart_at (with_hart state number s) number ≡ s.hart
unfolding hart_at with_hart
hart_there state number s inside = get_or-set_same state.harts number s.hart no_hart inside

harts_there : (state : MachineState) (number : ℕ) (s : Stepped) →
    length (with_hart state number s).harts ≡ length state.harts
unfolding with_hart
harts_there state number s = length-set state.harts number s.hart

step_is : (image : ImageParts) (state : MachineState) (number : ℕ) →
    state_after_step image state number ≡ with_hart state number (hart_step image.program (hart_at state number) state.memory)
unfolding state_after_step with_hart
step_is image state number = refl

nothing_is : (state : MachineState) (number : ℕ) →
    state ≡ with_hart state number (done (hart_at state number) state.memory)
unfolding hart_at with_hart
nothing_is state number =
    ap (λ (harts : List HartState). record {
      harts = harts;
      memory =
          state.memory;
    }) (sym (set-get_or state.harts number no_hart))

memory_there : (state : MachineState) (number : ℕ) (s : Stepped) →
    (with_hart state number s).memory ≡ s.memory
unfolding with_hart
memory_there state number s = refl

pub steps_are : (image : ImageParts) (state : MachineState) (number count : ℕ) →
    number < length state.harts →
    state_after_steps image state (replicate count number)
    ≡ with_hart state number (after_steps image.program count (done (hart_at state number) state.memory))
unfolding state_after_steps after_steps
steps_are image state number zero inside = nothing_is state number
steps_are image state number (suc count) inside =
    let first = hart_step image.program (hart_at state number) state.memory in
    let next = with_hart state number first in
    let there : number < length next.harts = rw (harts_there state number first) inside in
    let begins : done (hart_at next number) next.memory ≡ done first.hart first.memory =
    ap (λ (h : HartState). done h next.memory) (hart_there state number first inside)
    ∙ ap (λ (m : List CapValue). done first.hart m) (memory_there state number first) in
    ap (λ (s : MachineState). state_after_steps image s (replicate count number)) (step_is image state number)
    ∙ steps_are image next number count there
    ∙ ap (λ (s : Stepped). with_hart next number (after_steps image.program count s)) begins
    ∙ over state number first (after_steps image.program count (done first.hart first.memory))
    ∙ same_steps image.program count first number state

pub ruleset machines = (steps_are)
