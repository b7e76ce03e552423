-- Harts that go round for ever, one alone and all in any order.
use Rattle.std.proofs.Common.{◌≡◌, ℕ, ◌+◌, ◌-◌, ◌*◌, ◌<◌, eqb, zero, suc, Bool, true, false, cond, not, ◌&&◌, ◌||◌, List, [], ◌∷◌, All, length, get_or, refl, sym, ap, ◌∙◌, subst, arith, inl, inr}
use Rattle.std.specs.Prelude.{slice_set, nat_lt}
use Rattle.std.proofs.lemmas.Bool.{and_parts, false≢true, cases_lt, cases_eq}
use Rattle.std.proofs.lemmas.List.{length-set, get_or-set_same, get_or-set_other}
use Rattle.std.proofs.lemmas.List.Elements.{All-head, All-tail}
use Rattle.cap_model.specs.values.CapValue.{CapValue, IsLawfulValue}
use Rattle.cheri_model.specs.declared.instr.Instr.{Instr}
use Rattle.cheri_model.specs.declared.trace.Status.{Status}
use Rattle.cheri_model.specs.declared.trace.Status.TheVariants.{Running, Halted, Trapped}
use Rattle.cheri_model.specs.steps.Hart.{HartState}
use Rattle.cheri_model.specs.steps.HartStep.{hart_step}
use Rattle.cheri_model.specs.runs.Image.{ImageParts}
use Rattle.cheri_model.specs.runs.Machine.{MachineState, is_running, no_hart, hart_at, state_after_step}
use Rattle.cheri_model.specs.runs.Replay.{are_legal_steps, state_after_steps}
use Rattle.cheri_model.specs.runs.Authority.{EachOfHart, EachOfState}
use Rattle.cheri_model.proofs.Runs.Granted.{IsGood}
use Rattle.cheri_model.proofs.Runs.Confined.{step_good}
use Rattle.sample_draws.specs.declared.cycles.Cycle.{Cycle}
use Rattle.sample_draws.specs.Cycles.{same_value, same_values, same_hart, cycle_from, is_back, gone_on}
use Rattle.sample_draws.specs.Orders.{is_changed}
use Rattle.sample_steps.specs.declared.hanging.TheConstants.{ALONE}
use Rattle.sample_steps.specs.Hangs.{goes_round, stays, all_stay}
use Rattle.sample_steps.proofs.StoreLemmas.{same_value_is}
use Rattle.sample_runs.specs.Runs.{StaysHung}
use Rattle.sample_runs.proofs.RunLemmas.{less_of}

-- ---- values that are the same

pub same_values_are : (vs ws : List CapValue) → All IsLawfulValue vs → All IsLawfulValue ws → same_values vs ws ≡ true → vs ≡ ws
unfolding same_values
same_values_are [] [] a b is = refl
same_values_are [] (w ∷ ws) a b is = absurd (false≢true is)
same_values_are (v ∷ vs) [] a b is = absurd (false≢true is)
same_values_are (v ∷ vs) (w ∷ ws) a b is =
    let parts = and_parts (same_value v w) (same_values vs ws) is in
    let head : v ≡ w = same_value_is v w (All-head IsLawfulValue v vs a) (All-head IsLawfulValue w ws b) parts.0 in
    let tail : vs ≡ ws = same_values_are vs ws (All-tail IsLawfulValue v vs a) (All-tail IsLawfulValue w ws b) parts.1 in
    λ i. head i ∷ tail i

running_is : (s : Status) → is_running s ≡ true → s ≡ Running
running_is Running is = refl
running_is Halted is = absurd (false≢true is)
running_is (Trapped trap) is = absurd (false≢true is)

pub same_hart_is : (a b : HartState) → EachOfHart IsLawfulValue a → EachOfHart IsLawfulValue b → same_hart a b ≡ true → a ≡ b
unfolding same_hart
same_hart_is a b good also is =
    let one = and_parts (is_running a.status && is_running b.status && same_value a.pcc b.pcc) (same_values a.regs b.regs) is in
    let two = and_parts (is_running a.status && is_running b.status) (same_value a.pcc b.pcc) one.0 in
    let three = and_parts (is_running a.status) (is_running b.status) two.0 in
    let status : a.status ≡ b.status = running_is a.status three.0 ∙ sym (running_is b.status three.1) in
    let pcc : a.pcc ≡ b.pcc = same_value_is a.pcc b.pcc good.pcc also.pcc two.1 in
    let regs : a.regs ≡ b.regs = same_values_are a.regs b.regs good.regs also.regs one.1 in
    λ i. record { regs = regs i; pcc = pcc i; status = status i }

-- ---- one hart alone

-- its next step leaves memory, and it runs on
pub record IsQuiet (program : List Instr) (memory : List CapValue) (hart : HartState) : Type 0 where
  pub same : (hart_step program hart memory).memory ≡ memory
  pub runs : is_running (hart_step program hart memory).hart.status ≡ true

-- the hart after one step, and after so many, where none changes memory
abbrev pub next_of : List Instr → List CapValue → HartState → HartState
next_of program memory hart = (hart_step program hart memory).hart

pub alone_after : List Instr → List CapValue → ℕ → HartState → HartState
alone_after program memory zero hart = hart
alone_after program memory (suc n) hart = alone_after program memory n (next_of program memory hart)

abbrev pub GoesOn : List Instr → List CapValue → HartState → Type 0
GoesOn program memory hart = (n : ℕ) → IsQuiet program memory (alone_after program memory n hart)

one_more : (program : List Instr) (memory : List CapValue) (n : ℕ) (hart : HartState)
    → alone_after program memory (suc n) hart ≡ next_of program memory (alone_after program memory n hart)
unfolding alone_after
one_more program memory zero hart = refl
one_more program memory (suc n) hart = one_more program memory n (next_of program memory hart)

both_after : (program : List Instr) (memory : List CapValue) (b a n : ℕ) (hart : HartState) → n ≡ a + b
    → alone_after program memory n hart ≡ alone_after program memory a (alone_after program memory b hart)
unfolding alone_after
both_after program memory zero a n hart is =
    let e : n ≡ a = omega arith in
    ap (λ k. alone_after program memory k hart) e
both_after program memory (suc b) a zero hart is = absurd (omega arith)
both_after program memory (suc b) a (suc n) hart is =
    both_after program memory b a n (next_of program memory hart) (omega arith)

pub goes_on_from : (program : List Instr) (memory : List CapValue) (hart : HartState) → IsQuiet program memory hart
    → GoesOn program memory (next_of program memory hart) → (n : ℕ) → IsQuiet program memory (alone_after program memory n hart)
unfolding alone_after
goes_on_from program memory hart quiet rest zero = quiet
goes_on_from program memory hart quiet rest (suc n) = rest n

-- one that comes back goes on
periodic : (program : List Instr) (memory : List CapValue) (hart : HartState) (q : ℕ) → 0 < q
    → alone_after program memory q hart ≡ hart
    → ((i : ℕ) → i < q → IsQuiet program memory (alone_after program memory i hart))
    → (fuel n : ℕ) → n < fuel → IsQuiet program memory (alone_after program memory n hart)
periodic program memory hart q some back quiet zero n h = absurd (omega arith)
periodic program memory hart q some back quiet (suc fuel) n h = elim (cases_lt n q) [
  | inl below ↦ quiet n below
  | inr above ↦
      let e : alone_after program memory n hart ≡ alone_after program memory (n - q) hart =
      both_after program memory q (n - q) n hart (omega arith) ∙ ap (alone_after program memory (n - q)) back in
      subst (IsQuiet program memory) (sym e) (periodic program memory hart q some back quiet fuel (n - q) (omega arith))
]

later : (program : List Instr) (memory : List CapValue) (hart : HartState) (j : ℕ) → GoesOn program memory hart
    → GoesOn program memory (alone_after program memory j hart)
later program memory hart j goes = λ n.
    subst (IsQuiet program memory) (both_after program memory j n (n + j) hart refl) (goes (n + j))

not_false : (b : Bool) → not b ≡ false → b ≡ true
not_false true e = refl
not_false false e = sym e

module _ (program : List Instr) (memory : List CapValue) (sources : List CapValue) (good_memory : All (IsGood sources) memory) where
  lawful_all : (vs : List CapValue) → All (IsGood sources) vs → All IsLawfulValue vs
  lawful_all vs good = λ k v inside. (good k v inside).lawful

  lawful_hart : (hart : HartState) → EachOfHart (IsGood sources) hart → EachOfHart IsLawfulValue hart
  lawful_hart hart good = record { pcc = good.pcc.lawful; regs = lawful_all hart.regs good.regs }

  good_next : (hart : HartState) → EachOfHart (IsGood sources) hart → EachOfHart (IsGood sources) (next_of program memory hart)
  good_next hart good = (step_good sources program hart memory good good_memory).hart

  same_memory : (hart : HartState) → EachOfHart (IsGood sources) hart
      → is_changed memory (hart_step program hart memory).memory ≡ false → (hart_step program hart memory).memory ≡ memory
  unfolding is_changed
  same_memory hart good is =
      let after = step_good sources program hart memory good good_memory in
      sym (same_values_are memory (hart_step program hart memory).memory (lawful_all memory good_memory)
      (lawful_all (hart_step program hart memory).memory after.memory)
      (not_false (same_values memory (hart_step program hart memory).memory) is))

  -- what goes round within so many steps goes on
  abbrev Rounds : ℕ → Type 0
  Rounds left = (cycle : Cycle) (hart : HartState) (j : ℕ) → EachOfHart (IsGood sources) cycle.marked
      → EachOfHart (IsGood sources) hart → hart ≡ alone_after program memory j cycle.marked
      → ((i : ℕ) → i < j → IsQuiet program memory (alone_after program memory i cycle.marked))
      → goes_round program left cycle hart memory ≡ true → GoesOn program memory hart

  marked_or : (left : ℕ) → Rounds left → (cycle : Cycle) (next : HartState) (j : ℕ) (b : Bool)
      → EachOfHart (IsGood sources) cycle.marked → EachOfHart (IsGood sources) next
      → next ≡ alone_after program memory j cycle.marked
      → ((i : ℕ) → i < j → IsQuiet program memory (alone_after program memory i cycle.marked))
      → goes_round program left (cond b (record { marked = next; since = 0; span = 2 * cycle.span })
      (record cycle { since = cycle.since + 1 })) next memory ≡ true → GoesOn program memory next
  unfolding alone_after
  marked_or left rounds cycle next j true good_marked good is_next quiet is =
      rounds (record { marked = next; since = 0; span = 2 * cycle.span }) next 0 good good refl (λ i below. absurd (omega arith)) is
  marked_or left rounds cycle next j false good_marked good is_next quiet is =
      rounds (record cycle { since = cycle.since + 1 }) next j good_marked good is_next quiet is

  back_or : (left : ℕ) → Rounds left → (cycle : Cycle) (hart : HartState) (j : ℕ) (b : Bool)
      → EachOfHart (IsGood sources) cycle.marked → EachOfHart (IsGood sources) hart
      → hart ≡ alone_after program memory j cycle.marked
      → ((i : ℕ) → i < suc j → IsQuiet program memory (alone_after program memory i cycle.marked))
      → next_of program memory hart ≡ alone_after program memory (suc j) cycle.marked
      → IsQuiet program memory hart → is_back cycle (next_of program memory hart) ≡ b
      → cond b true (goes_round program left (gone_on (next_of program memory hart) cycle) (next_of program memory hart)
      (hart_step program hart memory).memory) ≡ true
      → GoesOn program memory hart
  back_or left rounds cycle hart j true good_marked good at quiet is_next here back is =
      let next = next_of program memory hart in
      let same : cycle.marked ≡ next =
      same_hart_is cycle.marked next (lawful_hart cycle.marked good_marked) (lawful_hart next (good_next hart good)) back in
      let goes : GoesOn program memory cycle.marked =
      (λ n. periodic program memory cycle.marked (suc j) (omega arith) (sym is_next ∙ sym same) quiet (suc n) n (omega arith)) in
      subst (GoesOn program memory) (sym at) (later program memory cycle.marked j goes)
  back_or left rounds cycle hart j false good_marked good at quiet is_next here back is =
      let next = next_of program memory hart in
      let on : goes_round program left (gone_on next cycle) next memory ≡ true =
      ap (λ m. goes_round program left (gone_on next cycle) next m) (sym here.same) ∙ is in
      goes_on_from program memory hart here
      (marked_or left rounds cycle next (suc j) (eqb (cycle.since + 1) cycle.span) good_marked (good_next hart good) is_next quiet on)

  runs_or : (left : ℕ) → Rounds left → (cycle : Cycle) (hart : HartState) (j : ℕ) (b : Bool)
      → EachOfHart (IsGood sources) cycle.marked → EachOfHart (IsGood sources) hart
      → hart ≡ alone_after program memory j cycle.marked
      → ((i : ℕ) → i < j → IsQuiet program memory (alone_after program memory i cycle.marked))
      → is_changed memory (hart_step program hart memory).memory ≡ false
      → is_running (next_of program memory hart).status ≡ b
      → cond (not b) false (cond (is_back cycle (next_of program memory hart)) true
      (goes_round program left (gone_on (next_of program memory hart) cycle) (next_of program memory hart)
      (hart_step program hart memory).memory)) ≡ true
      → GoesOn program memory hart
  runs_or left rounds cycle hart j false good_marked good at quiet unchanged runs is = absurd (false≢true is)
  runs_or left rounds cycle hart j true good_marked good at quiet unchanged runs is =
      let here : IsQuiet program memory hart = record { same = same_memory hart good unchanged; runs = runs } in
      let all : (i : ℕ) → i < suc j → IsQuiet program memory (alone_after program memory i cycle.marked) =
      (λ i below. elim (cases_lt i j) [
        | inl less ↦ quiet i less
        | inr more ↦
            let e : j ≡ i = omega arith in
            subst (IsQuiet program memory) (at ∙ ap (λ k. alone_after program memory k cycle.marked) e) here
      ]) in
      let is_next : next_of program memory hart ≡ alone_after program memory (suc j) cycle.marked =
      ap (next_of program memory) at ∙ sym (one_more program memory j cycle.marked) in
      back_or left rounds cycle hart j (is_back cycle (next_of program memory hart)) good_marked good at all is_next here refl is

  changed_or : (left : ℕ) → Rounds left → (cycle : Cycle) (hart : HartState) (j : ℕ) (b : Bool)
      → EachOfHart (IsGood sources) cycle.marked → EachOfHart (IsGood sources) hart
      → hart ≡ alone_after program memory j cycle.marked
      → ((i : ℕ) → i < j → IsQuiet program memory (alone_after program memory i cycle.marked))
      → is_changed memory (hart_step program hart memory).memory ≡ b
      → cond b false (cond (not (is_running (next_of program memory hart).status)) false
      (cond (is_back cycle (next_of program memory hart)) true
      (goes_round program left (gone_on (next_of program memory hart) cycle) (next_of program memory hart)
      (hart_step program hart memory).memory))) ≡ true
      → GoesOn program memory hart
  changed_or left rounds cycle hart j true good_marked good at quiet e is = absurd (false≢true is)
  changed_or left rounds cycle hart j false good_marked good at quiet e is =
      runs_or left rounds cycle hart j (is_running (next_of program memory hart).status) good_marked good at quiet e refl is

  round_goes_on : (left : ℕ) (cycle : Cycle) (hart : HartState) (j : ℕ) → EachOfHart (IsGood sources) cycle.marked
      → EachOfHart (IsGood sources) hart → hart ≡ alone_after program memory j cycle.marked
      → ((i : ℕ) → i < j → IsQuiet program memory (alone_after program memory i cycle.marked))
      → goes_round program left cycle hart memory ≡ true → GoesOn program memory hart
  unfolding goes_round
  round_goes_on zero cycle hart j good_marked good at quiet is = absurd (false≢true is)
  round_goes_on (suc left) cycle hart j good_marked good at quiet is =
      changed_or left (round_goes_on left) cycle hart j (is_changed memory (hart_step program hart memory).memory)
      good_marked good at quiet refl is

  stays_goes_on : (hart : HartState) → EachOfHart (IsGood sources) hart → is_running hart.status ≡ true
      → stays program memory hart ≡ true → GoesOn program memory hart
  unfolding alone_after
  stays_goes_on hart good runs is =
      let round : goes_round program ALONE (cycle_from hart) hart memory ≡ true =
      sym (ap (λ b. not b || goes_round program ALONE (cycle_from hart) hart memory) runs) ∙ is in
      round_goes_on ALONE (cycle_from hart) hart 0 good good refl (λ i below. absurd (omega arith)) round

  pub all_go_on : (harts : List HartState) (n : ℕ) → All (EachOfHart (IsGood sources)) harts
      → all_stay program memory harts ≡ true → n < length harts → is_running (get_or harts n no_hart).status ≡ true
      → GoesOn program memory (get_or harts n no_hart)
  unfolding all_stay
  all_go_on [] n good is inside runs = absurd (omega arith)
  all_go_on (hart ∷ harts) zero good is inside runs =
      let parts = and_parts (stays program memory hart) (all_stay program memory harts) is in
      stays_goes_on hart (All-head (EachOfHart (IsGood sources)) hart harts good) runs parts.0
  all_go_on (hart ∷ harts) (suc n) good is inside runs =
      let parts = and_parts (stays program memory hart) (all_stay program memory harts) is in
      all_go_on harts n (All-tail (EachOfHart (IsGood sources)) hart harts good) parts.1 (omega arith) runs

-- ---- all harts

-- memory is so, and each hart that runs goes on for ever
record GoOn (program : List Instr) (memory : List CapValue) (state : MachineState) : Type 0 where
  pub same : state.memory ≡ memory
  pub each : (n : ℕ) → n < length state.harts → is_running (hart_at state n).status ≡ true → GoesOn program memory (hart_at state n)

module _ (image : ImageParts) (memory : List CapValue) where
  -- a hart that steps
  record IsStepped (state : MachineState) (number : ℕ) : Type 0 where
    pub go_on : GoOn image.program memory (state_after_step image state number)
    pub running : (n : ℕ) → is_running (hart_at (state_after_step image state number) n).status ≡ is_running (hart_at state n).status

  one_step : (state : MachineState) (number : ℕ) → GoOn image.program memory state → number < length state.harts
      → is_running (hart_at state number).status ≡ true → IsStepped state number
  unfolding state_after_step hart_at alone_after
  one_step state number go inside runs =
      let goes = go.each number inside runs in
      let hart = get_or state.harts number no_hart in
      let now = (hart_step image.program hart state.memory).hart in
      let quiet : IsQuiet image.program state.memory hart = subst (λ m. IsQuiet image.program m hart) (sym go.same) (goes 0) in
      let next : GoesOn image.program memory now =
      subst (λ m. GoesOn image.program memory (hart_step image.program hart m).hart) (sym go.same) (λ n. goes (suc n)) in
      record {
        go_on = record {
          same = quiet.same ∙ go.same;
          each = λ n within runs_n. elim (cases_eq n number) [
            | inl same ↦ subst (GoesOn image.program memory)
                (sym (ap (λ k. get_or (slice_set state.harts number now) k no_hart) same ∙ get_or-set_same state.harts number now no_hart inside)) next
            | inr other ↦
                let e = get_or-set_other state.harts number n now no_hart other in
                subst (GoesOn image.program memory) (sym e)
                (go.each n (omega (arith, length-set state.harts number now)) (ap (λ (h : HartState). is_running h.status) (sym e) ∙ runs_n))
          ];
        };
        running = λ n. elim (cases_eq n number) [
          | inl same ↦
              ap (λ k. is_running (get_or (slice_set state.harts number now) k no_hart).status) same
              ∙ ap (λ (h : HartState). is_running h.status) (get_or-set_same state.harts number now no_hart inside)
              ∙ quiet.runs ∙ sym runs ∙ ap (λ k. is_running (get_or state.harts k no_hart).status) (sym same)
          | inr other ↦ ap (λ (h : HartState). is_running h.status) (get_or-set_other state.harts number n now no_hart other)
        ];
      }

  record IsGone (state after : MachineState) : Type 0 where
    pub same : after.memory ≡ memory
    pub running : (n : ℕ) → is_running (hart_at after n).status ≡ is_running (hart_at state n).status

  steps_go_on : (steps : List ℕ) (state : MachineState) → GoOn image.program memory state → are_legal_steps image state steps ≡ true
      → IsGone state (state_after_steps image state steps)
  unfolding are_legal_steps state_after_steps
  steps_go_on [] state go legal = record { same = go.same; running = λ n. refl }
  steps_go_on (number ∷ steps) state go legal =
      let one = and_parts (nat_lt number (length state.harts) && is_running (hart_at state number).status)
      (are_legal_steps image (state_after_step image state number) steps) legal in
      let may = and_parts (nat_lt number (length state.harts)) (is_running (hart_at state number).status) one.0 in
      let step = one_step state number go (less_of number (length state.harts) may.0) may.1 in
      let rest = steps_go_on steps (state_after_step image state number) step.go_on one.1 in
      record { same = rest.same; running = λ n. rest.running n ∙ step.running n }

pub stays_hung : (image : ImageParts) (sources : List CapValue) (state : MachineState) → EachOfState (IsGood sources) state
    → all_stay image.program state.memory state.harts ≡ true → StaysHung image state
unfolding hart_at
stays_hung image sources state good stay =
    let go : GoOn image.program state.memory state = record {
      same = refl;
      each = λ n inside runs. all_go_on image.program state.memory sources good.memory state.harts n good.harts stay inside runs;
    } in
    record {
      memory = λ steps legal. (steps_go_on image state.memory steps state go legal).same;
      running = λ steps hart legal. (steps_go_on image state.memory steps state go legal).running hart;
    }
