-- How the code looks at the sets of a program.
use Rattle.std.proofs.Common.{◌≡◌, ◌+◌, ◌-◌, ◌/◌, ◌%◌, ◌<◌, ◌≤◌, ℕ, suc, length, List, refl, sym, ap, ◌∙◌, arith, inl, inr, ◌⊎◌, eqb-true}
use Rattle.std.specs.Prelude.{Bool, true, false, ◌==◌, ◌||◌, ◌&&◌, nat_le, if◌then◌else◌, All, Some, slice_get, slice_index_or}
use Rattle.std.proofs.lemmas.Bool.{cases_lt, cases_eq, false≢true, false_from_ne_true, or_left, or_right, or_cases}
use Rattle.std.proofs.lemmas.List.{get_or_past}
use Rattle.std.proofs.lemmas.List.Elements.{All-from_get_or}
use Rattle.std.proofs.lemmas.Option.{slice_get_within, get_or_from_slice_get}
use Rattle.cheri_model.specs.declared.form.Form.{Form}
use Rattle.cheri_model.specs.declared.instr.Instr.{Instr}
use Rattle.cheri_model.specs.instructions.Form.{form_of}
use Rattle.cheri_model.specs.steps.Actions.{address_of_target}
use Rattle.cheri_model.specs.steps.Checks.{code_base}
use Rattle.live_registers.specs.RegisterSets.{has, IsWithin, IsWithinBut}
use Rattle.live_registers.specs.declared.operands.Way.{Way}
use Rattle.live_registers.specs.declared.operands.Way.TheVariants.{Next, To, NextOr, Nowhere}
use Rattle.live_registers.specs.Operands.{reads, writes, only_computes, way_of, may_lead_to}
use Rattle.live_registers.specs.LiveSets.{LiveSets, set_at, IsRightBefore, IsRight}

-- ---- what the question looks at

within_from_but : (small large : List Bool) → IsWithinBut small 0 large → IsWithin small large
within_from_but small large each reg held = elim (cases_eq reg 0) [
  | inl zero ↦ rw zero refl
  | inr some ↦ each reg held some
]

-- each set below a number has it
unfoldable pub HasAskedTo : LiveSets → ℕ → Type 0
HasAskedTo live n = (k : ℕ) → k < n → IsWithin live.asked (slice_index_or live.sets k live.asked)

pub asked_first : (live : LiveSets) → HasAskedTo live 0
unfolding HasAskedTo
asked_first live k low = absurd (omega arith)

pub asked_more : (live : LiveSets) (n : ℕ) (set : List Bool) → slice_index_or live.sets n live.asked ≡ set →
    IsWithinBut live.asked 0 set → HasAskedTo live n → HasAskedTo live (n + 1)
unfolding HasAskedTo
asked_more live n set here within each k low = elim (cases_eq k n) [
  | inl this ↦ rw (this, here) (within_from_but live.asked set within)
  | inr other ↦ each k (omega arith)
]

pub asked_all : (live : LiveSets) (n : ℕ) → length live.sets ≤ n → HasAskedTo live n → All (IsWithin live.asked) live.sets
unfolding HasAskedTo
asked_all live n end each = All-from_get_or (IsWithin live.asked) live.sets live.asked (λ k inside. each k (omega arith))

-- ---- all registers that matter anywhere

-- a set that has what the question looks at, and those of each set below a number
pub record HasAll (live : LiveSets) (all : List Bool) (n : ℕ) : Type 0 where
  pub asked : IsWithin live.asked all
  pub below : (k : ℕ) → k < n → IsWithin (slice_index_or live.sets k live.asked) all

pub all_first : (live : LiveSets) → HasAll live live.asked 0
all_first live = record { asked = λ reg held. held; below = λ k low. absurd (omega arith) }

pub all_more : (live : LiveSets) (all more set : List Bool) (n : ℕ) → ((reg : ℕ) → has more reg ≡ (has all reg || has set reg)) →
    slice_index_or live.sets n live.asked ≡ set → HasAll live all n → HasAll live more (n + 1)
all_more live all more set n is here each = record {
  asked = λ reg held. is reg ∙ or_left (has all reg) (has set reg) (each.asked reg held);
  below = λ k low. elim (cases_eq k n) [
    | inl this ↦ rw (this, here) (λ reg held. is reg ∙ or_right (has all reg) (has set reg) held)
    | inr other ↦ λ reg held. is reg ∙ or_left (has all reg) (has set reg) (each.below k (omega arith) reg held)
  ];
}

number_in : (live : LiveSets) (all : List Bool) (n : ℕ) → length live.sets ≤ n → HasAll live all n → (k : ℕ) →
    IsWithin (slice_index_or live.sets k live.asked) all
number_in live all n end each k = elim (cases_lt k (length live.sets)) [
  | inl inside ↦ each.below k (omega arith)
  | inr outside ↦ rw (get_or_past live.sets k live.asked outside) each.asked
]

pub all_at : (live : LiveSets) (all : List Bool) (n : ℕ) → length live.sets ≤ n → HasAll live all n → (addr : ℕ) →
    IsWithin (set_at live addr) all
unfolding set_at
all_at live all n end each addr =
    elim (nat_le code_base addr && (addr % 4 == 0))
    as (λ (there : Bool). IsWithin (if there then slice_index_or live.sets ((addr - code_base) / 4) live.asked else live.asked) all) [
      | true ↦ number_in live all n end each ((addr - code_base) / 4)
      | false ↦ each.asked
    ]

-- ---- what matters behind an instruction

at_target : (live : LiveSets) (target addr : ℕ) (set : List Bool) → set ≡ set_at live (address_of_target target) →
    (addr == address_of_target target) ≡ true → IsWithin (set_at live addr) set
at_target live target addr set is same =
    let there : addr ≡ address_of_target target = eqb-true addr (address_of_target target) same in
    rw (is, there) (λ reg held. held)

-- the number of the next one, as the code counts
next_at : (live : LiveSets) (number next : ℕ) (set : List Bool) → next ≡ number →
    set ≡ set_at live (address_of_target (next + 1)) → set ≡ set_at live (address_of_target (suc number))
next_at live number next set same is =
    let one : next + 1 ≡ suc number = omega arith in
    is ∙ ap (λ (n : ℕ). set_at live (address_of_target n)) one

pub behind_next : (live : LiveSets) (way : Way) (number next addr : ℕ) (set : List Bool) → way ≡ Next → next ≡ number →
    set ≡ set_at live (address_of_target (next + 1)) → may_lead_to way number addr ≡ true → IsWithin (set_at live addr) set
unfolding may_lead_to
behind_next live way number next addr set is same set_is leads =
    at_target live (suc number) addr set (next_at live number next set same set_is) (rw is at leads)

pub behind_target : (live : LiveSets) (way : Way) (number target at addr : ℕ) (set : List Bool) → way ≡ To target → at ≡ target →
    set ≡ set_at live (address_of_target at) → may_lead_to way number addr ≡ true → IsWithin (set_at live addr) set
unfolding may_lead_to
behind_target live way number target at addr set is same set_is leads =
    at_target live target addr set (rw same at set_is) (rw is at leads)

pub behind_either : (live : LiveSets) (way : Way) (number next target at addr : ℕ) (one two both : List Bool) → way ≡ NextOr target →
    next ≡ number → at ≡ target → one ≡ set_at live (address_of_target (next + 1)) → two ≡ set_at live (address_of_target at) →
    ((reg : ℕ) → has both reg ≡ (has one reg || has two reg)) → may_lead_to way number addr ≡ true → IsWithin (set_at live addr) both
unfolding may_lead_to
behind_either live way number next target at addr one two both is same_next same one_is two_is union leads reg held =
    elim (or_cases (addr == address_of_target (suc number)) (addr == address_of_target target) (rw is at leads)) [
      | inl first ↦
          union reg ∙ or_left (has one reg) (has two reg)
          (at_target live (suc number) addr one (next_at live number next one same_next one_is) first reg held)
      | inr second ↦
          union reg ∙ or_right (has one reg) (has two reg)
          (at_target live target addr two (rw same at two_is) second reg held)
    ]

pub behind_nothing : (live : LiveSets) (way : Way) (number addr : ℕ) (set : List Bool) → way ≡ Nowhere → may_lead_to way number addr ≡ true →
    IsWithin (set_at live addr) set
unfolding may_lead_to
behind_nothing live way number addr set is leads = absurd (false≢true (rw is at leads))

-- ---- one instruction, and all

pub right_before : (live : LiveSets) (number : ℕ) (form : Form) (set behind : List Bool) →
    ((addr : ℕ) → may_lead_to (way_of form) number addr ≡ true → IsWithin (set_at live addr) behind) →
    IsWithinBut behind (writes form) set →
    ((only_computes form ≡ true) × ((writes form ≡ 0) ⊎ (has behind (writes form) ≡ false)))
    ⊎ ((has set (reads form).0 ≡ true) × (has set (reads form).1 ≡ true)) →
    IsRightBefore live number form set
right_before live number form set behind there within either = record {
  later = λ addr leads other held differs. within other (there addr leads other held) differs;
  read = elim either [
    | inr read ↦ inr read
    | inl alone ↦ inl (
      alone.0,
      λ addr leads. elim alone.1 [
        | inl zero ↦ inl zero
        | inr lost ↦ inr (false_from_ne_true (has (set_at live addr) (writes form))
            (λ held. false≢true (sym lost ∙ there addr leads (writes form) held)))
      ],
    )
  ];
}

-- each instruction below a number
unfoldable pub IsRightTo : List Instr → LiveSets → ℕ → Type 0
IsRightTo program live n = (k : ℕ) (instr : Instr) → k < n → slice_get program k ≡ Some instr →
    IsRightBefore live k (form_of instr) (slice_index_or live.sets k live.asked)

pub right_first : (program : List Instr) (live : LiveSets) → IsRightTo program live 0
unfolding IsRightTo
right_first program live k instr low there = absurd (omega arith)

pub right_more : (program : List Instr) (live : LiveSets) (n : ℕ) (d : Instr) (form : Form) → form ≡ form_of (slice_index_or program n d) →
    IsRightBefore live n form (slice_index_or live.sets n live.asked) → IsRightTo program live n → IsRightTo program live (n + 1)
unfolding IsRightTo
right_more program live n d form is right each k instr low there = elim (cases_eq k n) [
  | inr other ↦ each k instr (omega arith) there
  | inl this ↦
      let same : slice_index_or program n d ≡ instr = get_or_from_slice_get program n instr d (rw this at there) in
      rw (this, ← same, ← is) right
]

pub right_all : (program : List Instr) (live : LiveSets) (n : ℕ) → length program ≤ n → All (IsWithin live.asked) live.sets →
    IsRightTo program live n → IsRight program live
unfolding IsRightTo
right_all program live n end asked each = record {
  asked = asked;
  before = λ number instr there.
      let inside : number < length program = slice_get_within program number instr there in
      each number instr (omega arith) there;
}
