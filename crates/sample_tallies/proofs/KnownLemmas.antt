-- Values, harts and changes that are found to be the same.
use Rattle.std.proofs.Common.{◌≡◌, ℕ, ◌+◌, ◌<◌, ◌≤◌, Bool, true, false, List, length, get_or, refl, ap, sym, ◌∙◌, arith, eqb-true, inl, inr}
use Rattle.std.specs.Prelude.{◌==◌}
use Rattle.std.proofs.lemmas.Bool.{cases_eq, and_parts}
use Rattle.std.proofs.lemmas.List.{same_lists, get_or_default}
use Rattle.cap_model.specs.values.CapValue.{CapValue, IsLawfulValue, bits_of, tag_of, value_at}
use Rattle.cap_model.proofs.Results.Values.{value_back}
use Rattle.cheri_model.specs.declared.trace.Status.{Status}
use Rattle.cheri_model.specs.steps.Hart.{HartState, null, register}
use Rattle.sample_draws.specs.Cycles.{same_test, same_value}
use Rattle.sample_steps.specs.declared.writes.Change.{Change}
use Rattle.sample_tallies.specs.SameStates.{same_status}
use Rattle.sample_tallies.proofs.SameLemmas.{one_status}

same_test_is : (a b : Bool) → same_test a b ≡ true → a ≡ b
same_test_is true true is = refl
same_test_is true false is = sym is
same_test_is false true is = is
same_test_is false false is = refl

-- values with the same tag and bits
pub value_is : (v w : CapValue) (found : Bool) → IsLawfulValue v → IsLawfulValue w → found ≡ same_value v w
    → found ≡ true → v ≡ w
unfolding same_value
value_is v w found lawful also is holds =
    let parts = and_parts (same_test (tag_of v) (tag_of w)) (bits_of v == bits_of w) (sym is ∙ holds) in
    let tags : tag_of v ≡ tag_of w = same_test_is (tag_of v) (tag_of w) parts.0 in
    let bits : bits_of v ≡ bits_of w = eqb-true (bits_of v) (bits_of w) parts.1 in
    sym (value_back v lawful) ∙ ap (λ (t : Bool). value_at t (bits_of v)) tags
    ∙ ap (λ (b : ℕ). value_at (tag_of w) b) bits ∙ value_back w also

-- the first registers of two harts are the same
abbrev pub Agree : List CapValue → List CapValue → ℕ → Type 0
Agree vs ws n = (k : ℕ) → k < n → get_or vs k null ≡ get_or ws k null

pub none_agree : (vs ws : List CapValue) → Agree vs ws 0
none_agree vs ws k below = absurd (omega arith)

pub more_agree : (a b : HartState) (n : ℕ) (v w : CapValue) → Agree a.regs b.regs n → v ≡ register a n
    → w ≡ register b n → v ≡ w → Agree a.regs b.regs (n + 1)
unfolding register
more_agree a b n v w so_far is also same k below = elim (cases_eq k n) [
  | inl last ↦
      ap (λ (i : ℕ). get_or a.regs i null) last ∙ sym is ∙ same ∙ also ∙ sym (ap (λ (i : ℕ). get_or b.regs i null) last)
  | inr other ↦ so_far k (omega arith)
]

pub all_agree : (vs ws : List CapValue) (n : ℕ) → length vs ≡ 32 → length ws ≡ 32 → 32 ≤ n → Agree vs ws n → vs ≡ ws
all_agree vs ws n long also past agree =
    same_lists vs ws (long ∙ sym also)
    (λ k d below. get_or_default vs k d null below ∙ agree k (omega (arith, below, long, past))
    ∙ get_or_default ws k null d (omega (arith, below, long, also)))

abbrev hart_with : List CapValue → CapValue → Status → HartState
hart_with regs pcc status = record { regs = regs; pcc = pcc; status = status }

-- harts with the same status, PCC and registers
pub hart_is : (a b : HartState) (s t : Status) (p q : CapValue) (found : Bool) → s ≡ a.status → t ≡ b.status
    → p ≡ a.pcc → q ≡ b.pcc → found ≡ same_status s t → found ≡ true → p ≡ q → a.regs ≡ b.regs → a ≡ b
hart_is a b s t p q found sa tb pa qb is holds pcc regs =
    let status : s ≡ t = one_status s t (sym is ∙ holds) in
    let made : hart_with a.regs a.pcc a.status ≡ hart_with b.regs b.pcc b.status = cc in
    made

abbrev change_with : ℕ → CapValue → Change
change_with granule value = record { granule = granule; value = value }

pub change_is : (a b : Change) → a.granule ≡ b.granule → a.value ≡ b.value → a ≡ b
change_is a b granule value =
    let made : change_with a.granule a.value ≡ change_with b.granule b.value = cc in
    made

-- the first changes of two lists are the same
abbrev pub AreSame : List Change → List Change → ℕ → Type 0
AreSame a b n = (k : ℕ) (d : Change) → k < n → get_or a k d ≡ get_or b k d

pub none_same : (a b : List Change) → AreSame a b 0
none_same a b k d below = absurd (omega arith)

pub more_same : (a b : List Change) (n : ℕ) (x y : Change) → n < length a → n < length b → AreSame a b n
    → x ≡ get_or a n x → y ≡ get_or b n y → x ≡ y → AreSame a b (n + 1)
more_same a b n x y within also so_far is it same k d below = elim (cases_eq k n) [
  | inl last ↦
      ap (λ (i : ℕ). get_or a i d) last ∙ get_or_default a n d x within ∙ sym is ∙ same ∙ it
      ∙ get_or_default b n y d also ∙ sym (ap (λ (i : ℕ). get_or b i d) last)
  | inr other ↦ so_far k d (omega arith)
]

pub all_same : (a b : List Change) (n : ℕ) → length a ≡ length b → length a ≤ n → AreSame a b n → a ≡ b
all_same a b n long past so_far = same_lists a b long (λ k d below. so_far k d (omega arith))
