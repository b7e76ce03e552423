-- What sweeps clear and leave, and that what no capability reaches is reached by none later.
use Rattle.std.proofs.Common.{◌≡◌, ℕ, ◌+◌, ◌<◌, ◌≤◌, true, false, List, map, refl, sym, ◌∙◌, arith, leb-true}
use Rattle.std.specs.Prelude.{nat_le, nat_lt, All}
use Rattle.std.proofs.Common.{inl, inr}
use Rattle.std.proofs.lemmas.Bool.{and_parts, false≢true, le-leb, lt-ltb, false_from_ne_true, cases_Bool}
use Rattle.std.proofs.lemmas.Bool.Decides.{nat_tests}
use Rattle.std.proofs.lemmas.List.Elements.{All-map, All-contains}
use Rattle.cheri_model.specs.declared.operation.Op.{Op}
use Rattle.cap_model.specs.values.Capability.{Capability, word_of}
use Rattle.cap_model.specs.values.CapValue.{CapValue, valid, raw}
use Rattle.cheri_model.specs.runs.Image.{ImageParts}
use Rattle.cap_model.specs.results.Swept.{is_in_sweep, swept}
use Rattle.cheri_model.specs.runs.Sweeps.{swept_hart, swept_memory, reaches}
use Rattle.cheri_model.specs.runs.Machine.{MachineState, swept_state}
use Rattle.cheri_model.specs.runs.Replay.{state_after}
use Rattle.cheri_model.specs.runs.Authority.{IsGrantedValue, EachOfHart, EachOfState, IsLawfulState, values_of_state}
use Rattle.cheri_model.proofs.Runs.RunsConfined.{later_confined, each_value}

-- one value
pub swept_inside : (lo hi : ℕ) (c : Capability) → lo ≤ c.base → c.base < hi → swept lo hi (valid c) ≡ raw (word_of c)
unfolding swept
swept_inside lo hi c from to = rw (le-leb _ _ from, lt-ltb _ _ to) refl

pub swept_below : (lo hi : ℕ) (c : Capability) → c.base < lo → swept lo hi (valid c) ≡ valid c
unfolding swept
swept_below lo hi c under = let test : nat_le lo c.base ≡ false = grind (arith, nat_tests) in rw test refl

pub swept_above : (lo hi : ℕ) (c : Capability) → hi ≤ c.base → swept lo hi (valid c) ≡ valid c
unfolding swept
swept_above lo hi c over =
    let test : nat_lt c.base hi ≡ false = grind (arith, nat_tests) in
    elim (cases_Bool (nat_le lo c.base)) [ inl from ↦ rw (from, test) refl | inr under ↦ rw under refl ]

pub swept_raw : (lo hi word : ℕ) → swept lo hi (raw word) ≡ raw word
unfolding swept
swept_raw lo hi word = refl

-- nothing is left
module _ (lo hi : ℕ) where
  nothing_left : (v : CapValue) → is_in_sweep lo hi (swept lo hi v) ≡ false
  unfolding swept
  nothing_left v = elim (cases_Bool (is_in_sweep lo hi v)) [ inl cleared ↦ rw cleared refl | inr kept ↦ rw kept kept ]

  abbrev Left : CapValue → Type 0
  Left v = is_in_sweep lo hi v ≡ false

  all_left : (values : List CapValue) → All Left (map (swept lo hi) values)
  all_left values = All-map Left (swept lo hi) values (λ k d inside. nothing_left _)

  pub state_left : (state : MachineState) → EachOfState (λ v. is_in_sweep lo hi v ≡ false) (swept_state lo hi state)
  unfolding swept_state swept_hart swept_memory
  state_left state = record {
    harts = All-map (EachOfHart Left) (swept_hart lo hi) state.harts
        (λ k d inside. record { pcc = nothing_left _; regs = all_left _ });
    memory = all_left state.memory;
  }

-- What is granted by values that do not reach an address does not reach it.
module _ (address : ℕ) where
  abbrev Unreaching : CapValue → Type 0
  Unreaching v = reaches v address ≡ false

  reached_too : (c d : Capability) → d.base ≤ c.base → c.top ≤ d.top → reaches (valid c) address ≡ true → reaches (valid d) address ≡ true
  reached_too c d base top t =
      let inside = and_parts (nat_le c.base address) _ t in
      let from = leb-true _ _ inside.0 in
      let to = leb-true _ _ inside.1 in
      let low : d.base ≤ address = omega arith in
      let high : address + 1 ≤ d.top = omega arith in
      rw (le-leb _ _ low, le-leb _ _ high) refl

  granted_unreaching : (sources : List CapValue) → All Unreaching sources → (v : CapValue) → IsGrantedValue sources v → Unreaching v
  granted_unreaching sources each (raw word) granted = refl
  granted_unreaching sources each (valid c) granted =
      false_from_ne_true _
      (λ t.
      let none = All-contains Unreaching sources (valid granted.source) each granted.held in
      let some = reached_too c granted.source granted.within.base granted.within.top t in
      false≢true (sym none ∙ some))

  pub stays_unreached : (image : ImageParts) (state : MachineState) (order : List Op) → IsLawfulState state →
      EachOfState (λ v. reaches v address ≡ false) state → EachOfState (λ v. reaches v address ≡ false) (state_after image state order)
  stays_unreached image state order lawful unreached =
      let sources = values_of_state state in
      let none = each_value Unreaching state unreached in
      let confined = later_confined image state order lawful in
      record {
        harts = λ k d inside.
            let hart = confined.harts k d inside in
            record {
              pcc = granted_unreaching sources none _ hart.pcc;
              regs = λ n v within. granted_unreaching sources none _ (hart.regs n v within);
            };
        memory = λ k v inside. granted_unreaching sources none _ (confined.memory k v inside);
      }
