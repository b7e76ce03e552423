-- The opening state's values are the image's, so that no run of an image makes authority.
use Rattle.std.proofs.Common.{◌≡◌, ◌/◌, ℕ, inl, List, [], ◌∷◌, ◌++◌, map, refl, sym, ap, subst, ◌∙◌, arith}
use Rattle.std.specs.Prelude.{All, Contains, replicate, fold, slice_set}
use Rattle.std.specs.List.{flat_map}
use Rattle.std.specs.Int.Bits.{and_self}
use Rattle.std.proofs.lemmas.List.{map-append}
use Rattle.std.proofs.lemmas.List.Elements.{All-set, All-map, All-replicate, All-nil, All-cons, All-head, All-tail, All-weaker, All-contains_itself, All-from_get_or}
use Rattle.cheri_model.specs.declared.instr.Instr.{Instr}
use Rattle.cheri_model.specs.declared.operation.Op.{Op}
use Rattle.cheri_model.specs.declared.operation.Event.{Event}
use Rattle.cap_model.specs.values.CapValue.{CapValue, valid, raw, IsLawfulValue}
use Rattle.cheri_model.specs.steps.Hart.{HartState, null}
use Rattle.cheri_model.specs.steps.HartStep.{Stepped, hart_step}
use Rattle.cheri_model.specs.runs.Image.{ImageParts, opening_hart, opening_memory}
use Rattle.cheri_model.specs.steps.Memory.{granule_number, granule_at, store_capability, IsMemory}
use Rattle.cheri_model.specs.runs.Machine.{MachineState, opening_state, state_after_one}
use Rattle.cheri_model.specs.runs.Replay.{state_after, replayed_state, operation_of, operations_of, IsReplay}
use Rattle.cheri_model.specs.runs.Authority.{IsGrantedValue, EachOfHart, EachOfState, IsLawfulState, IsConfined, IsConfinedTo, IsMonotone, alone, values_of_hart, values_of_image, values_in_hart, values_of_state}
use Rattle.cheri_model.proofs.Runs.Granted.{IsGood}
use Rattle.cheri_model.proofs.Runs.Confined.{step_good, run_good}

module _ {X : Type 0} (P : X → Type 0) where
  All-left : (xs ys : List X) → All P (xs ++ ys) → All P xs
  All-left [] ys each = All-nil P
  All-left (x ∷ xs) ys each = All-cons P x xs (All-head P x (xs ++ ys) each) (All-left xs ys (All-tail P x (xs ++ ys) each))

  All-right : (xs ys : List X) → All P (xs ++ ys) → All P ys
  All-right [] ys each = each
  All-right (x ∷ xs) ys each = All-right xs ys (All-tail P x (xs ++ ys) each)

  All-flat_map : {Y : Type 0} (f : Y → List X) (ys : List Y) → All P (flat_map f ys) → All (λ y. All P (f y)) ys
  All-flat_map f [] each = All-nil (λ y. All P (f y))
  All-flat_map f (y ∷ ys) each =
      All-cons (λ y. All P (f y)) y ys (All-left (f y) (flat_map f ys) each) (All-flat_map f ys (All-right (f y) (flat_map f ys) each))

module _ (P : CapValue → Type 0) (of_null : P null) where
  -- a memory that granules are put into, one after another
  each_put : (granules : List (ℕ × CapValue)) (memory : List CapValue) → All P (map (λ entry. entry.1) granules) → All P memory →
      All P (fold (λ memory entry. store_capability memory entry.0 entry.1) memory granules)
  unfolding store_capability
  each_put [] memory each before = before
  each_put (entry ∷ granules) memory each before =
      each_put granules (slice_set memory (granule_number entry.0) entry.1)
      (All-tail P entry.1 (map (λ entry. entry.1) granules) each)
      (All-set P memory (granule_number entry.0) entry.1 (All-head P entry.1 (map (λ entry. entry.1) granules) each) before)

  -- what holds of null and of each value of an image holds of each value of its opening state
  pub opening_each : (image : ImageParts) → All P (values_of_image image) → EachOfState P (opening_state image)
  unfolding values_of_image opening_state opening_hart opening_memory
  opening_each image each =
      let granules = map (λ entry. entry.1) image.granules in
      let harts = flat_map values_of_hart image.harts in
      let of_harts = All-flat_map P values_of_hart image.harts (All-left P harts granules each) in
      let of_granules = All-right P harts granules each in
      record {
        harts = All-map (EachOfHart P) opening_hart image.harts
            (All-weaker (λ h. All P (values_of_hart h)) (λ h. EachOfHart P (opening_hart h)) (λ h values. record {
              pcc = All-head P h.pcc h.regs values;
              regs = All-cons P null h.regs of_null (All-tail P h.pcc h.regs values);
            }) image.harts of_harts);
        memory = each_put image.granules (replicate (image.ram / 16) null) of_granules (All-replicate P (image.ram / 16) null of_null);
      }

-- what holds of each value of a state, as a list, holds of each where it is
state_each : (P : CapValue → Type 0) (state : MachineState) → All P (values_of_state state) → EachOfState P state
unfolding values_of_state
state_each P state each =
    let harts = flat_map values_in_hart state.harts in
    record {
      harts = All-weaker (λ h. All P (values_in_hart h)) (EachOfHart P)
          (λ h values. record { pcc = All-head P h.pcc h.regs values; regs = All-tail P h.pcc h.regs values }) state.harts
          (All-flat_map P values_in_hart state.harts (All-left P harts state.memory each));
      memory = All-right P harts state.memory each;
    }

-- and back
All-both : {X : Type 0} (P : X → Type 0) (xs ys : List X) → All P xs → All P ys → All P (xs ++ ys)
All-both P [] ys first second = second
All-both P (x ∷ xs) ys first second = All-cons P x (xs ++ ys) (All-head P x xs first) (All-both P xs ys (All-tail P x xs first) second)

each_of_harts : (P : CapValue → Type 0) (harts : List HartState) → All (EachOfHart P) harts → All P (flat_map values_in_hart harts)
each_of_harts P [] each = All-nil P
each_of_harts P (h ∷ harts) each =
    let here = All-head (EachOfHart P) h harts each in
    All-both P (values_in_hart h) (flat_map values_in_hart harts) (All-cons P h.pcc h.regs here.pcc here.regs)
    (each_of_harts P harts (All-tail (EachOfHart P) h harts each))

pub each_value : (P : CapValue → Type 0) (state : MachineState) → EachOfState P state → All P (values_of_state state)
unfolding values_of_state
each_value P state each = All-both P (flat_map values_in_hart state.harts) state.memory (each_of_harts P state.harts each.harts) each.memory

-- a tagged value is granted by itself
granted_itself : (sources : List CapValue) (v : CapValue) → Contains sources v → IsGrantedValue sources v
granted_itself sources (valid c) held = record {
  source = c;
  held = held;
  within = record { base = omega arith; top = omega arith; perms = and_self c.perms };
  sealed = λ low. record { source = c; held = held; by = inl refl };
}
granted_itself sources (raw word) held = tt

-- the two halves of what is kept, together and apart
both : (sources : List CapValue) (state : MachineState) → EachOfState IsLawfulValue state → EachOfState (IsGrantedValue sources) state → EachOfState (IsGood sources) state
both sources state lawful granted = record {
  harts = λ k d inside. record {
    pcc = record { lawful = (lawful.harts k d inside).pcc; granted = (granted.harts k d inside).pcc };
    regs = λ n v within. record { lawful = (lawful.harts k d inside).regs n v within; granted = (granted.harts k d inside).regs n v within };
  };
  memory = λ k v inside. record { lawful = lawful.memory k v inside; granted = granted.memory k v inside };
}

lawful_half : (sources : List CapValue) (state : MachineState) → EachOfState (IsGood sources) state → IsLawfulState state
lawful_half sources state good = record {
  harts = λ k d inside. record { pcc = (good.harts k d inside).pcc.lawful; regs = λ n v within. ((good.harts k d inside).regs n v within).lawful };
  memory = λ k v inside. (good.memory k v inside).lawful;
}

granted_half : (sources : List CapValue) (state : MachineState) → EachOfState (IsGood sources) state → EachOfState (IsGrantedValue sources) state
granted_half sources state good = record {
  harts = λ k d inside. record { pcc = (good.harts k d inside).pcc.granted; regs = λ n v within. ((good.harts k d inside).regs n v within).granted };
  memory = λ k v inside. (good.memory k v inside).granted;
}

-- What a step leaves is granted by what was there before it.
pub step_confined : (program : List Instr) (hart : HartState) (memory : List CapValue) → IsLawfulState (alone hart memory) →
    IsConfinedTo (alone hart memory) (alone (hart_step program hart memory).hart (hart_step program hart memory).memory)
step_confined program hart memory lawful =
    let before = alone hart memory in
    let sources = values_of_state before in
    let granted = state_each (IsGrantedValue sources) before (λ k d inside. granted_itself sources _ (All-contains_itself sources k d inside)) in
    let good = both sources before lawful granted in
    let left = step_good sources program hart memory (All-head (EachOfHart (IsGood sources)) hart [] good.harts) good.memory in
    granted_half sources (alone (hart_step program hart memory).hart (hart_step program hart memory).memory) record {
      harts = All-cons (EachOfHart (IsGood sources)) _ [] left.hart (All-nil (EachOfHart (IsGood sources)));
      memory = left.memory;
    }

-- every value of a memory is lawful
pub memory_lawful : (memory : List CapValue) → IsMemory memory → All IsLawfulValue memory
unfolding granule_at
memory_lawful memory is = All-from_get_or IsLawfulValue memory (raw 0) (λ k inside. is.lawful k)

-- the same of what a step is known to leave
pub left_confined : (program : List Instr) (hart : HartState) (memory : List CapValue) (after : Stepped) →
    hart_step program hart memory ≡ after → EachOfHart IsLawfulValue hart → IsMemory memory →
    IsConfinedTo (alone hart memory) (alone after.hart after.memory)
left_confined program hart memory after is lawful of_memory =
    let each = All-cons (EachOfHart IsLawfulValue) hart [] lawful (All-nil (EachOfHart IsLawfulValue)) in
    let confined = step_confined program hart memory record { harts = each; memory = memory_lawful memory of_memory } in
    subst (λ left. IsConfinedTo (alone hart memory) (alone left.hart left.memory)) is confined

-- What holds after any order: every value is lawful, and every tagged one is granted by the initial capabilities.
pub run_lawful : (image : ImageParts) (order : List Op) → IsLawfulState (opening_state image) →
    IsLawfulState (replayed_state image order) × IsConfined image (replayed_state image order)
unfolding replayed_state
run_lawful image order lawful =
    let sources = values_of_image image in
    let granted = opening_each (IsGrantedValue sources) tt image (λ k d inside. granted_itself sources _ (All-contains_itself sources k d inside)) in
    let good = run_good sources image order (opening_state image) (both sources (opening_state image) lawful granted) in
    (lawful_half sources _ good, granted_half sources _ good)

-- what operations leave is granted by what was there before them
pub later_confined : (image : ImageParts) (state : MachineState) (order : List Op) → IsLawfulState state →
    IsConfinedTo state (state_after image state order)
later_confined image state order lawful =
    let sources = values_of_state state in
    let granted = state_each (IsGrantedValue sources) state (λ k d inside. granted_itself sources _ (All-contains_itself sources k d inside)) in
    granted_half sources _ (run_good sources image order state (both sources state lawful granted))

-- an order of two parts is run one part after the other
state_after_both : (image : ImageParts) (state : MachineState) (before later : List Op) →
    state_after image state (before ++ later) ≡ state_after image (state_after image state before) later
unfolding state_after
state_after_both image state [] later = refl
state_after_both image state (op ∷ before) later = state_after_both image (state_after_one image state op) before later

-- the same of the values that any prefix of the order left
pub run_monotone : (image : ImageParts) (before later : List Op) → IsLawfulState (opening_state image) →
    IsConfinedTo (replayed_state image before) (replayed_state image (before ++ later))
unfolding replayed_state
run_monotone image before later lawful =
    let middle = state_after image (opening_state image) before in
    let middle_lawful : IsLawfulState middle = (run_lawful image before lawful).0 in
    subst (EachOfState (IsGrantedValue (values_of_state middle))) (sym (state_after_both image (opening_state image) before later))
    (later_confined image middle later middle_lawful)

-- and of a replay, for every prefix of its trace
pub replay_monotone : (image : ImageParts) (trace : List Event) (state : MachineState) → IsReplay image trace state →
    IsLawfulState (opening_state image) → IsMonotone image trace state
unfolding operations_of
replay_monotone image trace state replay lawful before later is =
    let split : operations_of trace ≡ operations_of before ++ operations_of later =
    ap operations_of is ∙ map-append operation_of before later in
    subst (IsConfinedTo (replayed_state image (operations_of before)))
    (sym (replay.state ∙ ap (replayed_state image) split))
    (run_monotone image (operations_of before) (operations_of later) lawful)
