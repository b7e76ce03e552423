-- Steps of two harts come in any order where they touch different granules, or where neither stores.
use Rattle.std.proofs.Common.{◌≡◌, ◌≢◌, ℕ, ◌<◌, List, length, set, arith, ap, sym, ◌∙◌, refl, subst, length-set}
use Rattle.std.specs.Prelude.{false, true, Result, Ok, Err}
use Rattle.std.proofs.lemmas.List.{set_comm, get_or-set_other}
use Rattle.cap_model.specs.results.Addresses.{address_of}
use Rattle.cap_model.specs.values.CapValue.{CapValue, raw}
use Rattle.cheri_model.specs.declared.instr.Instr.{Instr}
use Rattle.cheri_model.specs.declared.trace.Trap.{Trap}
use Rattle.cheri_model.specs.steps.Actions.{Action, Put, Load, Store, LoadCap, StoreCap, Swap, Branch, Jump, JumpThrough, Invoke, Halt, action}
use Rattle.cheri_model.specs.steps.Checks.{first_failing, fetch_table}
use Rattle.cheri_model.specs.steps.Hart.{HartState}
use Rattle.cheri_model.specs.steps.HartStep.{Stepped, unless_trapped, trapped, execute, hart_step, instruction_at}
use Rattle.cheri_model.specs.steps.Memory.{granule_at}
use Rattle.explore_turns.specs.QuietSteps.{asks_memory, own_step, where_fetched}
use Rattle.explore_turns.proofs.QuietLemmas.{own_step_alone}
use Rattle.own_granules.specs.Granules.{is_store, asks_store}
use Rattle.states.specs.Locals.{touched, local_step, local_value}
use Rattle.states.proofs.TouchLemmas.{step_is_local}

-- a step that doesn't store leaves memory
memory_unless : (c : Result (Unit {0}) Trap) (h : HartState) (m : List CapValue) (after : Stepped) → after.memory ≡ m →
    (unless_trapped c h m after).memory ≡ m
unfolding trapped
memory_unless (Ok u) h m after same = same
memory_unless (Err trap) h m after same = refl

memory_stays : (a : Action) (h : HartState) (m : List CapValue) → is_store a ≡ false → (execute a h m).memory ≡ m
unfolding execute
memory_stays (Put cd v) h m fails = refl
memory_stays (Load cd c1 addr width signed) h m fails = memory_unless _ h m _ refl
memory_stays (Store c1 addr width number) h m fails = absurd (cc)
memory_stays (LoadCap cd c1 addr) h m fails = memory_unless _ h m _ refl
memory_stays (StoreCap c1 addr v) h m fails = absurd (cc)
memory_stays (Swap cd c1 addr v) h m fails = absurd (cc)
memory_stays (Branch false target) h m fails = refl
memory_stays (Branch true target) h m fails = memory_unless _ h m _ refl
memory_stays (Jump cd target) h m fails = memory_unless _ h m _ refl
memory_stays (JumpThrough cd c1 is_entry target) h m fails = memory_unless _ h m _ refl
memory_stays (Invoke c1 c2 target) h m fails = memory_unless _ h m _ refl
memory_stays Halt h m fails = refl

memory_fetched : (c : Result (Unit {0}) Trap) (a : Action) (h : HartState) (m : List CapValue) →
    where_fetched c (is_store a) ≡ false → (unless_trapped c h m (execute a h m)).memory ≡ m
unfolding trapped
memory_fetched (Ok u) a h m fails = memory_stays a h m fails
memory_fetched (Err trap) a h m fails = refl

pub loads_leave : (program : List Instr) (h : HartState) (m : List CapValue) → asks_store program h ≡ false →
    (hart_step program h m).memory ≡ m
unfolding asks_store hart_step
loads_leave program h m fails =
    memory_fetched (first_failing (fetch_table h.pcc (length program)))
    (action (instruction_at program (address_of h.pcc)) h) h m fails

module _ (program : List Instr) (n : ℕ) (some : 0 < n) where
  abbrev pub hart_of : HartState → List CapValue → HartState
  hart_of h m = (hart_step program h m).hart

  abbrev pub memory_of : HartState → List CapValue → List CapValue
  memory_of h m = (hart_step program h m).memory

  -- in any memory of this size, the steps of two harts do the same in both orders
  pub record InAnyOrder (h g : HartState) : Type 0 where
    pub first : (m : List CapValue) → length m ≡ n → hart_of h (memory_of g m) ≡ hart_of h m
    pub second : (m : List CapValue) → length m ≡ n → hart_of g (memory_of h m) ≡ hart_of g m
    pub memory : (m : List CapValue) → length m ≡ n → memory_of h (memory_of g m) ≡ memory_of g (memory_of h m)

  turned : (h g : HartState) → InAnyOrder h g → InAnyOrder g h
  turned h g both = record {
    first = both.second;
    second = both.first;
    memory = λ m size. sym (both.memory m size);
  }

  -- one asks for no access
  pub alone : (h g : HartState) → asks_memory program h ≡ false → InAnyOrder h g
  alone h g none =
      let own : (m : List CapValue) → hart_of h m ≡ own_step program h = λ m. (own_step_alone program h m none).0 in
      let stays : (m : List CapValue) → memory_of h m ≡ m = λ m. (own_step_alone program h m none).1 in
      record {
        first = λ m size. own (memory_of g m) ∙ sym (own m);
        second = λ m size. ap (hart_of g) (stays m);
        memory = λ m size. stays (memory_of g m) ∙ sym (ap (memory_of g) (stays m));
      }

  pub other_alone : (h g : HartState) → asks_memory program g ≡ false → InAnyOrder h g
  other_alone h g none = turned g h (alone g h none)

  -- neither stores
  pub both_load : (h g : HartState) → asks_store program h ≡ false → asks_store program g ≡ false → InAnyOrder h g
  both_load h g one two = record {
    first = λ m size. ap (hart_of h) (loads_leave program g m two);
    second = λ m size. ap (hart_of g) (loads_leave program h m one);
    memory = λ m size.
        ap (memory_of h) (loads_leave program g m two)
        ∙ (loads_leave program h m one ∙ (sym (loads_leave program g m two)
        ∙ sym (ap (memory_of g) (loads_leave program h m one))));
  }

  -- what a step does in a memory of this size
  pub record IsHere (h : HartState) (m : List CapValue) (size : ℕ) : Type 0 where
    pub hart : hart_of h m ≡ (local_step program size h (granule_at m (touched program size h))).hart
    pub memory : memory_of h m
        ≡ set m (touched program size h) (local_value program size h (granule_at m (touched program size h)))
    pub granule : granule_at (memory_of h m) (touched program size h)
        ≡ local_value program size h (granule_at m (touched program size h))

  pub here : (h : HartState) (m : List CapValue) → length m ≡ n → IsHere h m n
  here h m size =
      let has : 0 < length m = omega (arith, some, size) in
      let local = step_is_local program h m (granule_at m (touched program (length m) h)) has refl in
      subst (λ (k : ℕ). IsHere h m k) size (record {
        hart = local.hart;
        memory = local.memory;
        granule = local.granule;
      })

  pub same_size : (h : HartState) (m : List CapValue) → length m ≡ n → length (memory_of h m) ≡ n
  same_size h m size =
      ap (λ (k : List CapValue). length k) (here h m size).memory
      ∙ (length-set m (touched program n h) (local_value program n h (granule_at m (touched program n h))) ∙ size)

  -- the same in memories that agree in the granule that it touches
  pub same_hart : (h : HartState) (m k : List CapValue) → length m ≡ n → length k ≡ n →
      granule_at m (touched program n h) ≡ granule_at k (touched program n h) → hart_of h m ≡ hart_of h k
  same_hart h m k size also same =
      (here h m size).hart
      ∙ (ap (λ (v : CapValue). (local_step program n h v).hart) same ∙ sym (here h k also).hart)

  pub same_value : (h : HartState) (m k : List CapValue) → length m ≡ n → length k ≡ n →
      granule_at m (touched program n h) ≡ granule_at k (touched program n h) →
      granule_at (memory_of h m) (touched program n h) ≡ granule_at (memory_of h k) (touched program n h)
  same_value h m k size also same =
      (here h m size).granule ∙ (ap (local_value program n h) same ∙ sym (here h k also).granule)

  -- a step of a hart that touches another granule
  pub granule_left : (h g : HartState) (m : List CapValue) → length m ≡ n → touched program n h ≢ touched program n g →
      granule_at (memory_of g m) (touched program n h) ≡ granule_at m (touched program n h)
  unfolding granule_at
  granule_left h g m size other =
      let k = touched program n h in
      let j = touched program n g in
      ap (λ (x : List CapValue). granule_at x k) (here g m size).memory
      ∙ get_or-set_other m j k (local_value program n g (granule_at m j)) (raw 0) other

  hart_left : (h g : HartState) (m : List CapValue) → length m ≡ n → touched program n h ≢ touched program n g →
      hart_of h (memory_of g m) ≡ hart_of h m
  hart_left h g m size other =
      (here h (memory_of g m) (same_size g m size)).hart
      ∙ (ap (λ (v : CapValue). (local_step program n h v).hart) (granule_left h g m size other)
      ∙ sym (here h m size).hart)

  memory_after : (h g : HartState) (m : List CapValue) → length m ≡ n → touched program n h ≢ touched program n g →
      memory_of h (memory_of g m)
      ≡ set (set m (touched program n g) (local_value program n g (granule_at m (touched program n g))))
      (touched program n h) (local_value program n h (granule_at m (touched program n h)))
  memory_after h g m size other =
      let k = touched program n h in
      (here h (memory_of g m) (same_size g m size)).memory
      ∙ (ap (λ (v : CapValue). set (memory_of g m) k (local_value program n h v)) (granule_left h g m size other)
      ∙ ap (λ (x : List CapValue). set x k (local_value program n h (granule_at m k))) (here g m size).memory)

  pub elsewhere : (h g : HartState) → touched program n h ≢ touched program n g → InAnyOrder h g
  elsewhere h g other =
      let back : touched program n g ≢ touched program n h = λ same. other (sym same) in
      record {
        first = λ m size. hart_left h g m size other;
        second = λ m size. hart_left g h m size back;
        memory = λ m size.
            memory_after h g m size other
            ∙ (set_comm m (touched program n g) (touched program n h)
            (local_value program n g (granule_at m (touched program n g)))
            (local_value program n h (granule_at m (touched program n h))) back
            ∙ sym (memory_after g h m size back));
      }
