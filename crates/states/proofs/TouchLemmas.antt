-- A step touches one granule: what it does to its hart and to that granule is the same in any two
-- memories of a size that agree there, and all other granules stay.
use Rattle.std.proofs.Common.{◌≡◌, ℕ, zero, suc, ◌<◌, ◌≤◌, List, [], ◌∷◌, length, arith, ap, sym, ◌∙◌, refl, subst, inl, inr}
use Rattle.std.specs.Prelude.{true, false, Option, Some, None, Result, Ok, Err, slice_set, slice_index_or, replicate}
use Rattle.std.proofs.lemmas.List.{set-get_or, get_or-set_same, length-replicate, get_or-replicate}
use Rattle.std.proofs.lemmas.Bool.{cases_lt}
use Rattle.std.proofs.lemmas.Bool.Decides.{nat_tests}
use Rattle.cheri_model.specs.declared.instr.Instr.{Instr}
use Rattle.cheri_model.specs.declared.access.Access.{Access}
use Rattle.cheri_model.specs.declared.access.Access.TheVariants as access
use Rattle.cheri_model.specs.declared.trace.Trap.{Trap}
use Rattle.cap_model.specs.values.CapValue.{CapValue, raw, bits_of}
use Rattle.cap_model.specs.results.Addresses.{address_of}
use Rattle.cap_model.specs.results.Seals.{unsealed}
use Rattle.cheri_model.specs.steps.Actions.{Action, Put, Load, Store, LoadCap, StoreCap, Swap, Branch, Jump, JumpThrough, Invoke, Halt, action}
use Rattle.cheri_model.specs.steps.Checks.{first_failing, access_table, fetch_table, target_table, jump_table, invoke_table}
use Rattle.cheri_model.specs.steps.Hart.{HartState, register, put, next, link, word_of_integer}
use Rattle.cheri_model.specs.steps.HartStep.{Stepped, execute, hart_step, unless_trapped, trapped, done, access_check, loaded, permitted, jumped_to, invoked_data, instruction_at}
use Rattle.cheri_model.specs.steps.Memory.{granule_at, granule_number, load_data, store_data, load_capability, store_capability, bytes_of, bytes_at, granule_offset, with_bytes}
use Rattle.states.specs.Accesses.{address_in, accessed_address, unless_fetch_traps}
use Rattle.states.specs.Locals.{touched, local_step, local_value}

-- two steps that do the same to the hart, and leave the same value in granule k
pub record IsSameStep (a b : Stepped) (m n : List CapValue) (k : ℕ) : Type 0 where
  pub value : CapValue
  pub hart : a.hart ≡ b.hart
  pub first : a.memory ≡ slice_set m k value
  pub second : b.memory ≡ slice_set n k value

granule_stays : (m : List CapValue) (k : ℕ) → slice_set m k (granule_at m k) ≡ m
unfolding granule_at
granule_stays m k = set-get_or m k (raw 0)

-- the hart alone changes
hart_alone : (h : HartState) (a b : Stepped) (m n : List CapValue) (k : ℕ) → granule_at m k ≡ granule_at n k →
    a.hart ≡ b.hart → a.memory ≡ m → b.memory ≡ n → IsSameStep a b m n k
hart_alone h a b m n k agree hart first second = record {
  value = granule_at m k;
  hart = hart;
  first = first ∙ sym (granule_stays m k);
  second = second ∙ (sym (granule_stays n k) ∙ ap (slice_set n k) (sym agree));
}

after_check : (c : Result (Unit {0}) Trap) (h : HartState) (m n : List CapValue) (k : ℕ) (a b : Stepped) →
    granule_at m k ≡ granule_at n k → IsSameStep a b m n k →
    IsSameStep (unless_trapped c h m a) (unless_trapped c h n b) m n k
unfolding trapped
after_check (Ok u) h m n k a b agree same = same
after_check (Err trap) h m n k a b agree same =
    hart_alone h (trapped trap h m) (trapped trap h n) m n k agree refl refl refl

-- the same where nothing but the hart changes after a check
after_jump : (c : Result (Unit {0}) Trap) (h to : HartState) (m n : List CapValue) (k : ℕ) →
    granule_at m k ≡ granule_at n k → IsSameStep (unless_trapped c h m (done to m)) (unless_trapped c h n (done to n)) m n k
after_jump c h to m n k agree =
    after_check c h m n k (done to m) (done to n) agree (hart_alone h (done to m) (done to n) m n k agree refl refl refl)

same_check : (h : HartState) (c1 addr : ℕ) (kind : Access) (stored : Option CapValue) (m n : List CapValue) →
    length m ≡ length n → access_check h c1 addr kind stored m ≡ access_check h c1 addr kind stored n
unfolding access_table
same_check h c1 addr kind stored m n same = rw same refl

-- the same after the check of an access
after_access : (h : HartState) (c1 addr : ℕ) (kind : Access) (stored : Option CapValue) (m n : List CapValue)
    (k : ℕ) (a b : Stepped) → length m ≡ length n → granule_at m k ≡ granule_at n k → IsSameStep a b m n k →
    IsSameStep (unless_trapped (access_check h c1 addr kind stored m) h m a)
    (unless_trapped (access_check h c1 addr kind stored n) h n b) m n k
after_access h c1 addr kind stored m n k a b size agree same =
    subst (λ (c : Result (Unit {0}) Trap).
    IsSameStep (unless_trapped (access_check h c1 addr kind stored m) h m a) (unless_trapped c h n b) m n k)
    (same_check h c1 addr kind stored m n size)
    (after_check (access_check h c1 addr kind stored m) h m n k a b agree same)

same_data : (m n : List CapValue) (addr bytes : ℕ) → granule_at m (granule_number addr) ≡ granule_at n (granule_number addr) →
    load_data m addr bytes ≡ load_data n addr bytes
unfolding load_data
same_data m n addr bytes agree = ap (λ (v : CapValue). bytes_at (bits_of v) (granule_offset addr) bytes) agree

same_capability : (m n : List CapValue) (addr : ℕ) → granule_at m (granule_number addr) ≡ granule_at n (granule_number addr) →
    load_capability m addr ≡ load_capability n addr
unfolding load_capability
same_capability m n addr agree = agree

pub same_execution : (act : Action) (h : HartState) (m n : List CapValue) → length m ≡ length n →
    granule_at m (granule_number (address_in act)) ≡ granule_at n (granule_number (address_in act)) →
    IsSameStep (execute act h m) (execute act h n) m n (granule_number (address_in act))
unfolding execute load_data store_data store_capability load_capability
same_execution (Put cd v) h m n size agree = hart_alone h (execute (Put cd v) h m) (execute (Put cd v) h n) m n (granule_number 0) agree refl refl refl
same_execution (Load cd c1 addr width signed) h m n size agree =
    let k = granule_number addr in
    let after : ℕ → HartState = λ number. next (put cd (word_of_integer (loaded signed width number)) h) in
    after_access h c1 addr (access.Load width) None m n k
    (done (after (load_data m addr (bytes_of width))) m) (done (after (load_data n addr (bytes_of width))) n) size agree
    (hart_alone h (done (after (load_data m addr (bytes_of width))) m) (done (after (load_data n addr (bytes_of width))) n)
    m n k agree (ap after (same_data m n addr (bytes_of width) agree)) refl refl)
same_execution (Store c1 addr width number) h m n size agree =
    let k = granule_number addr in
    let stored : CapValue → CapValue = λ v. raw (with_bytes (bits_of v) (granule_offset addr) (bytes_of width) number) in
    after_access h c1 addr (access.Store width) None m n k
    (done (next h) (store_data m addr (bytes_of width) number)) (done (next h) (store_data n addr (bytes_of width) number)) size agree
    (record {
      value = stored (granule_at m k);
      hart = refl;
      first = refl;
      second = ap (λ (v : CapValue). slice_set n k (stored v)) (sym agree);
    })
same_execution (LoadCap cd c1 addr) h m n size agree =
    let k = granule_number addr in
    let after : CapValue → HartState = λ v. next (put cd (permitted (register h c1) v) h) in
    after_access h c1 addr access.LoadCap None m n k
    (done (after (load_capability m addr)) m) (done (after (load_capability n addr)) n) size agree
    (hart_alone h (done (after (load_capability m addr)) m) (done (after (load_capability n addr)) n)
    m n k agree (ap after (same_capability m n addr agree)) refl refl)
same_execution (StoreCap c1 addr v) h m n size agree =
    after_access h c1 addr access.StoreCap (Some v) m n (granule_number addr)
    (done (next h) (store_capability m addr v)) (done (next h) (store_capability n addr v)) size agree
    (record { value = v; hart = refl; first = refl; second = refl })
same_execution (Swap cd c1 addr v) h m n size agree =
    let k = granule_number addr in
    let after : CapValue → HartState = λ w. next (put cd (permitted (register h c1) w) h) in
    after_access h c1 addr access.Swap (Some v) m n k
    (done (after (load_capability m addr)) (store_capability m addr v))
    (done (after (load_capability n addr)) (store_capability n addr v)) size agree
    (record { value = v; hart = ap after (same_capability m n addr agree); first = refl; second = refl })
same_execution (Branch false target) h m n size agree = hart_alone h (execute (Branch false target) h m) (execute (Branch false target) h n) m n (granule_number 0) agree refl refl refl
same_execution (Branch true target) h m n size agree =
    after_jump (first_failing (target_table h.pcc target)) h (jumped_to h.pcc target h) m n (granule_number 0) agree
same_execution (Jump cd target) h m n size agree =
    after_jump (first_failing (target_table h.pcc target)) h (jumped_to h.pcc target (put cd (link h.pcc) h)) m n (granule_number 0) agree
same_execution (JumpThrough cd c1 is_entry target) h m n size agree =
    after_jump (first_failing (jump_table (register h c1) c1 is_entry target)) h
    (jumped_to (unsealed (register h c1)) target (put cd (link h.pcc) h)) m n (granule_number 0) agree
same_execution (Invoke c1 c2 target) h m n size agree =
    after_jump (first_failing (invoke_table (register h c1) c1 (register h c2) c2 target)) h
    (jumped_to (unsealed (register h c1)) target (put invoked_data (unsealed (register h c2)) h)) m n (granule_number 0) agree
same_execution Halt h m n size agree = hart_alone h (execute Halt h m) (execute Halt h n) m n (granule_number 0) agree refl refl refl

-- the same of a whole step, where its fetch may trap
after_fetch : (c : Result (Unit {0}) Trap) (act : Action) (h : HartState) (m n : List CapValue) → length m ≡ length n →
    granule_at m (granule_number (unless_fetch_traps c (address_in act)))
    ≡ granule_at n (granule_number (unless_fetch_traps c (address_in act))) →
    IsSameStep (unless_trapped c h m (execute act h m)) (unless_trapped c h n (execute act h n)) m n
    (granule_number (unless_fetch_traps c (address_in act)))
unfolding trapped
after_fetch (Ok u) act h m n size agree = same_execution act h m n size agree
after_fetch (Err trap) act h m n size agree =
    hart_alone h (trapped trap h m) (trapped trap h n) m n (granule_number 0) agree refl refl refl

same_fetched : (program : List Instr) (h : HartState) (m n : List CapValue) → length m ≡ length n →
    granule_at m (granule_number (accessed_address program h)) ≡ granule_at n (granule_number (accessed_address program h)) →
    IsSameStep (hart_step program h m) (hart_step program h n) m n (granule_number (accessed_address program h))
unfolding hart_step accessed_address
same_fetched program h m n size agree =
    after_fetch (first_failing (fetch_table h.pcc (length program)))
    (action (instruction_at program (address_of h.pcc)) h) h m n size agree

granule_past : (m : List CapValue) (k : ℕ) → length m ≤ k → granule_at m k ≡ raw 0
unfolding granule_at
granule_past [] k past = refl
granule_past (v ∷ m) zero past = absurd (omega arith)
granule_past (v ∷ m) (suc k) past = let rest : length m ≤ k = omega arith in granule_past m k rest

set_past : (m : List CapValue) (k : ℕ) (v : CapValue) → length m ≤ k → slice_set m k v ≡ m
set_past [] k v past = refl
set_past (w ∷ m) zero v past = absurd (omega arith)
set_past (w ∷ m) (suc k) v past =
    let rest : length m ≤ k = omega arith in
    ap (λ (l : List CapValue). w ∷ l) (set_past m k v rest)

pub same_step : (program : List Instr) (h : HartState) (m n : List CapValue) → length m ≡ length n →
    granule_at m (touched program (length m) h) ≡ granule_at n (touched program (length m) h) →
    IsSameStep (hart_step program h m) (hart_step program h n) m n (touched program (length m) h)
unfolding touched
same_step program h m n size agree =
    let k = granule_number (accessed_address program h) in
    elim (cases_lt k (length m)) [
      | inl within ↦
          let at : touched program (length m) h ≡ k = grind (arith, nat_tests) in
          subst (λ (i : ℕ). IsSameStep (hart_step program h m) (hart_step program h n) m n i) (sym at)
          (same_fetched program h m n size
          (subst (λ (i : ℕ). granule_at m i ≡ granule_at n i) at agree))
      | inr past ↦
          let at : touched program (length m) h ≡ 0 = grind (arith, nat_tests) in
          let past_n : length n ≤ k = omega arith in
          let same = same_fetched program h m n size (granule_past m k past ∙ sym (granule_past n k past_n)) in
          hart_alone h (hart_step program h m) (hart_step program h n) m n (touched program (length m) h) agree
          same.hart (same.first ∙ set_past m k same.value past) (same.second ∙ set_past n k same.value past_n)
    ]

pub touched_within : (program : List Instr) (granules : ℕ) (h : HartState) → 0 < granules → touched program granules h < granules
unfolding touched
touched_within program granules h some = grind (arith, nat_tests)

-- what a step in this memory does, by the value that the granule has there
pub record IsLocal (program : List Instr) (h : HartState) (m : List CapValue) (v : CapValue) : Type 0 where
  pub hart : (hart_step program h m).hart ≡ (local_step program (length m) h v).hart
  pub memory : (hart_step program h m).memory
      ≡ slice_set m (touched program (length m) h) (local_value program (length m) h v)
  pub granule : granule_at (hart_step program h m).memory (touched program (length m) h)
      ≡ local_value program (length m) h v

pub step_is_local : (program : List Instr) (h : HartState) (m : List CapValue) (v : CapValue) → 0 < length m →
    granule_at m (touched program (length m) h) ≡ v → IsLocal program h m v
unfolding local_step local_value granule_at
step_is_local program h m v some has =
    let k = touched program (length m) h in
    let n = replicate (length m) v in
    let size : length m ≡ length n = sym (length-replicate (length m) v) in
    let within : k < length m = touched_within program (length m) h some in
    let there : granule_at n k ≡ v = get_or-replicate (length m) k v (raw 0) within in
    let same = same_step program h m n size (has ∙ sym there) in
    let within_n : k < length n = omega arith in
    let value : local_value program (length m) h v ≡ same.value =
    ap (λ (l : List CapValue). slice_index_or l k (raw 0)) same.second ∙ get_or-set_same n k same.value (raw 0) within_n in
    record {
      hart = same.hart;
      memory = same.first ∙ ap (slice_set m k) (sym value);
      granule = ap (λ (l : List CapValue). slice_index_or l k (raw 0)) same.first
          ∙ (get_or-set_same m k same.value (raw 0) within ∙ sym value);
    }
