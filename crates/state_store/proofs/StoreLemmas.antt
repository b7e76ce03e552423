-- What rows mean in a store that knows more, and that each meaning is one row.
use Rattle.std.proofs.Common.{◌≡◌, ℕ, zero, suc, ◌+◌, ◌-◌, ◌*◌, ◌/◌, ◌%◌, ◌<◌, List, [], ◌∷◌, ◌++◌, length, arith, ap, sym, ◌∙◌, refl, subst, inl, inr, eqb-true, drop}
use Rattle.std.specs.Prelude.{Option, Some, None, option_map, option_and_then, slice_get, slice_index_or, ◌==◌, if◌then◌else◌, nat_lt}
use Rattle.std.proofs.lemmas.Bool.{cases_lt, cases_eq}
use Rattle.std.proofs.lemmas.Bool.Decides.{nat_tests}
use Rattle.std.proofs.lemmas.Option.{none-some, same_Some, cond_some}
use Rattle.cap_model.specs.values.CapValue.{CapValue}
use Rattle.cheri_model.specs.declared.trace.Status.{Status}
use Rattle.cheri_model.specs.declared.trace.Status.TheVariants.{Running, Halted, Trapped}
use Rattle.cheri_model.specs.declared.trace.Trap.{Trap}
use Rattle.cheri_model.specs.steps.Hart.{HartState, null}
use Rattle.cheri_model.specs.runs.Machine.{MachineState}
use Rattle.state_store.specs.Numbered.{Extends, IsDistinct, each}
use Rattle.state_store.specs.Codes.{code_of, status_of}
use Rattle.state_store.specs.Stores.{Stored, hart_with, hart_of, memory_of, hart_at, memory_at, state_with, state_of, Keeps, IsOneRow}
use Rattle.state_store.proofs.NumberedLemmas.{each_kept, each_one, then_some, map_some}

-- what comes after it is kept where it is
then_kept : {A B : Type 0} (f g : A → Option B) (o q : Option A) (y : B) →
    ((x : A) → o ≡ Some x → q ≡ Some x) → ((x : A) (z : B) → f x ≡ Some z → g x ≡ Some z) →
    option_and_then f o ≡ Some y → option_and_then g q ≡ Some y
then_kept {A} {B} f g o q y same kept h =
    let p = then_some f o y h in
    ap (λ (r : Option A). option_and_then g r) (same p.0 p.1) ∙ kept p.0 y p.2

pub hart_of_kept : (values values' : List CapValue) → Extends values values' → (row : List ℕ) (h : HartState) →
    hart_of values row ≡ Some h → hart_of values' row ≡ Some h
unfolding hart_of
hart_of_kept values values' kept [] h is = absurd (none-some h is)
hart_of_kept values values' kept (code ∷ ids) h is =
    then_kept (λ (status : Status). option_and_then (hart_with status) (each (slice_get values) ids))
    (λ (status : Status). option_and_then (hart_with status) (each (slice_get values') ids))
    (status_of code) (status_of code) h (λ status same. same)
    (λ status k means. then_kept (hart_with status) (hart_with status) (each (slice_get values) ids)
    (each (slice_get values') ids) k (λ xs each_is. each_kept (slice_get values) (slice_get values') kept ids xs each_is)
    (λ xs z same. same) means) is

pub hart_at_kept : (a b : Stored) → Keeps a b → (id : ℕ) (h : HartState) → hart_at a id ≡ Some h → hart_at b id ≡ Some h
unfolding hart_at
hart_at_kept a b keeps id h is =
    then_kept (hart_of a.values) (hart_of b.values) (slice_get a.harts id) (slice_get b.harts id) h
    (λ row at. keeps.harts id row at) (λ row k means. hart_of_kept a.values b.values keeps.values row k means) is

pub memory_of_kept : (values values' : List CapValue) → Extends values values' → (granules : ℕ) (row : List ℕ)
    (m : List CapValue) → memory_of values granules row ≡ Some m → memory_of values' granules row ≡ Some m
unfolding memory_of
memory_of_kept values values' kept granules row m is =
    grind (arith, each_kept (slice_get values) (slice_get values') kept row m)

pub memory_at_kept : (a b : Stored) → Keeps a b → (id : ℕ) (m : List CapValue) → memory_at a id ≡ Some m →
    memory_at b id ≡ Some m
unfolding memory_at
memory_at_kept a b keeps id m is =
    then_kept (memory_of a.values a.granules) (memory_of b.values b.granules) (slice_get a.memories id)
    (slice_get b.memories id) m (λ row at. keeps.memories id row at)
    (λ row k means. subst (λ (n : ℕ). memory_of b.values n row ≡ Some k) (sym keeps.granules)
    (memory_of_kept a.values b.values keeps.values a.granules row k means)) is

-- a status has one code
pub code_of_status : (code : ℕ) (s : Status) → status_of code ≡ Some s → code ≡ code_of s
unfolding status_of
code_of_status code s is = elim (cases_eq code 0) [
  | inl zero_code ↦
      let opened : status_of code ≡ Some Running = ap status_of zero_code in
      zero_code ∙ ap code_of (same_Some Running s (sym opened ∙ is))
  | inr other ↦ elim (cases_eq code 1) [
    | inl one_code ↦
        let opened : status_of code ≡ Some Halted = ap status_of one_code in
        one_code ∙ ap code_of (same_Some Halted s (sym opened ∙ is))
    | inr more ↦ elim (cases_lt code 65538) [
      | inl below ↦
          let trap : Trap = record { cause = (code - 2) / 256; reg = (code - 2) % 256 } in
          let opened : status_of code ≡ Some (Trapped trap) = grind (arith, nat_tests) in
          let same : code ≡ 2 + 256 * ((code - 2) / 256) + (code - 2) % 256 = omega arith in
          same ∙ ap code_of (same_Some (Trapped trap) s (sym opened ∙ is))
      | inr past ↦
          let opened : status_of code ≡ None = grind (arith, nat_tests) in
          absurd (none-some s (sym opened ∙ is))
    ]
  ]
]

pub one_code : (c d : ℕ) (s : Status) → status_of c ≡ Some s → status_of d ≡ Some s → c ≡ d
one_code c d s is also = code_of_status c s is ∙ sym (code_of_status d s also)

-- the values that a hart is made of
pub hart_parts : (status : Status) (xs : List CapValue) (h : HartState) → hart_with status xs ≡ Some h →
    (status ≡ h.status) × (xs ≡ h.pcc ∷ drop 1 h.regs) × (length h.regs ≡ 32) × (slice_index_or h.regs 0 null ≡ null)
hart_parts status [] h is = absurd (none-some h is)
hart_parts status (pcc ∷ regs) h is =
    let made : HartState = record { regs = null ∷ regs; pcc = pcc; status = status } in
    let p = cond_some (length regs == 31) made h is in
    let count : length regs ≡ 31 = eqb-true (length regs) 31 p.0 in
    let more : suc (length regs) ≡ 32 = omega arith in (
      ap (λ (k : HartState). k.status) p.1,
      ap (λ (k : HartState). k.pcc ∷ drop 1 k.regs) p.1,
      subst (λ (k : HartState). length k.regs ≡ 32) p.1 more,
      subst (λ (k : HartState). slice_index_or k.regs 0 null ≡ null) p.1 refl,
    )

-- a hart is one row
pub hart_of_one : (values : List CapValue) → IsDistinct values → (m n : List ℕ) (h : HartState) →
    hart_of values m ≡ Some h → hart_of values n ≡ Some h → m ≡ n
unfolding hart_of
hart_of_one values one [] n h is also = absurd (none-some h is)
hart_of_one values one (c ∷ is) [] h p q = absurd (none-some h q)
hart_of_one values one (c ∷ is) (d ∷ ks) h p q =
    let a = then_some (λ (status : Status). option_and_then (hart_with status) (each (slice_get values) is)) (status_of c) h p in
    let b = then_some (λ (status : Status). option_and_then (hart_with status) (each (slice_get values) ks)) (status_of d) h q in
    let x = then_some (hart_with a.0) (each (slice_get values) is) h a.2 in
    let y = then_some (hart_with b.0) (each (slice_get values) ks) h b.2 in
    let f = hart_parts a.0 x.0 h x.2 in
    let g = hart_parts b.0 y.0 h y.2 in
    let first : c ≡ d = one_code c d h.status (a.1 ∙ ap (λ (s : Status). Some s) f.0) (b.1 ∙ ap (λ (s : Status). Some s) g.0) in
    let whole : List CapValue = h.pcc ∷ drop 1 h.regs in
    let rest : is ≡ ks = each_one (slice_get values) (λ i k v at there. one i k v at there) is ks whole
    (x.1 ∙ ap (λ (l : List CapValue). Some l) f.1) (y.1 ∙ ap (λ (l : List CapValue). Some l) g.1) in
    ap (λ (n : ℕ). n ∷ is) first ∙ ap (λ (l : List ℕ). d ∷ l) rest

pub hart_at_one : (store : Stored) → IsDistinct store.values → IsDistinct store.harts → (i k : ℕ) (h : HartState) →
    hart_at store i ≡ Some h → hart_at store k ≡ Some h → i ≡ k
unfolding hart_at
hart_at_one store values rows i k h is also =
    let a = then_some (hart_of store.values) (slice_get store.harts i) h is in
    let b = then_some (hart_of store.values) (slice_get store.harts k) h also in
    let same = hart_of_one store.values values a.0 b.0 h a.2 b.2 in
    rows i k b.0 (a.1 ∙ ap (λ (r : List ℕ). Some r) same) b.1

-- the numbers of a memory
pub memory_parts : (values : List CapValue) (granules : ℕ) (row : List ℕ) (m : List CapValue) →
    memory_of values granules row ≡ Some m → (length row ≡ granules) × (each (slice_get values) row ≡ Some m)
unfolding memory_of
memory_parts values granules row m is = elim (cases_eq (length row) granules) [
  | inl same ↦ let opened : memory_of values granules row ≡ each (slice_get values) row = grind (arith, nat_tests) in (same, sym opened ∙ is)
  | inr other ↦ let opened : memory_of values granules row ≡ None = grind (arith, nat_tests) in absurd (none-some m (sym opened ∙ is))
]

pub memory_made : (values : List CapValue) (granules : ℕ) (row : List ℕ) (m : List CapValue) →
    length row ≡ granules → each (slice_get values) row ≡ Some m → memory_of values granules row ≡ Some m
unfolding memory_of
memory_made values granules row m same is =
    let opened : memory_of values granules row ≡ each (slice_get values) row = grind (arith, nat_tests) in opened ∙ is

pub memory_at_one : (store : Stored) → IsDistinct store.values → IsDistinct store.memories → (i k : ℕ) (m : List CapValue) →
    memory_at store i ≡ Some m → memory_at store k ≡ Some m → i ≡ k
unfolding memory_at
memory_at_one store values rows i k m is also =
    let a = then_some (memory_of store.values store.granules) (slice_get store.memories i) m is in
    let b = then_some (memory_of store.values store.granules) (slice_get store.memories k) m also in
    let p = memory_parts store.values store.granules a.0 m a.2 in
    let q = memory_parts store.values store.granules b.0 m b.2 in
    let same = each_one (slice_get store.values) (λ x y v at there. values x y v at there) a.0 b.0 m p.1 q.1 in
    rows i k b.0 (a.1 ∙ ap (λ (r : List ℕ). Some r) same) b.1

-- the parts of a state
pub state_parts : (store : Stored) (m : ℕ) (hs : List ℕ) (s : MachineState) → state_of store (m ∷ hs) ≡ Some s →
    (memory_at store m ≡ Some s.memory) × (each (hart_at store) hs ≡ Some s.harts)
unfolding state_of
state_parts store m hs s is =
    let a = then_some (λ (memory : List CapValue). option_map (λ (harts : List HartState). record { harts = harts; memory = memory })
    (each (hart_at store) hs)) (memory_at store m) s is in
    let b = map_some (λ (harts : List HartState). record { harts = harts; memory = a.0 }) (each (hart_at store) hs) s a.2 in (
      a.1 ∙ ap (λ (t : MachineState). Some t.memory) b.2,
      b.1 ∙ ap (λ (t : MachineState). Some t.harts) b.2,
    )

pub state_made : (store : Stored) (m : ℕ) (hs : List ℕ) (memory : List CapValue) (harts : List HartState) →
    memory_at store m ≡ Some memory → each (hart_at store) hs ≡ Some harts →
    state_of store (m ∷ hs) ≡ Some (record { harts = harts; memory = memory })
unfolding state_of
state_made store m hs memory harts is also =
    ap (λ (o : Option (List CapValue)). option_and_then (λ (x : List CapValue).
    option_map (λ (y : List HartState). record { harts = y; memory = x }) (each (hart_at store) hs)) o) is
    ∙ ap (λ (o : Option (List HartState)). option_map (λ (y : List HartState). record { harts = y; memory = memory }) o) also

pub state_of_kept : (a b : Stored) → Keeps a b → (row : List ℕ) (s : MachineState) → state_of a row ≡ Some s →
    state_of b row ≡ Some s
unfolding state_of
state_of_kept a b keeps [] s is = absurd (none-some s is)
state_of_kept a b keeps (m ∷ hs) s is =
    let p = state_parts a m hs s is in
    state_made b m hs s.memory s.harts (memory_at_kept a b keeps m s.memory p.0)
    (each_kept (hart_at a) (hart_at b) (hart_at_kept a b keeps) hs s.harts p.1)

pub state_of_one : (store : Stored) → IsDistinct store.values → IsDistinct store.harts → IsDistinct store.memories →
    IsOneRow store
unfolding state_of
state_of_one store values harts memories [] n s is also = absurd (none-some s is)
state_of_one store values harts memories (m ∷ hs) [] s is also = absurd (none-some s also)
state_of_one store values harts memories (m ∷ hs) (n ∷ ks) s is also =
    let p = state_parts store m hs s is in
    let q = state_parts store n ks s also in
    let first = memory_at_one store values memories m n s.memory p.0 q.0 in
    let rest = each_one (hart_at store) (hart_at_one store values harts) hs ks s.harts p.1 q.1 in
    ap (λ (i : ℕ). i ∷ hs) first ∙ ap (λ (l : List ℕ). n ∷ l) rest

pub keeps_self : (a : Stored) → Keeps a a
keeps_self a = record { values = λ i x is. is; harts = λ i x is. is; memories = λ i x is. is; granules = refl }

pub keeps_on : (a b c : Stored) → Keeps a b → Keeps b c → Keeps a c
keeps_on a b c f g = record {
  values = λ i x is. g.values i x (f.values i x is);
  harts = λ i x is. g.harts i x (f.harts i x is);
  memories = λ i x is. g.memories i x (f.memories i x is);
  granules = g.granules ∙ f.granules;
}
