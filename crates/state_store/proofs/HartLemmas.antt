-- A hart and its row.
use Rattle.std.proofs.Common.{◌≡◌, ◌≢◌, ℕ, zero, suc, ◌+◌, ◌-◌, ◌<◌, ◌≤◌, List, [], ◌∷◌, length, arith, ap, sym, ◌∙◌, refl, subst, drop, inl, inr}
use Rattle.std.specs.Prelude.{Option, Some, None, IsSome, option_and_then, slice_get, slice_set, slice_index_or, ◌==◌, if◌then◌else◌}
use Rattle.std.proofs.lemmas.Bool.{cases_eq}
use Rattle.std.proofs.lemmas.Bool.Decides.{nat_tests}
use Rattle.std.proofs.lemmas.List.{length-drop, length-set, get_or-set_same, get_or-set_other}
use Rattle.std.proofs.lemmas.Option.{none-some, same_Some, slice_get_within, slice_get-get_or, get_or_from_slice_get}
use Rattle.cap_model.specs.values.CapValue.{CapValue}
use Rattle.cheri_model.specs.declared.trace.Status.{Status}
use Rattle.cheri_model.specs.steps.Hart.{HartState, null, register, put}
use Rattle.hart.specs.Hart.{IsHart}
use Rattle.state_store.specs.Numbered.{Extends, each}
use Rattle.state_store.specs.Codes.{status_of}
use Rattle.state_store.specs.Stores.{hart_with, hart_of}
use Rattle.state_store.proofs.NumberedLemmas.{each_of, then_some}
use Rattle.state_store.proofs.ViewLemmas.{IsHartRow, row_of_hart}

pub get_set_same : {A : Type 0} (xs : List A) (n : ℕ) (x : A) → n < length xs → slice_get (slice_set xs n x) n ≡ Some x
get_set_same [] n x below = absurd (omega arith)
get_set_same (y ∷ ys) zero x below = refl
get_set_same (y ∷ ys) (suc n) x below = let rest : n < length ys = omega arith in get_set_same ys n x rest

pub get_set_other : {A : Type 0} (xs : List A) (n i : ℕ) (x : A) → i ≢ n → slice_get (slice_set xs n x) i ≡ slice_get xs i
get_set_other [] n i x other = refl
get_set_other (y ∷ ys) zero zero x other = absurd (other refl)
get_set_other (y ∷ ys) zero (suc i) x other = refl
get_set_other (y ∷ ys) (suc n) zero x other = refl
get_set_other (y ∷ ys) (suc n) (suc i) x other = get_set_other ys n i x (λ same. other (ap suc same))

-- c0 is null
null_before : (regs : List CapValue) → length regs ≡ 32 → slice_index_or regs 0 null ≡ null →
    (null ∷ drop 1 regs ≡ regs) × (length (drop 1 regs) ≡ 31)
null_before [] count first = absurd (omega arith)
null_before (v ∷ regs) count first =
    let rest : length regs ≡ 31 = omega arith in
    (ap (λ (w : CapValue). w ∷ regs) (sym first), rest)

read : (row : List ℕ) (k code : ℕ) → slice_get row k ≡ Some code → slice_index_or row k 0 ≡ code
read row k code at = get_or_from_slice_get row k code 0 at

with_made : (h : HartState) (status : Status) (rest : List CapValue) → status ≡ h.status → length rest ≡ 31 →
    null ∷ rest ≡ h.regs → hart_with status (h.pcc ∷ rest) ≡ Some h
with_made h status rest same count regs =
    let opened : hart_with status (h.pcc ∷ rest) ≡ Some (record { regs = null ∷ rest; pcc = h.pcc; status = status }) =
    grind (arith, nat_tests) in
    opened ∙ (ap (λ (s : Status). Some (record { regs = null ∷ rest; pcc = h.pcc; status = s })) same
    ∙ ap (λ (rs : List CapValue). Some (record { regs = rs; pcc = h.pcc; status = h.status })) regs)

-- the numbers after the status are those of PCC and the registers
ids_made : (values : List CapValue) (code : ℕ) (is : List ℕ) (h : HartState) → length is ≡ 32 → length h.regs ≡ 32 →
    length (drop 1 h.regs) ≡ 31 →
    slice_get values (slice_index_or (code ∷ is) 1 0) ≡ Some h.pcc →
    ((i : ℕ) → 0 < i → i < 32 → slice_get values (slice_index_or (code ∷ is) (i + 1) 0) ≡ slice_get h.regs i) →
    each (slice_get values) is ≡ Some (h.pcc ∷ drop 1 h.regs)
ids_made values code is h width count rest pcc regs =
    let even : length is ≡ suc (length (drop 1 h.regs)) = omega arith in
    each_of (slice_get values) is (h.pcc ∷ drop 1 h.regs) even points
  where
    points : (k i : ℕ) (v : CapValue) → slice_get is k ≡ Some i → slice_get (h.pcc ∷ drop 1 h.regs) k ≡ Some v →
        slice_get values i ≡ Some v
    points zero i v at is_v =
        ap (slice_get values) (sym (read is 0 i at)) ∙ (pcc ∙ is_v)
    points (suc k) i v at is_v =
        let within : suc k < length is = slice_get_within is (suc k) i at in
        let below : suc k < 32 = omega arith in
        let some : 0 < suc k = omega arith in
        let index : suc k + 1 ≡ suc (suc k) = omega arith in
        let there : slice_index_or (code ∷ is) (suc k + 1) 0 ≡ i =
        ap (λ (n : ℕ). slice_index_or (code ∷ is) n 0) index ∙ read is (suc k) i at in
        let dropped : slice_get h.regs (suc k) ≡ slice_get (drop 1 h.regs) k = sym (later h.regs k) in
        ap (slice_get values) (sym there) ∙ (regs (suc k) some below ∙ (dropped ∙ is_v))
      where
        later : (xs : List CapValue) (n : ℕ) → slice_get (drop 1 xs) n ≡ slice_get xs (suc n)
        later [] n = refl
        later (x ∷ xs) n = refl

-- the row with these numbers is the hart
pub hart_row_made : (values : List CapValue) (row : List ℕ) (h : HartState) → length row ≡ 33 → IsHart h.regs h.pcc →
    status_of (slice_index_or row 0 0) ≡ Some h.status →
    slice_get values (slice_index_or row 1 0) ≡ Some h.pcc →
    ((i : ℕ) → 0 < i → i < 32 → slice_get values (slice_index_or row (i + 1) 0) ≡ slice_get h.regs i) →
    hart_of values row ≡ Some h
unfolding hart_of
hart_row_made values [] h width formed status pcc regs = absurd (omega arith)
hart_row_made values (code ∷ is) h width formed status pcc regs =
    let rest = null_before h.regs formed.count formed.null_first in
    let count : length is ≡ 32 = omega arith in
    let ids = ids_made values code is h count formed.count rest.1 pcc regs in
    ap (λ (o : Option Status). option_and_then (λ (s : Status). option_and_then (hart_with s) (each (slice_get values) is)) o) status
    ∙ (ap (λ (o : Option (List CapValue)). option_and_then (hart_with h.status) o) ids
    ∙ with_made h h.status (drop 1 h.regs) refl rest.1 rest.0)

-- what a row of a hart has
pub record IsLoadable (values : List CapValue) (row : List ℕ) : Type 0 where
  pub width : length row ≡ 33
  pub status : IsSome (status_of (slice_index_or row 0 0))
  pub within : (i : ℕ) → 0 < i → i < 33 → slice_index_or row i 0 < length values

pub loadable : (values : List CapValue) (row : List ℕ) (h : HartState) → hart_of values row ≡ Some h → IsLoadable values row
loadable values row h is =
    let r = row_of_hart values row h is in
    let width = r.width in
    record {
      width = r.width;
      status = subst (λ (o : Option Status). IsSome o)
          (sym (r.status (slice_index_or row 0 0) (slice_get-get_or row 0 0 (omega arith)))) refl;
      within = λ i some below.
          let here : slice_get row i ≡ Some (slice_index_or row i 0) = slice_get-get_or row i 0 (omega arith) in
          elim (cases_eq i 1) [
            | inl one ↦ slice_get_within values (slice_index_or row i 0) h.pcc
                (r.pcc (slice_index_or row i 0) (ap (slice_get row) (sym one) ∙ here))
            | inr other ↦
                let more : 0 < i - 1 = omega arith in
                let less : i - 1 < 32 = omega arith in
                let back : i - 1 + 1 ≡ i = omega arith in
                let count = r.registers in
                let inside : i - 1 < length h.regs = omega arith in
                let v : slice_get h.regs (i - 1) ≡ Some (slice_index_or h.regs (i - 1) null) = slice_get-get_or h.regs (i - 1) null inside in
                slice_get_within values (slice_index_or row i 0) (slice_index_or h.regs (i - 1) null)
                (r.register (i - 1) (slice_index_or row i 0) more less (ap (slice_get row) back ∙ here) ∙ v)
          ];
    }

-- a register by its number
pub register_at : (h : HartState) (i : ℕ) → length h.regs ≡ 32 → i < 32 → slice_get h.regs i ≡ Some (register h i)
unfolding register
register_at h i count below = let within : i < length h.regs = omega arith in slice_get-get_or h.regs i null within

-- a row that has a hart's registers below this one
pub record IsRowTo (values : List CapValue) (row : List ℕ) (h : HartState) (n : ℕ) : Type 0 where
  pub width : length row ≡ 33
  pub status : status_of (slice_index_or row 0 0) ≡ Some h.status
  pub pcc : slice_get values (slice_index_or row 1 0) ≡ Some h.pcc
  pub registers : (i : ℕ) → 0 < i → i < n → slice_get values (slice_index_or row (i + 1) 0) ≡ slice_get h.regs i

pub row_done : (values : List CapValue) (row : List ℕ) (h : HartState) (n : ℕ) → IsRowTo values row h n → 32 ≤ n →
    IsHart h.regs h.pcc → hart_of values row ≡ Some h
row_done values row h n r done formed =
    hart_row_made values row h r.width formed r.status r.pcc
    (λ i some below. r.registers i some (let less : i < n = omega arith in less))

-- one more register has its value's number
pub row_more : (values values' : List CapValue) (row : List ℕ) (h : HartState) (n m id : ℕ) → Extends values values' →
    IsRowTo values row h n → 0 < n → n < 32 → m ≡ n → length h.regs ≡ 32 →
    slice_get values' id ≡ slice_get h.regs n → IsRowTo values' (slice_set row (m + 1) id) h (n + 1)
row_more values values' row h n m id kept r some below same count is =
    let width = r.width in
    let first : 0 ≢ m + 1 = λ e. omega arith in
    let second : 1 ≢ m + 1 = λ e. omega arith in
    let inside : m + 1 < length row = omega arith in
    record {
      width = length-set row (m + 1) id ∙ width;
      status = ap status_of (get_or-set_other row (m + 1) 0 id 0 first) ∙ r.status;
      pcc = ap (slice_get values') (get_or-set_other row (m + 1) 1 id 0 second)
          ∙ kept (slice_index_or row 1 0) h.pcc r.pcc;
      registers = λ i more less. elim (cases_eq i n) [
        | inl equal ↦
            let there : i + 1 ≡ m + 1 = omega arith in
            ap (λ (k : ℕ). slice_get values' (slice_index_or (slice_set row (m + 1) id) k 0)) there
            ∙ (ap (slice_get values') (get_or-set_same row (m + 1) id 0 inside) ∙ (is ∙ ap (slice_get h.regs) (sym equal)))
        | inr other ↦
            let apart : i + 1 ≢ m + 1 = λ e. other (omega arith) in
            let lower : i < n = omega arith in
            let within : i < 32 = omega arith in
            let v = register_at h i count within in
            ap (slice_get values') (get_or-set_other row (m + 1) (i + 1) id 0 apart)
            ∙ (kept (slice_index_or row (i + 1) 0) (register h i) (r.registers i more lower ∙ v) ∙ sym v)
      ];
    }

-- one more register is loaded
pub load_more : (values : List CapValue) (row : List ℕ) (h : HartState) (n m : ℕ) (v : CapValue) → IsRowTo values row h n →
    0 < n → n < 32 → m ≡ n → length h.regs ≡ 32 → slice_get values (slice_index_or row (n + 1) 0) ≡ Some v →
    IsRowTo values row (put m v h) (n + 1) × (length (put m v h).regs ≡ 32)
unfolding put
load_more values row h n m v r some below same count is =
    let opened : put m v h ≡ record h { regs = slice_set h.regs m v } = grind (arith, nat_tests) in
    let inside : m < length h.regs = omega arith in
    subst (λ (k : HartState). IsRowTo values row k (n + 1) × (length k.regs ≡ 32)) (sym opened) (
      record {
        width = r.width;
        status = r.status;
        pcc = r.pcc;
        registers = λ i more less. elim (cases_eq i n) [
          | inl equal ↦
              let at : i ≡ m = omega arith in
              ap (λ (k : ℕ). slice_get values (slice_index_or row (k + 1) 0)) equal
              ∙ (is ∙ (sym (get_set_same h.regs m v inside) ∙ ap (slice_get (slice_set h.regs m v)) (sym at)))
          | inr other ↦
              let apart : i ≢ m = λ e. other (omega arith) in
              let lower : i < n = omega arith in
              r.registers i more lower ∙ sym (get_set_other h.regs m i v apart)
        ];
      },
      length-set h.regs m v ∙ count,
    )
