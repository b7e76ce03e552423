-- Instructions that write one register, one after another: what they leave.
use Rattle.std.proofs.Common.{◌≡◌, ◌≢◌, inl, inr, refl, sym, ap, subst, ◌∙◌, ℕ, zero, suc, ◌+◌, ◌*◌}
use Rattle.std.proofs.Common.{◌%◌, ◌^◌, ◌<◌, ◌==◌, Bool, true, false, if◌then◌else◌, List, [], ◌∷◌}
use Rattle.std.proofs.Common.{◌++◌, length, append_assoc, length-append, eq-eqb, ne_eqb, arith}
use Rattle.std.specs.Prelude.{slice_set, slice_index_or}
use Rattle.std.proofs.lemmas.Bool.{false≢true, cases_eq}
use Rattle.std.proofs.lemmas.List.{get_or-set_same, set-set}
use Rattle.cheri_model.specs.declared.instr.Instr.{Instr}
use Rattle.cap_model.specs.values.CapValue.{CapValue, valid, raw}
use Rattle.cap_model.specs.results.Addresses.{address_of, with_address, is_open}
use Rattle.cheri_model.specs.steps.Actions.{action, Put}
use Rattle.cheri_model.specs.steps.Hart.{HartState, null, put, next, next_pcc, register, integer}
use Rattle.cheri_model.specs.steps.Hart.{word_of_integer}
use Rattle.cheri_model.specs.steps.HartStep.{Stepped, done, hart_step}
use Rattle.asm_laws.specs.Stretches.{StandsAt, HasRegisters, after_steps, behind, Leaves}
use Rattle.asm_laws.proofs.Steps.{put_step, next_stands, pcc-put, moved_address}

-- the steps of these instructions lead from one hart to another, wherever they stand
pub record Does (instrs : List Instr) (before after : HartState) : Type 0 where
  pub steps : (program rest : List Instr) (memory : List CapValue) →
      StandsAt program (instrs ++ rest) before →
      after_steps program (length instrs) (done before memory) ≡ done after memory
  pub stands : (program rest : List Instr) → StandsAt program (instrs ++ rest) before →
      StandsAt program rest after

pub does_one : (i : Instr) (hart : HartState) (cd : ℕ) (v : CapValue) → action i hart ≡ Put cd v →
    Does (i ∷ []) hart (next (put cd v hart))
unfolding after_steps next
does_one i hart cd v is = record {
  steps = λ program rest memory at. put_step program rest i hart memory cd v at is;
  stands = λ program rest at. next_stands program rest i hart (next (put cd v hart)) at (ap next_pcc (pcc-put cd v hart));
}

steps_append : (program : List Instr) (m n : ℕ) (s : Stepped) →
    after_steps program (m + n) s ≡ after_steps program n (after_steps program m s)
unfolding after_steps
steps_append program zero n s =
    let none : 0 + n ≡ n = omega arith in
    ap (λ (k : ℕ). after_steps program k s) none
steps_append program (suc m) n s =
    let count : suc m + n ≡ suc (m + n) = omega arith in
    ap (λ (k : ℕ). after_steps program k s) count
    ∙ steps_append program m n (hart_step program s.hart s.memory)

pub does_append : (xs ys : List Instr) (a b c : HartState) → Does xs a b → Does ys b c →
    Does (xs ++ ys) a c
does_append xs ys a b c first second =
    let again : (program rest : List Instr) → StandsAt program ((xs ++ ys) ++ rest) a →
    StandsAt program (xs ++ (ys ++ rest)) a =
    λ program rest at. subst (λ (instrs : List Instr). StandsAt program instrs a) (append_assoc xs ys rest) at in
    record {
      steps = λ program rest memory at.
          ap (λ (n : ℕ). after_steps program n (done a memory)) (length-append xs ys)
          ∙ steps_append program (length xs) (length ys) (done a memory)
          ∙ ap (λ (s : Stepped). after_steps program (length ys) s) (first.steps program (ys ++ rest) memory (again program rest at))
          ∙ second.steps program rest memory (first.stands program (ys ++ rest) (again program rest at));
      stands = λ program rest at. second.stands program rest (first.stands program (ys ++ rest) (again program rest at));
    }

-- ---- one register

-- the hart so many instructions on
unfoldable pub advanced : ℕ → HartState → HartState
advanced zero hart = hart
advanced (suc n) hart = next (advanced n hart)

-- these instructions leave a value in a register, and PC behind them
unfoldable pub Writes : List Instr → ℕ → CapValue → HartState → Type 0
Writes instrs rd v hart = Does instrs hart (advanced (length instrs) (put rd v hart))

next_put : (rd : ℕ) (v : CapValue) (hart : HartState) → put rd v (next hart) ≡ next (put rd v hart)
unfolding put next
next_put rd v hart =
    elim (rd == 0) as (λ z. (if z then next hart else record (next hart) {
      regs =
          slice_set hart.regs rd v;
    })
    ≡ next (if z then hart else record hart { regs = slice_set hart.regs rd v })) [
      | true ↦ refl
      | false ↦ refl
    ]

pub advanced_put : (n rd : ℕ) (v : CapValue) (hart : HartState) →
    put rd v (advanced n hart) ≡ advanced n (put rd v hart)
unfolding advanced
advanced_put zero rd v hart = refl
advanced_put (suc n) rd v hart =
    next_put rd v (advanced n hart) ∙ ap next (advanced_put n rd v hart)

pub put_put : (rd : ℕ) (v w : CapValue) (hart : HartState) →
    put rd v (put rd w hart) ≡ put rd v hart
unfolding put
put_put rd v w hart =
    let first : Bool → HartState =
    λ z. if z then hart else record hart { regs = slice_set hart.regs rd w } in
    elim (rd == 0) as (λ z. (if z then first z else record (first z) {
      regs =
          slice_set (first z).regs rd v;
    })
    ≡ (if z then hart else record hart { regs = slice_set hart.regs rd v })) [
      | true ↦ refl
      | false ↦ ap (λ (regs : List CapValue). record hart {
        regs =
            regs;
      }) (set-set hart.regs rd w v)
    ]

pub writes_one : (i : Instr) (rd : ℕ) (v : CapValue) (hart : HartState) →
    action i hart ≡ Put rd v → Writes (i ∷ []) rd v hart
unfolding Writes advanced
writes_one i rd v hart is = does_one i hart rd v is

-- one more instruction, which writes the same register
pub writes_more : (xs : List Instr) (i : Instr) (rd : ℕ) (w u v : CapValue) (hart : HartState) →
    Writes xs rd w hart →
    action i (advanced (length xs) (put rd w hart)) ≡ Put rd u → put rd u hart ≡ put rd v hart →
    Writes (xs ++ i ∷ []) rd v hart
unfolding Writes advanced
writes_more xs i rd w u v hart first is same =
    let here = advanced (length xs) (put rd w hart) in
    let both =
    does_append xs (i ∷ []) hart here (next (put rd u here)) first (does_one i here rd u is) in
    let count : suc (length xs) ≡ length (xs ++ i ∷ []) =
    omega (arith, length-append xs (i ∷ [])) in
    let moved : put rd u here ≡ advanced (length xs) (put rd v hart) =
    advanced_put (length xs) rd u (put rd w hart)
    ∙ ap (advanced (length xs)) (put_put rd u w hart ∙ same) in
    let after : next (put rd u here) ≡ advanced (length (xs ++ i ∷ [])) (put rd v hart) =
    ap next moved ∙ ap (λ (n : ℕ). advanced n (put rd v hart)) count in
    subst (λ (h : HartState). Does (xs ++ i ∷ []) hart h) after both

-- ---- what is read back

regs_advanced : (n : ℕ) (hart : HartState) → (advanced n hart).regs ≡ hart.regs
unfolding advanced next
regs_advanced zero hart = refl
regs_advanced (suc n) hart = regs_advanced n hart

put_zero : (rd : ℕ) (v : CapValue) (hart : HartState) → rd ≡ 0 → put rd v hart ≡ hart
unfolding put
put_zero rd v hart is =
    ap (λ (z : Bool). if z then hart else record hart {
      regs =
          slice_set hart.regs rd v;
    }) (eq-eqb rd 0 is)

put_regs : (rd : ℕ) (v : CapValue) (hart : HartState) → rd ≢ 0 →
    put rd v hart ≡ record hart { regs = slice_set hart.regs rd v }
unfolding put
put_regs rd v hart some =
    ap (λ (z : Bool). if z then hart else record hart {
      regs =
          slice_set hart.regs rd v;
    }) (ne_eqb rd 0 some)

pub read_back : (n rd : ℕ) (w : CapValue) (hart : HartState) → rd ≢ 0 → rd < length hart.regs →
    register (advanced n (put rd w hart)) rd ≡ w
unfolding register
read_back n rd w hart some inside =
    ap (λ (regs : List CapValue). slice_index_or regs rd null) (regs_advanced n (put rd w hart))
    ∙ ap (λ (h : HartState). slice_index_or h.regs rd null) (put_regs rd w hart some)
    ∙ get_or-set_same hart.regs rd w null inside

-- an operation on what the register has
pub value_back : (f : CapValue → CapValue) (n rd : ℕ) (w y : CapValue) (hart : HartState) →
    HasRegisters hart → rd < 32 → f w ≡ y →
    put rd (f (register (advanced n (put rd w hart)) rd)) hart ≡ put rd y hart
value_back f n rd w y hart has below gives =
    elim (cases_eq rd 0) [
      | inl none ↦ put_zero rd _ hart none ∙ sym (put_zero rd y hart none)
      | inr some ↦
          let count = has.count in
          let inside : rd < length hart.regs = omega arith in
          ap (λ (v : CapValue). put rd (f v) hart) (read_back n rd w hart some inside)
          ∙ ap (λ (v : CapValue). put rd v hart) gives
    ]

pub written_back : (f : ℕ → ℕ) (n rd x y : ℕ) (w : CapValue) (hart : HartState) →
    HasRegisters hart → rd < 32 → address_of w ≡ x → f x ≡ y →
    put rd (word_of_integer (f (integer (advanced n (put rd w hart)) rd))) hart ≡ put rd (word_of_integer y) hart
written_back f n rd x y w hart has below is gives =
    let value : CapValue → CapValue = λ v. word_of_integer (f (address_of v)) in
    value_back value n rd w (word_of_integer y) hart has below (ap (λ (a : ℕ). word_of_integer (f a)) is ∙ ap (λ (a : ℕ). word_of_integer a) gives)

-- ---- PC behind the instructions

pub moved_again : (v : CapValue) (a b : ℕ) → is_open v ≡ true →
    with_address (with_address v a) b ≡ with_address v b
unfolding with_address
moved_again (valid c) a b opened = refl
moved_again (raw word) a b opened = absurd (false≢true opened)

not_moved : (v : CapValue) → is_open v ≡ true → with_address v (address_of v) ≡ v
unfolding with_address address_of
not_moved (valid c) opened = refl
not_moved (raw word) opened = absurd (false≢true opened)

pub advanced_is_behind : (n : ℕ) (hart : HartState) → is_open hart.pcc ≡ true →
    address_of hart.pcc < 2 ^ 64 → advanced n hart ≡ behind n hart
unfolding advanced behind next next_pcc
advanced_is_behind zero hart opened below =
    let here : (address_of hart.pcc + 4 * 0) % 2 ^ 64 ≡ address_of hart.pcc = omega arith in
    ap (λ (pcc : CapValue). record hart {
      pcc =
          pcc;
    }) (sym (ap (with_address hart.pcc) here ∙ not_moved hart.pcc opened))
advanced_is_behind (suc n) hart opened below =
    let p = address_of hart.pcc in
    let here : address_of (with_address hart.pcc ((p + 4 * n) % 2 ^ 64)) ≡ (p + 4 * n) % 2 ^ 64 =
    moved_address hart.pcc _ opened in
    let on : ((p + 4 * n) % 2 ^ 64 + 4) % 2 ^ 64 ≡ (p + 4 * suc n) % 2 ^ 64 = omega arith in
    ap next (advanced_is_behind n hart opened below)
    ∙ ap (λ (pcc : CapValue). record hart { pcc = pcc })
    (ap (λ (a : ℕ). with_address (with_address hart.pcc ((p + 4 * n) % 2 ^ 64)) ((a + 4) % 2 ^ 64)) here
    ∙ ap (with_address (with_address hart.pcc ((p + 4 * n) % 2 ^ 64))) on
    ∙ moved_again hart.pcc _ _ opened)

nothing_behind : (instrs : List Instr) → instrs ++ [] ≡ instrs
nothing_behind [] = refl
nothing_behind (i ∷ instrs) = ap (λ (is : List Instr). i ∷ is) (nothing_behind instrs)

-- so that is what as many steps leave
pub leaves : (program instrs : List Instr) (rd : ℕ) (v : CapValue) (hart : HartState) (memory : List CapValue) →
    StandsAt program instrs hart → Writes instrs rd v hart →
    Leaves program instrs hart memory (put rd v hart)
unfolding Writes
leaves program instrs rd v hart memory at writes =
    let here =
    subst (λ (is : List Instr). StandsAt program is hart) (sym (nothing_behind instrs)) at in
    let place = at.place in
    let inside = at.inside in
    let size = at.size in
    let same = pcc-put rd v hart in
    let opened : is_open (put rd v hart).pcc ≡ true = rw same at.opened in
    let below : address_of (put rd v hart).pcc < 2 ^ 64 = rw same (omega arith) in
    writes.steps program [] memory here
    ∙ ap (λ (h : HartState). done h memory) (advanced_is_behind (length instrs) (put rd v hart) opened below)
