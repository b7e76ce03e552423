-- What an operation stands for can be written as a listing, where what it goes to is no further than the
-- end of the program.
use Rattle.std.proofs.Common.{◌≡◌, ℕ, zero, suc, ◌-◌, ◌%◌, ◌<◌, ◌≤◌, ◌==◌, ◌&&◌, nat_lt, nat_le, not, Bool, true, false, cond, List, [], ◌∷◌, ◌++◌, Option, Some, None, All, refl, sym, subst, lit<, arith}
use Rattle.std.specs.Prelude.{ℤ, pos, negsuc, option_map}
use Rattle.std.proofs.lemmas.Bool.Decides.{nat_tests}
use Rattle.std.proofs.lemmas.List.Elements.{All-nil, All-cons, All-append}
use Rattle.cheri_model.specs.declared.form.Form.{Form}
use Rattle.cheri_model.specs.declared.form.Form.TheVariants.{Three, Two, Immediate, Shift, WordShift, SetBoundsImm, Upper, Load, Store, Swap, Branch, Jump, Invoke, Alone}
use Rattle.cheri_model.specs.declared.form.ThreeOp.TheVariants as three_op
use Rattle.cheri_model.specs.declared.form.TwoOp.TheVariants as two_op
use Rattle.cheri_model.specs.declared.form.ImmediateOp.TheVariants as immediate_op
use Rattle.cheri_model.specs.declared.form.ShiftOp.TheVariants as shift_op
use Rattle.cheri_model.specs.declared.form.WordShiftOp.TheVariants as word_shift_op
use Rattle.cheri_model.specs.declared.form.UpperOp.TheVariants as upper_op
use Rattle.cheri_model.specs.declared.form.LoadOp.TheVariants as load_op
use Rattle.cheri_model.specs.declared.form.StoreOp.TheVariants as store_op
use Rattle.cheri_model.specs.declared.form.BranchOp.TheVariants as branch_op
use Rattle.cheri_model.specs.instructions.Form.{form_of, instr_of, three_instr, two_instr, immediate_instr, shift_instr, word_shift_instr, upper_instr, load_instr, store_instr, branch_instr}
use Rattle.cheri_model.specs.declared.instr.Instr.{Instr}
use Rattle.cheri_model.specs.declared.instr.Instr.TheVariants as instr
use Rattle.cheri_model.specs.declared.form.LoadOp.{LoadOp}
use Rattle.cheri_model.specs.declared.operands.TheConstants.{MAX_SHIFT, MAX_WORD_SHIFT, MAX_IMMEDIATE_LENGTH, MAX_UPPER_IMMEDIATE}
use Rattle.canonical.specs.Listable.{Is12Bits, IsReadable}
use Rattle.asm_expansions.specs.declared.operation.Operation.{Operation}
use Rattle.asm_expansions.specs.declared.operation.Operation.TheVariants as does
use Rattle.asm_expansions.specs.declared.operation.PseudoTwoOp.{PseudoTwoOp}
use Rattle.asm_expansions.specs.declared.operation.PseudoTwoOp.TheVariants as twos
use Rattle.asm_expansions.specs.declared.operation.PseudoThreeOp.{PseudoThreeOp}
use Rattle.asm_expansions.specs.declared.operation.PseudoThreeOp.TheVariants as threes
use Rattle.asm_expansions.specs.declared.operation.PseudoBranchOp.{PseudoBranchOp}
use Rattle.asm_expansions.specs.declared.operation.PseudoBranchOp.TheVariants as branches
use Rattle.asm_expansions.specs.declared.operation.ZeroBranchOp.{ZeroBranchOp}
use Rattle.asm_expansions.specs.declared.operation.ZeroBranchOp.TheVariants as zeros
use Rattle.asm_expansions.specs.Immediates.{bits_of, low, high_bits, is_reachable, high_field, is_signed, signed, up_to}
use Rattle.asm_expansions.specs.Constants.{ends_in_zeros, word_constant, is_word, upper_place, upper_rest, placed, constant, li}
use Rattle.asm_expansions.specs.Expansions.{one, target, reaching, pair, tail_register, pseudo_two, pseudo_three, pseudo_branch, zero_branch, expansion_of}
use Rattle.asm_laws.proofs.Uppers.{upper_lowest}
use Rattle.asm_promises.proofs.Operations.{IsLowOperation}

-- a form gives itself back through its instruction
form_back : (whole : Form) → form_of (instr_of whole) ≡ whole
unfolding form_of instr_of three_instr two_instr immediate_instr shift_instr word_shift_instr upper_instr load_instr store_instr branch_instr
form_back (Three three_op.CSetAddr cd c1 c2) = refl
form_back (Three _ cd c1 c2) = refl
form_back (Two two_op.CMove cd c1) = refl
form_back (Two _ cd c1) = refl
form_back (Immediate immediate_op.CIncOffsetImm cd c1 imm) = refl
form_back (Immediate _ cd c1 imm) = refl
form_back (Shift shift_op.Slli cd c1 amount) = refl
form_back (Shift _ cd c1 amount) = refl
form_back (WordShift word_shift_op.Slliw cd c1 amount) = refl
form_back (WordShift _ cd c1 amount) = refl
form_back (SetBoundsImm cd c1 len) = refl
form_back (Upper upper_op.Lui cd imm) = refl
form_back (Upper _ cd imm) = refl
form_back (Load load_op.Lb cd c1 imm) = refl
form_back (Load _ cd c1 imm) = refl
form_back (Store store_op.Sb c2 c1 imm) = refl
form_back (Store _ c2 c1 imm) = refl
form_back (Swap cd c2 c1) = refl
form_back (Branch branch_op.Beq c1 c2 target) = refl
form_back (Branch _ c1 c2 target) = refl
form_back (Jump cd target) = refl
form_back (Invoke c1 c2) = refl
form_back Alone = refl

-- an instruction that listings can write, in a program of so many
pub record IsOk (count : ℕ) (i : Instr) : Type 0 where
  pub is : IsReadable count (form_of i)

form_ok : (count : ℕ) (f : Form) → IsReadable count f → IsOk count (instr_of f)
form_ok count f h = record { is = subst (IsReadable count) (sym (form_back f)) h }

alone : (count : ℕ) (i : Instr) → IsOk count i → All (IsOk count) (i ∷ [])
alone count i h = All-cons (IsOk count) i [] h (All-nil (IsOk count))

both : (count : ℕ) (i j : Instr) → IsOk count i → IsOk count j → All (IsOk count) (i ∷ j ∷ [])
both count i j h k = All-cons (IsOk count) i (j ∷ []) h (alone count j k)

-- ---- immediates

record Is12 (z : ℤ) : Type 0 where
  is : Is12Bits z

rest_by : (test : Bool) (rest : ℕ) → nat_lt rest 2048 ≡ test → rest < 4096 → Is12 (cond test (pos rest) (negsuc (4095 - rest)))
rest_by true rest t h = record { is = grind (arith, nat_tests) }
rest_by false rest t h = record { is = grind (arith, nat_tests) }

low_12 : (bits : ℕ) → Is12 (low bits)
unfolding low
low_12 bits = rest_by (nat_lt (bits % 4096) 2048) (bits % 4096) refl (omega arith)

signed_test : (z : ℤ) → is_signed z ≡ true → Is12 z
signed_test (pos n) t = record { is = grind (arith, nat_tests) }
signed_test (negsuc n) t = record { is = grind (arith, nat_tests) }

signed_by : (test : Bool) (z w : ℤ) → is_signed z ≡ test → cond test (Some z) None ≡ Some w → Is12 w
signed_by true z w t e = let is : z ≡ w = cc in subst Is12 is (signed_test z t)
signed_by false z w t e = absurd (cc)

signed_12 : (z w : ℤ) → signed z ≡ Some w → Is12 w
unfolding signed
signed_12 z w e = signed_by (is_signed z) z w refl e

most_by : (test : Bool) (n most m : ℕ) → nat_le n most ≡ test → cond test (Some n) None ≡ Some m → m ≤ most
most_by true n most m t e = let is : n ≡ m = cc in let h : n ≤ most = grind (arith, nat_tests) in subst (λ (k : ℕ). k ≤ most) is h
most_by false n most m t e = absurd (cc)

up_to_most : (most : ℕ) (z : ℤ) (m : ℕ) → up_to most z ≡ Some m → m ≤ most
unfolding up_to
up_to_most most (pos n) m e = most_by (nat_le n most) n most m refl e
up_to_most most (negsuc n) m e = absurd (cc)

high_small : (bits : ℕ) → high_bits bits ≤ MAX_UPPER_IMMEDIATE
unfolding high_bits
high_small bits = omega arith

field_by : (test : Bool) (bits field : ℕ) → cond test (Some (high_bits bits)) None ≡ Some field → field ≤ MAX_UPPER_IMMEDIATE
field_by true bits field e = let is : high_bits bits ≡ field = cc in subst (λ (k : ℕ). k ≤ MAX_UPPER_IMMEDIATE) is (high_small bits)
field_by false bits field e = absurd (cc)

field_small : (z : ℤ) (field : ℕ) → high_field z ≡ Some field → field ≤ MAX_UPPER_IMMEDIATE
unfolding high_field
field_small z field e = field_by (is_reachable z) (bits_of z) field e

-- ---- operations

module _ (count : ℕ) where
  abbrev AreOk : List Instr → Type 0
  AreOk instrs = All (IsOk count) instrs

  same : (instrs other : List Instr) (o : Option (List Instr)) → Some instrs ≡ o → AreOk instrs → o ≡ Some other → AreOk other
  same instrs other o s h e = let is : instrs ≡ other = cc in subst AreOk is h

  one_ok : {A : Type 0} (f : A → Form) (o : Option A) (instrs : List Instr) → ((a : A) → o ≡ Some a → IsReadable count (f a)) → one f o ≡ Some instrs → AreOk instrs
  one_ok f (Some a) instrs h e =
      let is : instr_of (f a) ∷ [] ≡ instrs = cc in subst AreOk is (alone count (instr_of (f a)) (form_ok count (f a) (h a refl)))
  one_ok f None instrs h e = absurd (cc)

  mapped_ok : (f : ℕ → Instr) (o : Option ℕ) (instrs : List Instr) → ((n : ℕ) → o ≡ Some n → IsOk count (f n)) → option_map (λ n. f n ∷ []) o ≡ Some instrs → AreOk instrs
  mapped_ok f (Some n) instrs h e = let is : f n ∷ [] ≡ instrs = cc in subst AreOk is (alone count (f n) (h n refl))
  mapped_ok f None instrs h e = absurd (cc)

  auipcc_ok : (cd field : ℕ) → cd < 32 → field ≤ MAX_UPPER_IMMEDIATE → IsOk count (instr.AuiPcc cd field)
  unfolding form_of
  auipcc_ok cd field h k = record { is = (h, k) }

  pair_by : (cd : ℕ) (second : Instr) (o : Option ℕ) (instrs : List Instr) → cd < 32 → IsOk count second → ((field : ℕ) → o ≡ Some field → field ≤ MAX_UPPER_IMMEDIATE)
      → reaching cd second o ≡ Some instrs → AreOk instrs
  unfolding reaching
  pair_by cd second (Some field) instrs h k small e =
      let is : instr.AuiPcc cd field ∷ second ∷ [] ≡ instrs = cc in subst AreOk is (both count (instr.AuiPcc cd field) second (auipcc_ok cd field h (small field refl)) k)
  pair_by cd second None instrs h k small e = absurd (cc)

  pair_ok : (cd : ℕ) (second : Instr) (value : ℤ) (instrs : List Instr) → cd < 32 → IsOk count second → pair cd second value ≡ Some instrs → AreOk instrs
  pair_ok cd second value instrs h k e = pair_by cd second (high_field value) instrs h k (λ field f. field_small value field f) e

  -- ---- `li`

  addi_ok : (d s : ℕ) (z : ℤ) → d < 32 → s < 32 → Is12 z → IsOk count (instr.Addi d s z)
  unfolding form_of
  addi_ok d s z h k i = record { is = (h, k, i.is) }

  addiw_ok : (d s : ℕ) (z : ℤ) → d < 32 → s < 32 → Is12 z → IsOk count (instr.Addiw d s z)
  unfolding form_of
  addiw_ok d s z h k i = record { is = (h, k, i.is) }

  lui_ok : (d bits : ℕ) → d < 32 → IsOk count (instr.Lui d (high_bits bits))
  unfolding form_of
  lui_ok d bits h = record { is = (h, high_small bits) }

  slli_ok : (d s amount : ℕ) → d < 32 → s < 32 → amount ≤ MAX_SHIFT → IsOk count (instr.Slli d s amount)
  unfolding form_of
  slli_ok d s amount h k m = record { is = (h, k, m) }

  word_by : (none zeros : Bool) (rd bits : ℕ) → rd < 32 → AreOk (cond none (instr.Addiw rd 0 (low bits) ∷ [])
      (cond zeros (instr.Lui rd (high_bits bits) ∷ []) (instr.Lui rd (high_bits bits) ∷ instr.Addiw rd rd (low bits) ∷ [])))
  word_by true zeros rd bits h = alone count (instr.Addiw rd 0 (low bits)) (addiw_ok rd 0 (low bits) h (lit< tt) (low_12 bits))
  word_by false true rd bits h = alone count (instr.Lui rd (high_bits bits)) (lui_ok rd bits h)
  word_by false false rd bits h =
      both count (instr.Lui rd (high_bits bits)) (instr.Addiw rd rd (low bits)) (lui_ok rd bits h) (addiw_ok rd rd (low bits) h h (low_12 bits))

  word_ok : (rd bits : ℕ) → rd < 32 → AreOk (word_constant rd bits)
  unfolding word_constant
  word_ok rd bits h = word_by (high_bits bits == 0) (ends_in_zeros bits && not (rd == 0)) rd bits h

  placed_by : (zeros : Bool) (rd bits : ℕ) → rd < 32 → AreOk (cond zeros [] (instr.Addi rd rd (low bits) ∷ []))
  placed_by true rd bits h = All-nil (IsOk count)
  placed_by false rd bits h = alone count (instr.Addi rd rd (low bits)) (addi_ok rd rd (low bits) h h (low_12 bits))

  placed_ok : (rd bits : ℕ) → rd < 32 → is_word bits ≡ false → AreOk (placed rd bits)
  unfolding placed
  placed_ok rd bits h w =
      let lowest = upper_lowest bits w in
      let small : upper_place bits < 64 = lowest.below in
      All-cons (IsOk count) (instr.Slli rd rd (upper_place bits)) (cond (ends_in_zeros bits) [] (instr.Addi rd rd (low bits) ∷ []))
      (slli_ok rd rd (upper_place bits) h h (omega arith)) (placed_by (ends_in_zeros bits) rd bits h)

  constant_by : (word : Bool) (levels rd bits : ℕ) → is_word bits ≡ word → rd < 32 → ((b : ℕ) → AreOk (constant levels rd b))
      → AreOk (cond word (word_constant rd bits) (constant levels rd (upper_rest bits) ++ placed rd bits))
  constant_by true levels rd bits w h inner = word_ok rd bits h
  constant_by false levels rd bits w h inner =
      All-append (IsOk count) (constant levels rd (upper_rest bits)) (placed rd bits) (inner (upper_rest bits)) (placed_ok rd bits h w)

  constant_ok : (levels rd bits : ℕ) → rd < 32 → AreOk (constant levels rd bits)
  unfolding constant
  constant_ok zero rd bits h = word_ok rd bits h
  constant_ok (suc levels) rd bits h = constant_by (is_word bits) levels rd bits refl h (λ b. constant_ok levels rd b h)

  li_by : (test : Bool) (rd : ℕ) (z : ℤ) → is_signed z ≡ test → rd < 32 → AreOk (cond test (instr.Addi rd 0 z ∷ []) (constant 3 rd (bits_of z)))
  li_by true rd z t h = alone count (instr.Addi rd 0 z) (addi_ok rd 0 z h (lit< tt) (signed_test z t))
  li_by false rd z t h = constant_ok 3 rd (bits_of z) h

  li_ok : (rd : ℕ) (z : ℤ) → rd < 32 → AreOk (li rd z)
  unfolding li
  li_ok rd z h = li_by (is_signed z) rd z refl h

  -- ---- pseudo-instructions

  two_ok : (op : PseudoTwoOp) (d s : ℕ) → d < 32 → s < 32 → AreOk (pseudo_two op d s)
  unfolding pseudo_two form_of
  two_ok twos.Mv d s h k = alone count (instr.Addi d s (pos 0)) (record { is = (h, k, omega arith) })
  two_ok twos.Not d s h k = alone count (instr.Xori d s (negsuc 0)) (record { is = (h, k, omega arith) })
  two_ok twos.Neg d s h k = alone count (instr.Sub d 0 s) (record { is = (h, lit< tt, k) })
  two_ok twos.Negw d s h k = alone count (instr.Subw d 0 s) (record { is = (h, lit< tt, k) })
  two_ok twos.SextW d s h k = alone count (instr.Addiw d s (pos 0)) (record { is = (h, k, omega arith) })
  two_ok twos.ZextB d s h k = alone count (instr.Andi d s (pos 255)) (record { is = (h, k, omega arith) })
  two_ok twos.SextB d s h k = both count (instr.Slli d s 56) (instr.Srai d d 56) (record { is = (h, k, omega arith) }) (record { is = (h, h, omega arith) })
  two_ok twos.SextH d s h k = both count (instr.Slli d s 48) (instr.Srai d d 48) (record { is = (h, k, omega arith) }) (record { is = (h, h, omega arith) })
  two_ok twos.ZextH d s h k = both count (instr.Slli d s 48) (instr.Srli d d 48) (record { is = (h, k, omega arith) }) (record { is = (h, h, omega arith) })
  two_ok twos.ZextW d s h k = both count (instr.Slli d s 32) (instr.Srli d d 32) (record { is = (h, k, omega arith) }) (record { is = (h, h, omega arith) })
  two_ok twos.Seqz d s h k = alone count (instr.Sltiu d s (pos 1)) (record { is = (h, k, omega arith) })
  two_ok twos.Snez d s h k = alone count (instr.Sltu d 0 s) (record { is = (h, lit< tt, k) })
  two_ok twos.Sltz d s h k = alone count (instr.Slt d s 0) (record { is = (h, k, lit< tt) })
  two_ok twos.Sgtz d s h k = alone count (instr.Slt d 0 s) (record { is = (h, lit< tt, k) })

  three_ok : (op : PseudoThreeOp) (d s t : ℕ) → d < 32 → s < 32 → t < 32 → IsOk count (pseudo_three op d s t)
  unfolding pseudo_three form_of
  three_ok threes.Sgt d s t h k l = record { is = (h, l, k) }
  three_ok threes.Sgtu d s t h k l = record { is = (h, l, k) }
  three_ok threes.CSub d s t h k l = record { is = (h, k, l) }

  branch_ok : (op : PseudoBranchOp) (s t n : ℕ) → s < 32 → t < 32 → n ≤ count → IsOk count (pseudo_branch op s t n)
  unfolding pseudo_branch form_of
  branch_ok branches.Bgt s t n h k m = record { is = (k, h, m) }
  branch_ok branches.Ble s t n h k m = record { is = (k, h, m) }
  branch_ok branches.Bgtu s t n h k m = record { is = (k, h, m) }
  branch_ok branches.Bleu s t n h k m = record { is = (k, h, m) }

  zero_ok : (op : ZeroBranchOp) (s n : ℕ) → s < 32 → n ≤ count → IsOk count (zero_branch op s n)
  unfolding zero_branch form_of
  zero_ok zeros.Beqz s n h m = record { is = (h, lit< tt, m) }
  zero_ok zeros.Bnez s n h m = record { is = (h, lit< tt, m) }
  zero_ok zeros.Bltz s n h m = record { is = (h, lit< tt, m) }
  zero_ok zeros.Bgez s n h m = record { is = (h, lit< tt, m) }
  zero_ok zeros.Bgtz s n h m = record { is = (lit< tt, h, m) }
  zero_ok zeros.Blez s n h m = record { is = (lit< tt, h, m) }

  load_ok : (op : LoadOp) (d s : ℕ) (z : ℤ) → d < 32 → s < 32 → Is12 z → IsOk count (load_instr op d s z)
  unfolding load_instr instr_of
  load_ok op d s z h k i = form_ok count (Load op d s z) (h, k, i.is)

  incoffset_ok : (d s : ℕ) (z : ℤ) → d < 32 → s < 32 → Is12 z → IsOk count (instr.CIncOffsetImm d s z)
  unfolding form_of
  incoffset_ok d s z h k i = record { is = (h, k, i.is) }

  cjalr_ok : (d s : ℕ) (z : ℤ) → d < 32 → s < 32 → Is12 z → IsOk count (instr.CJalr d s z)
  unfolding form_of
  cjalr_ok d s z h k i = record { is = (h, k, i.is) }

  lc_ok : (d s : ℕ) (z : ℤ) → d < 32 → s < 32 → Is12 z → IsOk count (instr.Lc d s z)
  unfolding form_of
  lc_ok d s z h k i = record { is = (h, k, i.is) }

  swap_ok : (a b c : ℕ) → a < 32 → b < 32 → c < 32 → IsOk count (instr.AmoSwapC a b c)
  unfolding form_of
  swap_ok a b c h k l = record { is = (h, k, l) }

  invoke_ok : (a b : ℕ) → a < 32 → b < 32 → IsOk count (instr.CInvoke a b)
  unfolding form_of
  invoke_ok a b h k = record { is = (h, k) }

  pub ecall_ok : IsOk count instr.Ecall
  unfolding form_of
  ecall_ok = record { is = tt }

  pub unimp_ok : IsOk count (instr.CJalr 0 0 (pos 0))
  unimp_ok = cjalr_ok 0 0 (pos 0) (lit< tt) (lit< tt) (record { is = omega arith })

  pub nop_ok : IsOk count (instr.Addi 0 0 (pos 0))
  nop_ok = addi_ok 0 0 (pos 0) (lit< tt) (lit< tt) (record { is = omega arith })

  -- what an operation goes to is no further than the program's end
  abbrev pub Aims : Operation → ℤ → Type 0
  Aims (does.Branch op a b) value = (n : ℕ) → target value ≡ Some n → n ≤ count
  Aims (does.Jump a) value = (n : ℕ) → target value ≡ Some n → n ≤ count
  Aims (does.PseudoBranch op a b) value = (n : ℕ) → target value ≡ Some n → n ≤ count
  Aims (does.ZeroBranch op a) value = (n : ℕ) → target value ≡ Some n → n ≤ count
  Aims _ value = Unit {0}

  pub expansion_ok : (operation : Operation) (value : ℤ) (instrs : List Instr) → IsLowOperation operation → Aims operation value
      → expansion_of operation value ≡ Some instrs → AreOk instrs
  unfolding expansion_of
  expansion_ok (does.Three op a b c) value instrs h aims e = same (instr_of (Three op a b c) ∷ []) instrs (Some (instr_of (Three op a b c) ∷ [])) refl (alone count (instr_of (Three op a b c)) (form_ok count (Three op a b c) h)) e
  expansion_ok (does.Two op a b) value instrs h aims e = same (instr_of (Two op a b) ∷ []) instrs (Some (instr_of (Two op a b) ∷ [])) refl (alone count (instr_of (Two op a b)) (form_ok count (Two op a b) h)) e
  expansion_ok (does.Immediate op a b) value instrs h aims e = one_ok (Immediate op a b) (signed value) instrs (λ z f. (h.0, h.1, (signed_12 value z f).is)) e
  expansion_ok (does.Shift op a b) value instrs h aims e = one_ok (Shift op a b) (up_to MAX_SHIFT value) instrs (λ n f. (h.0, h.1, up_to_most MAX_SHIFT value n f)) e
  expansion_ok (does.WordShift op a b) value instrs h aims e = one_ok (WordShift op a b) (up_to MAX_WORD_SHIFT value) instrs (λ n f. (h.0, h.1, up_to_most MAX_WORD_SHIFT value n f)) e
  expansion_ok (does.SetBoundsImm a b) value instrs h aims e = one_ok (SetBoundsImm a b) (up_to MAX_IMMEDIATE_LENGTH value) instrs (λ n f. (h.0, h.1, up_to_most MAX_IMMEDIATE_LENGTH value n f)) e
  expansion_ok (does.Upper op a) value instrs h aims e = one_ok (Upper op a) (up_to MAX_UPPER_IMMEDIATE value) instrs (λ n f. (h, up_to_most MAX_UPPER_IMMEDIATE value n f)) e
  expansion_ok (does.Load op a b) value instrs h aims e = one_ok (Load op a b) (signed value) instrs (λ z f. (h.0, h.1, (signed_12 value z f).is)) e
  expansion_ok (does.Store op a b) value instrs h aims e = one_ok (Store op a b) (signed value) instrs (λ z f. (h.0, h.1, (signed_12 value z f).is)) e
  expansion_ok (does.Swap a b c) value instrs h aims e = same (instr.AmoSwapC a b c ∷ []) instrs (Some (instr.AmoSwapC a b c ∷ [])) refl (alone count (instr.AmoSwapC a b c) (swap_ok a b c h.0 h.1 h.2)) e
  expansion_ok (does.Branch op a b) value instrs h aims e = one_ok (Branch op a b) (target value) instrs (λ n f. (h.0, h.1, aims n f)) e
  expansion_ok (does.Jump a) value instrs h aims e = one_ok (Jump a) (target value) instrs (λ n f. (h, aims n f)) e
  expansion_ok (does.Invoke a b) value instrs h aims e = same (instr.CInvoke a b ∷ []) instrs (Some (instr.CInvoke a b ∷ [])) refl (alone count (instr.CInvoke a b) (invoke_ok a b h.0 h.1)) e
  expansion_ok does.Alone value instrs h aims e = same (instr.Ecall ∷ []) instrs (Some (instr.Ecall ∷ [])) refl (alone count instr.Ecall ecall_ok) e
  expansion_ok does.Nop value instrs h aims e = same (instr.Addi 0 0 (pos 0) ∷ []) instrs (Some (instr.Addi 0 0 (pos 0) ∷ [])) refl (alone count (instr.Addi 0 0 (pos 0)) nop_ok) e
  expansion_ok does.Unimp value instrs h aims e = same (instr.CJalr 0 0 (pos 0) ∷ []) instrs (Some (instr.CJalr 0 0 (pos 0) ∷ [])) refl (alone count (instr.CJalr 0 0 (pos 0)) unimp_ok) e
  expansion_ok (does.PseudoTwo op a b) value instrs h aims e = same (pseudo_two op a b) instrs (Some (pseudo_two op a b)) refl (two_ok op a b h.0 h.1) e
  expansion_ok (does.PseudoThree op a b c) value instrs h aims e = same (pseudo_three op a b c ∷ []) instrs (Some (pseudo_three op a b c ∷ [])) refl (alone count (pseudo_three op a b c) (three_ok op a b c h.0 h.1 h.2)) e
  expansion_ok (does.PseudoBranch op a b) value instrs h aims e = mapped_ok (λ n. pseudo_branch op a b n) (target value) instrs (λ n f. branch_ok op a b n h.0 h.1 (aims n f)) e
  expansion_ok (does.ZeroBranch op a) value instrs h aims e = mapped_ok (λ n. zero_branch op a n) (target value) instrs (λ n f. zero_ok op a n h (aims n f)) e
  expansion_ok (does.Li a) value instrs h aims e = same (li a value) instrs (Some (li a value)) refl (li_ok a value h) e
  expansion_ok (does.Call a) value instrs h aims e = pair_ok a (instr.CJalr a a (low (bits_of value))) value instrs h (cjalr_ok a a (low (bits_of value)) h h (low_12 (bits_of value))) e
  expansion_ok does.Tail value instrs h aims e = pair_ok tail_register (instr.CJalr 0 tail_register (low (bits_of value))) value instrs (lit< tt) (cjalr_ok 0 tail_register (low (bits_of value)) (lit< tt) (lit< tt) (low_12 (bits_of value))) e
  expansion_ok (does.Cllc a) value instrs h aims e = pair_ok a (instr.CIncOffsetImm a a (low (bits_of value))) value instrs h (incoffset_ok a a (low (bits_of value)) h h (low_12 (bits_of value))) e
  expansion_ok (does.Clgc a) value instrs h aims e = pair_ok a (instr.Lc a a (low (bits_of value))) value instrs h (lc_ok a a (low (bits_of value)) h h (low_12 (bits_of value))) e
  expansion_ok (does.LoadSymbol op a) value instrs h aims e = pair_ok a (load_instr op a a (low (bits_of value))) value instrs h (load_ok op a a (low (bits_of value)) h h (low_12 (bits_of value))) e
  expansion_ok (does.La a) value instrs h aims e = pair_ok a (instr.Addi a a (low (bits_of value))) value instrs h (addi_ok a a (low (bits_of value)) h h (low_12 (bits_of value))) e
