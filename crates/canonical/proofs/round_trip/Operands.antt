-- Registers, immediates, memory operands and targets read back, and are one word each.
use Rattle.std.proofs.Common.{◌≡◌, ℕ, zero, suc, subst, inl, inr, ◌+◌, ◌^◌, ◌<◌, ◌≤◌, ◌==◌, ◌&&◌, nat_le, Bool, true, false, not, cond, List, [], ◌∷◌, ◌++◌, length, drop, Option, Some, Result, Ok, Err, refl, ap, arith}
use Rattle.std.specs.Prelude.{ℤ, pos, negsuc, decimal}
use Rattle.std.specs.Char.{digit_value}
use Rattle.std.specs.Fmt.{digits, signed_decimal}
use Rattle.std.specs.List.{list_all}
use Rattle.std.specs.Str.Parse.{AllDigits}
use Rattle.std.proofs.lemmas.Bool.Decides.{nat_tests}
use Rattle.std.proofs.lemmas.Bool.{cases_lt}
use Rattle.std.proofs.lemmas.Fmt.{decimal_is_IsNumeral_wide}
use Rattle.cheri_model.specs.declared.operands.TheConstants.{MAX_IMMEDIATE}
use Rattle.grammar.specs.declared.fault.ListingFaultKind.{ListingFaultKind}
use Rattle.grammar.specs.declared.operands.Immediate.{Immediate}
use Rattle.grammar.specs.declared.labels.TargetOperand.TheVariants.{Number}
use Rattle.canonical.specs.Listable.{Is12Bits}
use Rattle.grammar.specs.Tokens.{is_blank}
use Rattle.grammar.specs.Numerals.{number_of, at_most}
use Rattle.grammar.specs.Operands.{register_of, immediate_of, immediate_of_12_bits, immediate_up_to, begins_minus, is_bracketed, between_brackets, before_bracket, memory_operand_from, memory_operand_of}
use Rattle.grammar.specs.Labels.{LabelParts, begins_at_sign, target_operand_of, target_of}
use Rattle.grammar.proofs.PermissionTexts.{first, second}
use Rattle.canonical.proofs.round_trip.Words.{is_open, is_word_byte, IsWord, both, filled_cons, all_joined, word_cons, longer}
use Rattle.canonical.proofs.round_trip.Lines.{before_at, dropped_start}
use Rattle.canonical.proofs.round_trip.Numbers.{decimal_reads, decimal_word, number_where}

-- what all numbers below a limit pass
unfoldable pub all_below : (ℕ → Bool) → ℕ → Bool
all_below p zero = true
all_below p (suc n) = p n && all_below p n

pub at_below : (p : ℕ → Bool) (n k : ℕ) → k < n → all_below p n ≡ true → p k ≡ true
unfolding all_below
at_below p zero k h e = absurd (omega arith)
at_below p (suc n) k h e =
    elim (cases_lt k n) [ inl low ↦ at_below p n k low (second (p n) _ e) | inr same ↦ (let at : n ≡ k = omega arith in subst (λ m. p m ≡ true) at (first (p n) _ e)) ]

-- a register's text
abbrev pub reg_text : ℕ → List ℕ
reg_text r = 0x63 ∷ decimal r

is_ok_of : Result ℕ ListingFaultKind → ℕ → Bool
is_ok_of (Ok r) n = r == n
is_ok_of (Err e) n = false

ok_where : (r : Result ℕ ListingFaultKind) (n : ℕ) → is_ok_of r n ≡ true → r ≡ Ok n
unfolding is_ok_of
ok_where (Ok r) n e = let same : r ≡ n = grind (arith, nat_tests) in ap (λ x. Ok x) same
ok_where (Err f) n e = absurd (cc)

abbrev bracketed : ℕ → List ℕ
bracketed r = 0x28 ∷ 0x63 ∷ decimal r ++ (0x29 ∷ [])

reads_one : ℕ → Bool
reads_one r = is_ok_of (register_of (reg_text r)) r && is_bracketed (bracketed r) && is_ok_of (register_of (between_brackets (bracketed r))) r && list_all is_word_byte (reg_text r)

reads_all : all_below reads_one 32 ≡ true
unfolding all_below reads_one is_ok_of register_of digits is_word_byte is_open is_blank
reads_all = refl

pub register_reads : (r : ℕ) → r < 32 → register_of (reg_text r) ≡ Ok r
unfolding reads_one
register_reads r h = ok_where _ r (first _ _ (first _ _ (first _ _ (at_below reads_one 32 r h reads_all))))

pub register_word : (r : ℕ) → r < 32 → IsWord (reg_text r)
unfolding reads_one
register_word r h = record { filled = filled_cons 0x63 (decimal r); bytes = second (is_ok_of (register_of (reg_text r)) r && is_bracketed (bracketed r) && is_ok_of (register_of (between_brackets (bracketed r))) r) _ (at_below reads_one 32 r h reads_all) }

bracketed_register : (r : ℕ) → r < 32 → (is_bracketed (bracketed r) ≡ true) × (register_of (between_brackets (bracketed r)) ≡ Ok r)
unfolding reads_one
bracketed_register r h =
    let e = first (is_ok_of (register_of (reg_text r)) r && is_bracketed (bracketed r) && is_ok_of (register_of (between_brackets (bracketed r))) r) _ (at_below reads_one 32 r h reads_all) in
    (second (is_ok_of (register_of (reg_text r)) r) _ (first _ _ e), ok_where _ r (second (is_ok_of (register_of (reg_text r)) r && is_bracketed (bracketed r)) _ e))

-- immediates
and_false : (p q : Bool) → q ≡ false → (p && q) ≡ false
and_false true q e = e
and_false false q e = refl

not_minus : (b : ℕ) → digit_value b < 10 → (b == 0x2D) ≡ false
not_minus b h = grind (arith, nat_tests)

no_minus : (ds : List ℕ) → AllDigits 10 ds → begins_minus ds ≡ false
no_minus [] h = refl
no_minus (d ∷ ds) h = and_false (nat_le 1 (suc (length ds))) _ (not_minus d h.0)

one_or_more : (n : ℕ) → nat_le 1 (suc n) ≡ true
one_or_more n = grind (arith, nat_tests)

minus_begins : (ds : List ℕ) → begins_minus (0x2D ∷ ds) ≡ true
minus_begins ds = both _ true (one_or_more (length ds)) refl

size_reads : (negative : Bool) (token : List ℕ) (size : Option ℕ) → begins_minus token ≡ negative → number_of (cond negative (drop 1 token) token) ≡ Ok size → immediate_of token ≡ Ok (record { negative = negative; size = size })
unfolding immediate_of
size_reads true token size e f = rw (e, f) refl
size_reads false token size e f = rw (e, f) refl

module _ (n : ℕ) (low : n < 2 ^ 128) where
  all_decimal : AllDigits 10 (decimal n)
  all_decimal = (decimal_is_IsNumeral_wide n (omega arith)).0.1

  pub plain_reads : immediate_of (decimal n) ≡ Ok (record { negative = false; size = Some n })
  plain_reads = size_reads false (decimal n) (Some n) (no_minus (decimal n) all_decimal) (decimal_reads n low)

  pub minus_reads : immediate_of (0x2D ∷ decimal n) ≡ Ok (record { negative = true; size = Some n })
  minus_reads = size_reads true (0x2D ∷ decimal n) (Some n) (minus_begins (decimal n)) (decimal_reads n low)

  pub minus_word : IsWord (0x2D ∷ decimal n)
  unfolding is_word_byte is_open is_blank
  minus_word = word_cons 0x2D (decimal n) refl (decimal_word n low).bytes

test_le : (a b : ℕ) → a ≤ b → nat_le a b ≡ true
test_le a b h = grind (arith, nat_tests)

pub in_range : (n limit : ℕ) → n ≤ limit → at_most limit (Some n) ≡ Ok n
in_range n limit h = rw (test_le n limit h) refl

pub up_to_reads : (n limit : ℕ) → n ≤ limit → immediate_up_to limit (record { negative = false; size = Some n }) ≡ Ok n
unfolding immediate_up_to
up_to_reads n limit h = in_range n limit h

abbrev pub operand_of : ℤ → Immediate
operand_of (pos n) = record { negative = false; size = Some n }
operand_of (negsuc n) = record { negative = true; size = Some (suc n) }

pub signed_reads : (z : ℤ) → Is12Bits z → immediate_of (signed_decimal z) ≡ Ok (operand_of z)
signed_reads (pos n) h = plain_reads n (omega arith)
signed_reads (negsuc n) h = minus_reads (suc n) (omega arith)

pub signed_in_range : (z : ℤ) → Is12Bits z → immediate_of_12_bits (operand_of z) ≡ Ok z
unfolding immediate_of_12_bits
signed_in_range (pos n) h = rw (in_range n MAX_IMMEDIATE h) refl
signed_in_range (negsuc n) h = rw (in_range (suc n) (MAX_IMMEDIATE + 1) (omega arith)) refl

pub signed_word : (z : ℤ) → Is12Bits z → IsWord (signed_decimal z)
signed_word (pos n) h = decimal_word n (omega arith)
signed_word (negsuc n) h = minus_word (suc n) (omega arith)

-- memory operands
not_bracket : (b : ℕ) → digit_value b < 10 → not (b == 0x28) ≡ true
not_bracket b h = grind (arith, nat_tests)

no_brackets : (ds : List ℕ) → AllDigits 10 ds → list_all (λ b. not (b == 0x28)) ds ≡ true
no_brackets [] h = refl
no_brackets (d ∷ ds) h = both _ _ (not_bracket d h.0) (no_brackets ds h.1)

signed_unbracketed : (z : ℤ) → Is12Bits z → list_all (λ b. not (b == 0x28)) (signed_decimal z) ≡ true
signed_unbracketed (pos n) h = no_brackets (decimal n) (all_decimal n (omega arith))
signed_unbracketed (negsuc n) h = no_brackets (decimal (suc n)) (all_decimal (suc n) (omega arith))

abbrev pub memory_text : ℤ → ℕ → List ℕ
memory_text z r = signed_decimal z ++ bracketed r

operand_where : (token start part : List ℕ) (imm : Immediate) (r : ℕ) → before_bracket token ≡ start → drop (length start) token ≡ part → immediate_of start ≡ Ok imm
    → is_bracketed part ≡ true → register_of (between_brackets part) ≡ Ok r → memory_operand_of token ≡ Ok (record { imm = imm; c1 = r })
unfolding memory_operand_of memory_operand_from
operand_where token start part imm r e f g h k = rw (e, g, f, h, k) refl

pub memory_reads : (z : ℤ) (r : ℕ) → Is12Bits z → r < 32 → memory_operand_of (memory_text z r) ≡ Ok (record { imm = operand_of z; c1 = r })
memory_reads z r h low =
    let at = bracketed_register r low in
    operand_where (memory_text z r) (signed_decimal z) (bracketed r) (operand_of z) r
    (before_at (λ b. b == 0x28) (signed_decimal z) 0x28 (0x63 ∷ decimal r ++ (0x29 ∷ [])) (signed_unbracketed z h) refl)
    (dropped_start (signed_decimal z) (bracketed r)) (signed_reads z h) at.0 at.1

pub memory_word : (z : ℤ) (r : ℕ) → Is12Bits z → r < 32 → IsWord (memory_text z r)
unfolding is_word_byte is_open is_blank
memory_word z r h low =
    longer (signed_decimal z) (bracketed r) (signed_word z h) (all_joined is_word_byte (0x28 ∷ reg_text r) (0x29 ∷ []) (register_word r low).bytes refl)

-- targets
abbrev pub target_text : ℕ → List ℕ
target_text n = 0x40 ∷ decimal n

at_begins : (ds : List ℕ) → begins_at_sign (0x40 ∷ ds) ≡ true
at_begins ds = both _ true (one_or_more (length ds)) refl

pub target_reads : (labels : LabelParts) (n : ℕ) → n < 2 ^ 128 → target_operand_of labels (target_text n) ≡ Ok (Number (Some n))
unfolding target_operand_of
target_reads labels n low =
    let shape = decimal_is_IsNumeral_wide n (omega arith) in
    rw (at_begins (decimal n), number_where 10 (decimal n) n shape.0 shape.1 low) refl

pub target_in_range : (labels : LabelParts) (n : ℕ) → n ≤ labels.instructions → target_of labels (Number (Some n)) ≡ Ok n
unfolding target_of
target_in_range labels n h = in_range n labels.instructions h

pub target_word : (n : ℕ) → n < 2 ^ 128 → IsWord (target_text n)
unfolding is_word_byte is_open is_blank
target_word n low = word_cons 0x40 (decimal n) refl (decimal_word n low).bytes
