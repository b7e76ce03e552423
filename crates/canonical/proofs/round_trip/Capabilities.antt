-- A lawful capability with flag 0 reads back from its parts.
use Rattle.std.proofs.Common.{◌≡◌, ℕ, ◌+◌, ◌-◌, ◌^◌, ◌<◌, ◌≤◌, ◌==◌, Bool, true, false, List, [], ◌∷◌, ◌++◌, Option, Some, Ok, Err, refl, sym, ap, ◌∙◌, arith}
use Rattle.std.specs.Prelude.{codes, decimal, bytes_eq, if◌then◌else◌}
use Rattle.std.proofs.lemmas.Bool.Decides.{nat_tests}
use Rattle.std.proofs.lemmas.List.{append-nil}
use Rattle.std.proofs.lemmas.Slice.Eq.{bytes_eq-Decides}
use Rattle.cap_model.specs.values.Capability.{Capability, IsLawful, IsLawfulType, unsealed_type, sentry_type, last_sealable_type}
use Rattle.cap_model.specs.values.CapValue.{valid}
use Rattle.cap_ops.proofs.MadeAgain.{made_again}
use Rattle.grammar.specs.declared.fault.ListingFaultKind.TheVariants.{Operand}
use Rattle.grammar.specs.declared.operands.TypeOperand.{TypeOperand}
use Rattle.grammar.specs.declared.operands.TypeOperand.TheVariants.{Unsealed, Sentry, Number}
use Rattle.grammar.specs.declared.capability.CapOperands.{CapOperands}
use Rattle.grammar.specs.declared.capability.CapParts.{CapParts}
use Rattle.grammar.specs.Tokens.{token_at, is_blank}
use Rattle.text_numbers.specs.Numerals.{number_in, number_of as written_number}
use Rattle.grammar.specs.Numerals.{number_of}
use Rattle.grammar.specs.Operands.{type_operand_of, type_in_range}
use Rattle.grammar.specs.Permissions.{set_of}
use Rattle.grammar.specs.Capability.{cap_operands_of, cap_parts_of, capability_of}
use Rattle.canonical.specs.Canon.{hex_number, perms_text, type_text, cap_text}
use Rattle.canonical.proofs.round_trip.Words.{is_open, is_word_byte, IsWord}
use Rattle.canonical.proofs.round_trip.Lines.{IsLine, last_word, then_space}
use Rattle.canonical.proofs.round_trip.Numbers.{decimal_reads, decimal_word, hex_reads, hex_word}
use Rattle.canonical.proofs.round_trip.Operands.{in_range}
use Rattle.canonical.proofs.round_trip.Permissions.{perms_read, perms_word}

-- an object type's words and what they read as
unfoldable pub type_words : ℕ → List (List ℕ)
type_words otype = if otype == unsealed_type then [] else if otype == sentry_type then codes "sentry" ∷ [] else decimal otype ∷ []

unfoldable pub type_operand : ℕ → TypeOperand
type_operand otype = if otype == unsealed_type then Unsealed else if otype == sentry_type then Sentry else Number (Some otype)

no_sentry : number_of (codes "sentry") ≡ Err Operand
unfolding number_of written_number number_in
no_sentry = refl

other_word : (word : List ℕ) (n : Option ℕ) (test : Bool) → bytes_eq word (codes "sentry") ≡ test → number_of word ≡ Ok n → test ≡ false
other_word word n false t e = refl
other_word word n true t e =
    let same : word ≡ codes "sentry" = (bytes_eq-Decides word (codes "sentry")).0 t in
    absurd (let clash : Ok n ≡ Err Operand = sym e ∙ ap number_of same ∙ no_sentry in cc)

pub number_read : (n : ℕ) → n < 2 ^ 128 → type_operand_of (decimal n) ≡ Ok (Number (Some n))
unfolding type_operand_of
number_read n low = rw (other_word (decimal n) (Some n) _ refl (decimal_reads n low), decimal_reads n low) refl

range_step : (unsealed sentry : Bool) (otype : ℕ) → IsLawfulType otype → (otype == unsealed_type) ≡ unsealed → (otype == sentry_type) ≡ sentry → type_in_range (type_operand otype) ≡ Ok otype
unfolding type_operand type_in_range
range_step true sentry otype h u s = let same : otype ≡ unsealed_type = grind (arith, nat_tests) in rw u (ap (λ n. Ok n) (sym same))
range_step false true otype h u s = let same : otype ≡ sentry_type = grind (arith, nat_tests) in rw (u, s) (ap (λ n. Ok n) (sym same))
range_step false false otype h u s =
    let below = h.below in
    let not_c = h.not_reserved in
    let not_d = h.not_reserved_either in
    let most : otype ≤ last_sealable_type = grind (arith, nat_tests) in
    rw (u, s) (in_range otype last_sealable_type most)

pub type_reads : (otype : ℕ) → IsLawfulType otype → type_in_range (type_operand otype) ≡ Ok otype
type_reads otype h = range_step _ _ otype h refl refl

-- the type after a permission set, as the last words of a line
end_step : (unsealed sentry : Bool) (word : List ℕ) (otype : ℕ) → IsWord word → otype < 2 ^ 128 → (otype == unsealed_type) ≡ unsealed → (otype == sentry_type) ≡ sentry
    → IsLine (word ++ type_text otype) (word ∷ type_words otype)
unfolding type_text type_words is_word_byte is_open is_blank
end_step true sentry word otype w low u s = rw (u, append-nil) (last_word word w)
end_step false true word otype w low u s = rw (u, s) (then_space word _ _ w (last_word (codes "sentry") (record { filled = refl; bytes = refl })))
end_step false false word otype w low u s = rw (u, s) (then_space word _ _ w (last_word (decimal otype) (decimal_word otype low)))

cap_end : (word : List ℕ) (otype : ℕ) → IsWord word → otype < 2 ^ 128 → IsLine (word ++ type_text otype) (word ∷ type_words otype)
cap_end word otype w low = end_step _ _ word otype w low refl refl

module _ (c : Capability) (h : IsLawful c) where
  abbrev pub cap_words : List (List ℕ)
  cap_words = hex_number c.base ∷ decimal (c.top - c.base) ∷ hex_number c.addr ∷ perms_text c.perms ∷ type_words c.otype

  base_low : c.base < 2 ^ 128
  base_low = omega (arith, h.base_below)

  len_low : c.top - c.base < 2 ^ 128
  len_low = omega (arith, h.top_at_most)

  addr_low : c.addr < 2 ^ 128
  addr_low = omega (arith, h.addr_below)

  type_low : c.otype < 2 ^ 128
  type_low = let below = h.otype.below in omega arith

  -- a capability's text is these words
  pub cap_line : IsLine (cap_text c) cap_words
  unfolding cap_text
  cap_line =
      then_space (hex_number c.base) _ _ (hex_word c.base base_low) (then_space (decimal (c.top - c.base)) _ _ (decimal_word (c.top - c.base) len_low)
      (then_space (hex_number c.addr) _ _ (hex_word c.addr addr_low) (cap_end (perms_text c.perms) c.otype (perms_word c.perms h.perms) type_low)))

  abbrev pub operands_with : TypeOperand → CapOperands
  operands_with otype = record { base = Some c.base; len = Some (c.top - c.base); addr = Some c.addr; perms = set_of c.perms; otype = otype }

  abbrev pub parts_with : ℕ → CapParts
  parts_with otype = record { base = c.base; len = c.top - c.base; addr = c.addr; perms = set_of c.perms; otype = otype }

  pub operands_read : (tokens : List (List ℕ)) (place : ℕ) (otype : TypeOperand) → token_at tokens place ≡ hex_number c.base → token_at tokens (place + 1) ≡ decimal (c.top - c.base)
      → token_at tokens (place + 2) ≡ hex_number c.addr → token_at tokens (place + 3) ≡ perms_text c.perms → cap_operands_of tokens place otype ≡ Ok (operands_with otype)
  unfolding cap_operands_of
  operands_read tokens place otype e f g k =
      rw (e, f, g, k, hex_reads c.base base_low, decimal_reads (c.top - c.base) len_low, hex_reads c.addr addr_low, perms_read c.perms h.perms) refl

  pub in_ranges : (operand : TypeOperand) (otype : ℕ) → type_in_range operand ≡ Ok otype → cap_parts_of (operands_with operand) ≡ Ok (parts_with otype)
  unfolding cap_parts_of
  in_ranges operand otype e =
      rw (in_range c.base (2 ^ 64 - 1) (omega (arith, h.base_below)), in_range (c.top - c.base) (2 ^ 64) (omega (arith, h.top_at_most)), in_range c.addr (2 ^ 64 - 1) (omega (arith, h.addr_below)), e) refl

  pub made_of_parts : c.flag ≡ 0 → capability_of (parts_with c.otype) ≡ Ok (valid c)
  unfolding capability_of
  made_of_parts plain = rw (made_again c h plain) refl
