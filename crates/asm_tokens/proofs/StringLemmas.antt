-- Strings, one byte or escape after another.
use Rattle.std.proofs.Common.{◌≡◌, ℕ, zero, suc, ◌+◌, ◌-◌, ◌≤◌, List, [], ◌∷◌, ◌++◌, length, drop, slice_index, Some, None, refl, sym, ap, ◌∙◌, append_assoc, append-nil, length-drop, arith}
use Rattle.asm_tokens.specs.declared.strings.StringEnd.{StringEnd}
use Rattle.asm_tokens.specs.declared.strings.StringEnd.TheVariants.{Closed, Bad, Open}
use Rattle.asm_tokens.specs.declared.escapes.Escape.{Escape}
use Rattle.asm_tokens.specs.declared.strings.StringByte.{StringByte}
use Rattle.asm_tokens.specs.declared.strings.StringByte.TheVariants.{Inside}
use Rattle.asm_tokens.specs.Strings.{further, string_byte, end_by, string_end, meant_byte, byte_then, string_bytes}

further_none : (end : StringEnd) → further 0 end ≡ end
further_none (Closed n) = ap Closed (omega arith)
further_none (Bad n) = ap Bad (omega arith)
further_none Open = refl

further_twice : (a b c : ℕ) (end : StringEnd) → c ≡ a + b → further a (further b end) ≡ further c end
further_twice a b c (Closed n) e = ap Closed (omega arith)
further_twice a b c (Bad n) e = ap Bad (omega arith)
further_twice a b c Open e = refl

-- how a string ends after some of its bytes
pub end_after : (skip : ℕ) (text : List ℕ) → skip ≤ length text → string_end skip text ≡ further skip (string_end 0 (drop skip text))
unfolding string_end
end_after zero text h = sym (further_none _)
end_after (suc skip) [] h = absurd (omega arith)
end_after (suc skip) (b ∷ text) h =
    ap (further 1) (end_after skip text (omega arith)) ∙ further_twice 1 skip (suc skip) _ (omega arith)

end_step : (rest : List ℕ) → 1 ≤ length rest
    → string_end 0 rest ≡ end_by (string_byte (slice_index rest 0) (drop 1 rest)) (λ more. string_end more (drop 1 rest))
unfolding string_end
end_step [] h = absurd (omega arith)
end_step (b ∷ text) h = refl

-- it ends here
pub ends_here : (all : ℕ) (rest : List ℕ) (byte : StringByte) (end whole : StringEnd) → 1 ≤ length rest → byte ≡ string_byte (slice_index rest 0) (drop 1 rest)
    → end_by byte (λ more. string_end more (drop 1 rest)) ≡ end → further (all - length rest) (string_end 0 rest) ≡ whole → further (all - length rest) end ≡ whole
ends_here all rest byte end whole some is by h =
    ap (further (all - length rest)) (sym by ∙ ap (λ b. end_by b (λ more. string_end more (drop 1 rest))) is ∙ sym (end_step rest some)) ∙ h

-- the same where it ends at no further byte
pub closed_here : (n : ℕ) → Closed n ≡ further n (Closed 0)
closed_here n = ap Closed (omega arith)

pub bad_here : (n : ℕ) → Bad n ≡ further n (Bad 0)
bad_here n = ap Bad (omega arith)

pub open_here : (all : ℕ) (rest : List ℕ) (whole : StringEnd) → length rest ≡ 0 → further (all - length rest) (string_end 0 rest) ≡ whole → Open ≡ whole
unfolding string_end
open_here all [] whole none h = h
open_here all (b ∷ rest) whole none h = absurd (omega arith)

-- it goes on, after one more byte or escape
pub goes_on : (all skip : ℕ) (rest left : List ℕ) (whole : StringEnd) → 1 ≤ length rest → length rest ≤ all → skip ≤ length (drop 1 rest)
    → left ≡ drop skip (drop 1 rest) → Inside skip ≡ string_byte (slice_index rest 0) (drop 1 rest)
    → further (all - length rest) (string_end 0 rest) ≡ whole → further (all - length left) (string_end 0 left) ≡ whole
goes_on all skip rest left whole some fits within is inside h =
    let after = drop 1 rest in
    let by = ap (λ b. end_by b (λ more. string_end more after)) (sym inside) in
    let shorter : length after + 1 ≡ length rest = omega (arith, length-drop 1 rest) in
    let gone : length left + skip ≡ length after = omega (arith, ap length is, length-drop skip after) in
    let more : all - length left ≡ (all - length rest) + (1 + skip) = omega arith in
    let end : string_end 0 rest ≡ further 1 (further skip (string_end 0 left)) =
    end_step rest some ∙ by ∙ ap (further 1) (end_after skip after within) ∙ ap (λ l. further 1 (further skip (string_end 0 l))) (sym is) in
    ap (λ n. further n (string_end 0 left)) more
    ∙ sym (further_twice (all - length rest) (1 + skip) _ _ refl)
    ∙ ap (further (all - length rest)) (sym (further_twice 1 skip (1 + skip) _ refl))
    ∙ ap (further (all - length rest)) (sym end) ∙ h

-- the bytes of a string after some of its text
bytes_after : (skip : ℕ) (text : List ℕ) → skip ≤ length text → string_bytes skip text ≡ string_bytes 0 (drop skip text)
unfolding string_bytes
bytes_after zero text h = refl
bytes_after (suc skip) [] h = absurd (omega arith)
bytes_after (suc skip) (b ∷ text) h = bytes_after skip text (omega arith)

bytes_step : (rest : List ℕ) → 1 ≤ length rest
    → string_bytes 0 rest ≡ byte_then (meant_byte (slice_index rest 0) (drop 1 rest)) (λ more. string_bytes more (drop 1 rest))
unfolding string_bytes
bytes_step [] h = absurd (omega arith)
bytes_step (b ∷ text) h = refl

pub no_bytes : (rest : List ℕ) → length rest ≡ 0 → string_bytes 0 rest ≡ []
unfolding string_bytes
no_bytes [] h = refl
no_bytes (b ∷ text) h = absurd (omega arith)

-- one more byte of them
pub byte_more : (some new : List ℕ) (escape : Escape) (rest left whole : List ℕ) → 1 ≤ length rest → escape.length ≤ length (drop 1 rest)
    → left ≡ drop escape.length (drop 1 rest) → Some escape ≡ meant_byte (slice_index rest 0) (drop 1 rest)
    → new ≡ some ++ escape.byte ∷ [] → some ++ string_bytes 0 rest ≡ whole → new ++ string_bytes 0 left ≡ whole
byte_more some new escape rest left whole one within is meant put h =
    let step : string_bytes 0 rest ≡ escape.byte ∷ string_bytes escape.length (drop 1 rest) =
    bytes_step rest one ∙ ap (λ e. byte_then e (λ more. string_bytes more (drop 1 rest))) (sym meant) in
    ap (λ l. l ++ string_bytes 0 left) put ∙ append_assoc some (escape.byte ∷ []) (string_bytes 0 left)
    ∙ ap (λ l. some ++ (escape.byte ∷ string_bytes 0 l)) is ∙ ap (λ l. some ++ (escape.byte ∷ l)) (sym (bytes_after escape.length (drop 1 rest) within))
    ∙ ap (λ l. some ++ l) (sym step) ∙ h

-- no more of them: at the end, or at an escape that is none
pub bytes_end : (some rest whole : List ℕ) → length rest ≡ 0 → some ++ string_bytes 0 rest ≡ whole → some ≡ whole
bytes_end some rest whole none h = sym (append-nil some) ∙ ap (λ l. some ++ l) (sym (no_bytes rest none)) ∙ h

pub bytes_stop : (some rest whole : List ℕ) → 1 ≤ length rest → None ≡ meant_byte (slice_index rest 0) (drop 1 rest)
    → some ++ string_bytes 0 rest ≡ whole → some ≡ whole
bytes_stop some rest whole one meant h =
    let step : string_bytes 0 rest ≡ [] = bytes_step rest one ∙ ap (λ e. byte_then e (λ more. string_bytes more (drop 1 rest))) (sym meant) in
    sym (append-nil some) ∙ ap (λ l. some ++ l) (sym step) ∙ h
