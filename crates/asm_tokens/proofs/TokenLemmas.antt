-- Tokens, one after another.
use Rattle.std.proofs.Common.{◌≡◌, ℕ, zero, suc, ◌+◌, ◌≤◌, Bool, List, [], ◌∷◌, ◌++◌, length, take, drop, slice_index, map, Ok, Err, refl, sym, ap, ◌∙◌, append_assoc, arith}
use Rattle.std.specs.Prelude.{Result}
use Rattle.std.proofs.lemmas.List.{map-append}
use Rattle.asm_tokens.specs.declared.fault.AsmFault.{AsmFault}
use Rattle.asm_tokens.specs.declared.fault.AsmFaultKind.TheVariants.{Byte}
use Rattle.asm_tokens.specs.declared.place.Place.{Place}
use Rattle.asm_tokens.specs.declared.token.Token.{Token}
use Rattle.asm_tokens.specs.declared.token.TokenKind.TheVariants.{End}
use Rattle.asm_tokens.specs.declared.lexemes.Lexeme.TheVariants as lexemes
use Rattle.asm_tokens.specs.Places.{after_byte, place_after}
use Rattle.asm_tokens.specs.Lexemes.{lexeme_of}
use Rattle.asm_tokens.specs.Tokens.{TokenParts, token_parts, opens_after, with_front, then_rest, tokens_from}

-- the tokens after some bytes of what began before
tokens_after : (skip : ℕ) (place : Place) (opens : Bool) (text : List ℕ) → skip ≤ length text
    → tokens_from skip place opens text ≡ tokens_from 0 (place_after place (take skip text)) opens (drop skip text)
unfolding tokens_from place_after
tokens_after zero place opens text h = refl
tokens_after (suc skip) place opens [] h = absurd (omega arith)
tokens_after (suc skip) place opens (b ∷ text) h = tokens_after skip (after_byte place b) opens text (omega arith)

-- the tokens from the first byte on, of which what begins there has so many more
abbrev rest_after : Place → Bool → List ℕ → ℕ → Result (List TokenParts) AsmFault
rest_after place opens rest more =
    tokens_from more (after_byte place (slice_index rest 0)) (opens_after opens (slice_index rest 0)) (drop 1 rest)

tokens_step : (place : Place) (opens : Bool) (rest : List ℕ) → 1 ≤ length rest
    → tokens_from 0 place opens rest ≡ then_rest place rest (lexeme_of opens rest) (λ more. rest_after place opens rest more)
unfolding tokens_from
tokens_step place opens [] h = absurd (omega arith)
tokens_step place opens (b ∷ text) h = refl

-- the same tokens from the place after it on
passed : (more : ℕ) (place : Place) (opens : Bool) (rest : List ℕ) → more + 1 ≤ length rest
    → rest_after place opens rest more
    ≡ tokens_from 0 (place_after place (take (more + 1) rest)) (opens_after opens (slice_index rest 0)) (drop (more + 1) rest)
unfolding place_after
passed more place opens [] h = absurd (omega arith)
passed more place opens (b ∷ text) h =
    let next : suc more ≡ more + 1 = omega arith in
    tokens_after more (after_byte place b) (opens_after opens b) text (omega arith)
    ∙ ap (λ n. tokens_from 0 (place_after place (take n (b ∷ text))) (opens_after opens b) (drop n (b ∷ text))) next

front_twice : (some more : List TokenParts) (rest : Result (List TokenParts) AsmFault)
    → with_front some (with_front more rest) ≡ with_front (some ++ more) rest
front_twice some more (Ok tokens) = ap Ok (sym (append_assoc some more tokens))
front_twice some more (Err fault) = refl

-- no tokens before others
pub front_none : (rest : Result (List TokenParts) AsmFault) → with_front [] rest ≡ rest
front_none (Ok tokens) = refl
front_none (Err fault) = refl

-- blanks, and then the tokens of what is left
pub blank_passed : (tokens : List TokenParts) (place new : Place) (opens now : Bool) (rest left : List ℕ) (more : ℕ)
    (whole : Result (List TokenParts) AsmFault) → more + 1 ≤ length rest → lexemes.Blank more ≡ lexeme_of opens rest
    → new ≡ place_after place (take (more + 1) rest) → now ≡ opens_after opens (slice_index rest 0) → left ≡ drop (more + 1) rest
    → with_front tokens (tokens_from 0 place opens rest) ≡ whole → with_front tokens (tokens_from 0 new now left) ≡ whole
blank_passed tokens place new opens now rest left more whole within is at opened left_is h =
    let step : tokens_from 0 place opens rest ≡ rest_after place opens rest more =
    tokens_step place opens rest (omega arith) ∙ ap (λ l. then_rest place rest l (λ more. rest_after place opens rest more)) (sym is) in
    rw (at, opened, left_is) (ap (with_front tokens) (sym (passed more place opens rest within) ∙ sym step) ∙ h)

-- one more token, and then those of what is left
pub token_passed : (tokens all : List Token) (token : Token) (new : Place) (opens now : Bool) (rest left : List ℕ) (more : ℕ)
    (whole : Result (List TokenParts) AsmFault) → all ≡ tokens ++ token ∷ [] → more + 1 ≤ length rest → lexemes.Token token.kind more ≡ lexeme_of opens rest
    → token.text.now ≡ take (more + 1) rest
    → new ≡ place_after token.place (take (more + 1) rest) → now ≡ opens_after opens (slice_index rest 0) → left ≡ drop (more + 1) rest
    → with_front (map token_parts tokens) (tokens_from 0 token.place opens rest) ≡ whole → with_front (map token_parts all) (tokens_from 0 new now left) ≡ whole
token_passed tokens all token new opens now rest left more whole put within is text at opened left_is h =
    let this : TokenParts = record { kind = token.kind; text = take (more + 1) rest; place = token.place } in
    let same : token_parts token ≡ this = λ i. record { kind = token.kind; text = text i; place = token.place } in
    let after = tokens_from 0 (place_after token.place (take (more + 1) rest)) (opens_after opens (slice_index rest 0)) (drop (more + 1) rest) in
    let step : tokens_from 0 token.place opens rest ≡ with_front (this ∷ []) after =
    tokens_step token.place opens rest (omega arith) ∙ ap (λ l. then_rest token.place rest l (λ more. rest_after token.place opens rest more)) (sym is)
    ∙ ap (with_front (this ∷ [])) (passed more token.place opens rest within) in
    let every : map token_parts all ≡ map token_parts tokens ++ this ∷ [] =
    ap (map token_parts) put ∙ map-append token_parts tokens (token ∷ []) ∙ ap (λ t. map token_parts tokens ++ t ∷ []) same in
    rw (at, opened, left_is, every)
    (sym (front_twice (map token_parts tokens) (this ∷ []) after) ∙ ap (with_front (map token_parts tokens)) (sym step) ∙ h)

-- no token begins here
pub bad_byte : (tokens : List TokenParts) (place new : Place) (opens : Bool) (rest : List ℕ) (more : ℕ)
    (whole : Result (List TokenParts) AsmFault) → 1 ≤ length rest → lexemes.Bad more ≡ lexeme_of opens rest
    → new ≡ place_after place (take more rest)
    → with_front tokens (tokens_from 0 place opens rest) ≡ whole → whole ≡ Err (record { kind = Byte; place = new })
bad_byte tokens place new opens rest more whole some is at h =
    let step : tokens_from 0 place opens rest ≡ Err (record { kind = Byte; place = place_after place (take more rest) }) =
    tokens_step place opens rest some ∙ ap (λ l. then_rest place rest l (λ more. rest_after place opens rest more)) (sym is) in
    sym h ∙ ap (with_front tokens) step ∙ (λ i. Err (record { kind = Byte; place = sym at i }))

-- the last token
pub tokens_end : (tokens all : List Token) (token : Token) (opens : Bool) (rest : List ℕ)
    (whole : Result (List TokenParts) AsmFault) → all ≡ tokens ++ token ∷ [] → length rest ≡ 0
    → token_parts token ≡ record { kind = End; text = rest; place = token.place }
    → with_front (map token_parts tokens) (tokens_from 0 token.place opens rest) ≡ whole → whole ≡ Ok (map token_parts all)
unfolding tokens_from
tokens_end tokens all token opens [] whole put none parts h =
    sym h ∙ ap Ok (ap (λ t. map token_parts tokens ++ t ∷ []) (sym parts) ∙ sym (map-append token_parts tokens (token ∷ [])) ∙ ap (map token_parts) (sym put))
tokens_end tokens all token opens (b ∷ rest) whole put none parts h = absurd (omega arith)
