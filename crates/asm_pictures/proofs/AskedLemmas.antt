-- Requests so far.
use Rattle.std.proofs.Common.{◌≡◌, ℕ, zero, suc, ◌+◌, List, [], ◌∷◌, ◌++◌, map, replicate, refl, sym, ap, ◌∙◌, append_assoc, arith}
use Rattle.std.proofs.lemmas.List.{map-append, append-nil}
use Rattle.asm_files.specs.declared.requests.HartRequest.{HartRequest}
use Rattle.asm_files.specs.Requests.{HartRequestParts, hart_request_parts}
use Rattle.asm_pictures.specs.Asked.{some_request, said_request, said_from}

-- one more of those without a word
one_more : (x : HartRequestParts) (n : ℕ) → replicate n x ++ x ∷ [] ≡ replicate (suc n) x
one_more x zero = refl
one_more x (suc n) = ap (λ xs. x ∷ xs) (one_more x n)

pub counted_more : (harts after : List HartRequest) (request : HartRequest) (n : ℕ) → map hart_request_parts harts ≡ replicate n some_request
    → hart_request_parts request ≡ some_request → after ≡ harts ++ request ∷ []
    → map hart_request_parts after ≡ replicate (n + 1) some_request
counted_more harts after request n so_far is now =
    let next : suc n ≡ n + 1 = omega arith in
    ap (map hart_request_parts) now ∙ map-append hart_request_parts harts (request ∷ [])
    ∙ ap (λ xs. xs ++ hart_request_parts request ∷ []) so_far ∙ ap (λ x. replicate n some_request ++ x ∷ []) is
    ∙ one_more some_request n ∙ ap (λ k. replicate k some_request) next

-- one more of those that texts say
pub said_more : (number : ℕ) (left rest : List (List ℕ)) (text : List ℕ) (before after whole : List HartRequestParts) → left ≡ text ∷ rest
    → before ++ said_from number left ≡ whole → after ≡ before ++ said_request number text ∷ [] → after ++ said_from (number + 1) rest ≡ whole
unfolding said_from
said_more number left rest text before after whole is so_far now =
    ap (λ xs. xs ++ said_from (number + 1) rest) now
    ∙ append_assoc before (said_request number text ∷ []) (said_from (number + 1) rest)
    ∙ ap (λ xs. before ++ said_from number xs) (sym is) ∙ so_far

-- no text is left
pub said_end : (number : ℕ) (left : List (List ℕ)) (before whole : List HartRequestParts) → left ≡ [] → before ++ said_from number left ≡ whole
    → before ≡ whole
unfolding said_from
said_end number left before whole none so_far = sym (append-nil before) ∙ ap (λ xs. before ++ said_from number xs) (sym none) ∙ so_far
