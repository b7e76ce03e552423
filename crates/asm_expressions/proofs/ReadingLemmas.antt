-- An expression is read token by token.
use Rattle.std.proofs.Common.{◌≡◌, ℕ, ◌+◌, ◌<◌, ◌≤◌, suc, nat_lt, List, [], ◌∷◌, length, drop, map, get_or, slice_index_or, Result, Ok, Err, refl, sym, ap, ◌∙◌, add-one, arith}
use Rattle.std.proofs.Math.Seq.{drop-cons}
use Rattle.std.proofs.lemmas.List.{drop_all, drop-map, length-map}
use Rattle.asm_tokens.specs.declared.fault.AsmFault.{AsmFault}
use Rattle.asm_tokens.specs.declared.fault.AsmFaultKind.{AsmFaultKind}
use Rattle.asm_tokens.specs.declared.fault.AsmFaultKind.TheVariants.{Operand}
use Rattle.asm_tokens.specs.declared.token.Token.{Token}
use Rattle.asm_tokens.specs.Tokens.{TokenParts, token_parts}
use Rattle.asm_expressions.specs.declared.moves.Move.{Move}
use Rattle.asm_expressions.specs.declared.moves.Move.TheVariants as moves
use Rattle.asm_expressions.specs.declared.node.Node.{Node}
use Rattle.asm_expressions.specs.Moves.{move_of}
use Rattle.asm_expressions.specs.Tokens.{nowhere}
use Rattle.asm_expressions.specs.Expressions.{Pending, rest_of, moved, settled}

-- the tokens from a number on are the one there and those after it
pub tokens_here : (tokens : List Token) (n : ℕ) (d : Token) → n < length tokens
    → drop n (map token_parts tokens) ≡ token_parts (slice_index_or tokens n d) ∷ drop (n + 1) (map token_parts tokens)
tokens_here tokens n d room =
    drop-map token_parts n tokens
    ∙ (ap (map token_parts) (drop-cons tokens n d room)
    ∙ ap (λ rest. token_parts (get_or tokens n d) ∷ rest) (sym (drop-map token_parts (suc n) tokens)
    ∙ ap (λ k. drop k (map token_parts tokens)) (sym (add-one n))))

-- a token that can't be there, one behind the end, and any other
bad_here : (p : Pending) (n : ℕ) (token : TokenParts) (rest : List TokenParts) (kind : AsmFaultKind) → move_of p.phase (nat_lt 0 p.depth) token ≡ moves.Bad kind
    → rest_of p n (token ∷ rest) ≡ Err (record { kind = kind; place = token.place })
unfolding rest_of
bad_here p n token rest kind e = rw e refl

end_here : (p : Pending) (n : ℕ) (token : TokenParts) (rest : List TokenParts) → move_of p.phase (nat_lt 0 p.depth) token ≡ moves.End
    → rest_of p n (token ∷ rest) ≡ Ok ((settled 0 p).nodes, n)
unfolding rest_of
end_here p n token rest e = rw e refl

go_here : (p : Pending) (n : ℕ) (token : TokenParts) (rest : List TokenParts) (m : Move) → move_of p.phase (nat_lt 0 p.depth) token ≡ m
    → (m ≡ moves.End → ⊥) → ((kind : AsmFaultKind) → m ≡ moves.Bad kind → ⊥) → rest_of p n (token ∷ rest) ≡ rest_of (moved m n p) (n + 1) rest
unfolding rest_of
go_here p n token rest (moves.Leaf kind) e _ _ = rw e refl
go_here p n token rest moves.Open e _ _ = rw e refl
go_here p n token rest moves.Close e _ _ = rw e refl
go_here p n token rest (moves.Before op) e _ _ = rw e refl
go_here p n token rest (moves.Between op) e _ _ = rw e refl
go_here p n token rest (moves.Turn phase) e _ _ = rw e refl
go_here p n token rest moves.End e end bad = absurd (end refl)
go_here p n token rest (moves.Bad kind) e end bad = absurd (bad kind refl)

pub bad_token : (p : Pending) (tokens : List Token) (n : ℕ) (d : Token) (kind : AsmFaultKind) (all : Result (List Node × ℕ) AsmFault) → n < length tokens
    → move_of p.phase (nat_lt 0 p.depth) (token_parts (slice_index_or tokens n d)) ≡ moves.Bad kind
    → rest_of p n (drop n (map token_parts tokens)) ≡ all → all ≡ Err (record { kind = kind; place = (slice_index_or tokens n d).place })
bad_token p tokens n d kind all room e now =
    sym now ∙ (ap (rest_of p n) (tokens_here tokens n d room) ∙ bad_here p n _ _ kind e)

pub end_token : (p : Pending) (tokens : List Token) (n : ℕ) (d : Token) (all : Result (List Node × ℕ) AsmFault) → n < length tokens
    → move_of p.phase (nat_lt 0 p.depth) (token_parts (slice_index_or tokens n d)) ≡ moves.End
    → rest_of p n (drop n (map token_parts tokens)) ≡ all → all ≡ Ok ((settled 0 p).nodes, n)
end_token p tokens n d all room e now =
    sym now ∙ (ap (rest_of p n) (tokens_here tokens n d room) ∙ end_here p n _ _ e)

pub next_token : (p q : Pending) (tokens : List Token) (n : ℕ) (d : Token) (m : Move) (all : Result (List Node × ℕ) AsmFault) → n < length tokens
    → move_of p.phase (nat_lt 0 p.depth) (token_parts (slice_index_or tokens n d)) ≡ m → (m ≡ moves.End → ⊥) → ((kind : AsmFaultKind) → m ≡ moves.Bad kind → ⊥)
    → q ≡ moved m n p → rest_of p n (drop n (map token_parts tokens)) ≡ all → rest_of q (n + 1) (drop (n + 1) (map token_parts tokens)) ≡ all
next_token p q tokens n d m all room e end bad same now =
    ap (λ (r : Pending). rest_of r (n + 1) (drop (n + 1) (map token_parts tokens))) same
    ∙ (sym (ap (rest_of p n) (tokens_here tokens n d room) ∙ go_here p n _ _ m e end bad) ∙ now)

pub no_token : (p : Pending) (tokens : List Token) (n : ℕ) (all : Result (List Node × ℕ) AsmFault) → length tokens ≤ n
    → rest_of p n (drop n (map token_parts tokens)) ≡ all → all ≡ Err (record { kind = Operand; place = nowhere })
unfolding rest_of
no_token p tokens n all past now =
    let none : drop n (map token_parts tokens) ≡ [] = drop_all n (map token_parts tokens) (rw length-map past) in
    sym now ∙ rw none refl

-- one bracket more is open at most
pub depth_after : (p : Pending) (m : Move) (n : ℕ) → (moved m n p).depth ≤ p.depth + 1
unfolding moved settled
depth_after p (moves.Leaf kind) n = omega arith
depth_after p moves.Open n = omega arith
depth_after p moves.Close n = omega arith
depth_after p (moves.Before op) n = omega arith
depth_after p (moves.Between op) n = omega arith
depth_after p (moves.Turn phase) n = omega arith
depth_after p moves.End n = omega arith
depth_after p (moves.Bad kind) n = omega arith
