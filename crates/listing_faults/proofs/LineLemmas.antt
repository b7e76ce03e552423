-- Lines, one after another.
use Rattle.std.proofs.Common.{◌≡◌, ◌∙◌, sym, ap, ℕ, ◌≤◌, List, [], ◌∷◌, ◌++◌, length, drop, set, map}
use Rattle.std.proofs.lemmas.List.{append_assoc, append-nil, map-append, map-set}
use Rattle.std.proofs.Math.ListN.{drop_of_length-le}
use Rattle.std.specs.Borrow.{Bor}
use Rattle.grammar.specs.Tokens.{texts}

pub pushed : (lines : List (Bor (List ℕ))) (line : Bor (List ℕ)) → texts (lines ++ (line ∷ [])) ≡ texts lines ++ (line.now ∷ [])
pushed lines line = map-append (λ (l : Bor (List ℕ)). l.now) lines (line ∷ [])

-- one more line of all
pub line_more : (before after : List (List ℕ)) (line : List ℕ) (rest all : List (List ℕ)) → after ≡ before ++ (line ∷ [])
    → before ++ (line ∷ rest) ≡ all → after ++ rest ≡ all
line_more before after line rest all is so = ap (λ (xs : List (List ℕ)). xs ++ rest) is ∙ (append_assoc before (line ∷ []) rest ∙ so)

pub lines_end : (before : List (List ℕ)) (place : ℕ) (all : List (List ℕ)) → length all ≤ place → before ++ drop place all ≡ all → before ≡ all
lines_end before place all past is =
    sym (append-nil before) ∙ (ap (λ (xs : List (List ℕ)). before ++ xs) (sym (drop_of_length-le all past)) ∙ is)

-- a line that is put at a place
pub put : (lines : List (Bor (List ℕ))) (place : ℕ) (line : Bor (List ℕ)) → texts (set lines place line) ≡ set (texts lines) place line.now
put lines place line = map-set (λ (l : Bor (List ℕ)). l.now) lines place line

pub ruleset lines = (pushed, put)
