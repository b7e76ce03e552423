-- The words of a line, filtered in memory and in the definition.
use Rattle.std.proofs.Common.{◌≡◌, ℕ, List, [], length, get_or, ◌<◌, ◌≤◌, arith}
use Rattle.std.specs.Borrow.{Bor}
use Rattle.std.proofs.lemmas.List.{length-map, get_or-map}
use Rattle.std.proofs.Math.ListN.{get_or-eq_default}
use Rattle.grammar.specs.Tokens.{texts, token_at}

-- as many texts as words
pub length_of_texts : (words : List (Bor (List ℕ))) → length (texts words) ≡ length words
length_of_texts words = length-map words (λ word. word.now)

-- the word at a place is the text of the word there
pub token_at_text : (words : List (Bor (List ℕ))) (place : ℕ) (d : Bor (List ℕ)) → place < length words → token_at (texts words) place ≡ (get_or words place d).now
unfolding token_at
token_at_text words place d h = get_or-map (λ word. word.now) words place d [] h

-- beyond the last word there is an empty one
pub token_at_none : (words : List (Bor (List ℕ))) (place : ℕ) → length words ≤ place → token_at (texts words) place ≡ []
unfolding token_at
token_at_none words place h = get_or-eq_default (texts words) [] (omega (arith, length_of_texts words))
