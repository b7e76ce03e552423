-- Words that are written one by one.
use Rattle.std.proofs.Common.{◌≡◌, ℕ, ◌+◌, ◌<◌, ◌≤◌, List, [], ◌∷◌, ◌++◌, length, drop, get_or, map, Bool, true, false, refl, sym, ap, ◌∙◌, append_assoc, add-one, codes, drop-cons, decimal}
use Rattle.std.specs.Prelude.{◌==◌}
use Rattle.std.proofs.Math.ListN.{drop_of_length-le}
use Rattle.std.proofs.lemmas.List.{append-nil}
use Rattle.std.proofs.lemmas.Bool.{eq-eqb}
use Rattle.serde_json.specs.Written.{comma_if}
use Rattle.reductions.specs.declared.reduction.LeftOut.{LeftOut}
use Rattle.reduced_texts.specs.ReducedTexts.{after_blanks, group_words, harts_text, left_out_words, reduced_line, words_to}

-- the hart at a place, and those after it
hart_here : (groups : List ℕ) (hart : ℕ) (d of : ℕ) → hart < length groups → of ≡ get_or groups hart d →
    drop hart groups ≡ of ∷ drop (hart + 1) groups
hart_here groups hart d of room here = rw (here, add-one) (drop-cons groups hart d room)

-- a hart of the group is written, after a comma if it isn't the first
pub hart_written : (group : ℕ) (later : Bool) (groups : List ℕ) (hart d of : ℕ) (before comma after all : List ℕ) →
    hart < length groups → of ≡ get_or groups hart d → of ≡ group → comma ≡ before ++ comma_if later → after ≡ comma ++ decimal hart →
    before ++ harts_text group later hart (drop hart groups) ≡ all →
    after ++ harts_text group true (hart + 1) (drop (hart + 1) groups) ≡ all
unfolding harts_text
hart_written group later groups hart d of before comma after all room here is with_comma written whole =
    let so : (of == group) ≡ true = eq-eqb of group is in
    rw (written, with_comma, append_assoc, append_assoc) (rw so at (rw (hart_here groups hart d of room here) at whole))

-- one of another group isn't
pub hart_skipped : (group : ℕ) (later : Bool) (groups : List ℕ) (hart d of : ℕ) (before all : List ℕ) →
    hart < length groups → of ≡ get_or groups hart d → (of == group) ≡ false →
    before ++ harts_text group later hart (drop hart groups) ≡ all →
    before ++ harts_text group later (hart + 1) (drop (hart + 1) groups) ≡ all
unfolding harts_text
hart_skipped group later groups hart d of before all room here other whole =
    rw other at (rw (hart_here groups hart d of room here) at whole)

-- where no hart is left the text is whole
pub harts_end : (group : ℕ) (later : Bool) (groups : List ℕ) (hart : ℕ) (before all : List ℕ) → length groups ≤ hart →
    before ++ harts_text group later hart (drop hart groups) ≡ all → before ≡ all
unfolding harts_text
harts_end group later groups hart before all ended whole =
    let none : drop hart groups ≡ [] = drop_of_length-le groups ended in
    rw append-nil at (rw none at whole)

-- the words of one group more
pub words_more : (groups : List ℕ) (number : ℕ) (first before after : List (List ℕ)) → before ≡ first ++ words_to groups number →
    after ≡ before ++ group_words groups (number + 1) → after ≡ first ++ words_to groups (number + 1)
unfolding words_to
words_more groups number first before after so_far more =
    more ∙ (ap (λ (l : List (List ℕ)). l ++ group_words groups (number + 1)) so_far
    ∙ (append_assoc first (words_to groups number) (group_words groups (number + 1))
    ∙ ap (λ (n : ℕ). first ++ words_to groups n) (sym (add-one number))))

-- a word more is written after a blank
pub word_written : {X : Type 0} (word_of : X → List ℕ) (words : List X) (place : ℕ) (d word : X) (before blank after all : List ℕ) →
    place < length words → word ≡ get_or words place d → blank ≡ before ++ 32 ∷ [] → after ≡ blank ++ word_of word →
    before ++ after_blanks (map word_of (drop place words)) ≡ all →
    after ++ after_blanks (map word_of (drop (place + 1) words)) ≡ all
unfolding after_blanks
word_written word_of words place d word before blank after all room here with_blank written whole =
    let next : drop place words ≡ word ∷ drop (place + 1) words = rw (here, add-one) (drop-cons words place d room) in
    rw (written, with_blank, append_assoc, append_assoc) (rw next at whole)

-- where no word is left the text is whole
pub words_end : {X : Type 0} (word_of : X → List ℕ) (words : List X) (place : ℕ) (before all : List ℕ) → length words ≤ place →
    before ++ after_blanks (map word_of (drop place words)) ≡ all → before ≡ all
unfolding after_blanks
words_end word_of words place before all ended whole =
    let none : drop place words ≡ [] = drop_of_length-le words ended in
    rw append-nil at (rw none at whole)

-- the line is its words and its end
pub line_whole : (left_out : LeftOut) (start before text : List ℕ) (words : List (List ℕ)) → start ≡ codes "reduced" →
    before ≡ start ++ after_blanks words → words ≡ left_out_words left_out → text ≡ before ++ 10 ∷ [] → text ≡ reduced_line left_out
unfolding reduced_line
line_whole left_out start before text words begun written are ended =
    let line : before ≡ codes "reduced" ++ after_blanks (left_out_words left_out) = written ∙ rw (begun, are) refl in
    ended ∙ (ap (λ (l : List ℕ). l ++ 10 ∷ []) line
    ∙ append_assoc (codes "reduced") (after_blanks (left_out_words left_out)) (10 ∷ []))
