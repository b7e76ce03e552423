-- Readers that go over words: what was read so far, and then what is left.
use Rattle.std.proofs.Common.{◌≡◌, ℕ, ◌+◌, ◌<◌, ◌≤◌, suc, List, [], ◌∷◌, ◌++◌, length, get_or, drop, map, Some, None, Result, Ok, Err, refl, sym, ap, ◌∙◌, add-one, append_assoc}
use Rattle.std.proofs.Math.Seq.{drop-cons}
use Rattle.std.proofs.lemmas.List.{append-nil, drop_all, drop-map, length-map}
use Rattle.std.specs.Borrow.{Bor}
use Rattle.cheri_model.specs.runs.Image.{ImageParts}
use Rattle.grammar.specs.Faults.{◌>>=◌}
use Rattle.conditions.specs.declared.parts.Shown.{Shown}
use Rattle.condition_texts.specs.Items.{shown_at, shown_from}

-- what was read before, and then what is left
abbrev pub added : {A : Type 0} → List A → Result (List A) ℕ → Result (List A) ℕ
added before (Ok later) = Ok (before ++ later)
added before (Err number) = Err number

added_end : {A : Type 0} (before : List A) → added before (Ok []) ≡ Ok before
added_end before = ap Ok (append-nil before)

added_more : {A : Type 0} (before here : List A) (r : Result (List A) ℕ) → added before (r >>= (λ later. Ok (here ++ later))) ≡ added (before ++ here) r
added_more before here (Ok later) = ap Ok (sym (append_assoc before here later))
added_more before here (Err number) = refl

-- the words from a place on are the one there and those after it
word_here : (words : List (Bor (List ℕ))) (number : ℕ) (d : Bor (List ℕ)) → number < length words
    → drop number (map (λ word. word.now) words) ≡ (get_or words number d).now ∷ drop (number + 1) (map (λ word. word.now) words)
word_here words number d room =
    drop-map (λ (word : Bor (List ℕ)). word.now) number words
    ∙ (ap (map (λ (word : Bor (List ℕ)). word.now)) (drop-cons words number d room)
    ∙ ap (λ rest. (get_or words number d).now ∷ rest) (sym (drop-map (λ (word : Bor (List ℕ)). word.now) (suc number) words)
    ∙ ap (λ n. drop n (map (λ (word : Bor (List ℕ)). word.now) words)) (sym (add-one number))))

pub word_at : (words : List (Bor (List ℕ))) (number : ℕ) (d : Bor (List ℕ)) (word : List ℕ) → number < length words → word ≡ (get_or words number d).now
    → drop number (map (λ word. word.now) words) ≡ word ∷ drop (number + 1) (map (λ word. word.now) words)
word_at words number d word room same =
    word_here words number d room ∙ ap (λ w. w ∷ drop (number + 1) (map (λ (word : Bor (List ℕ)). word.now) words)) (sym same)

pub no_word_at : (words : List (Bor (List ℕ))) (number : ℕ) → length words ≤ number → length (map (λ word. word.now) words) ≤ number
no_word_at words number long = rw length-map long

-- the same of items, of which each word writes one
items_step : (image : ImageParts) (number : ℕ) (word : List ℕ) (rest : List (List ℕ)) (shown : Shown) (before : List Shown) → shown_at image number word ≡ Some shown
    → added before (shown_from image number (word ∷ rest)) ≡ added (before ++ shown ∷ []) (shown_from image (number + 1) rest)
unfolding shown_from
items_step image number word rest shown before e = rw e (added_more before (shown ∷ []) (shown_from image (number + 1) rest))

pub items_turn : (image : ImageParts) (number : ℕ) (word : List ℕ) (words : List (List ℕ)) (shown : Shown) (before : List Shown) (all : Result (List Shown) ℕ)
    → shown_at image number word ≡ Some shown → drop number words ≡ word ∷ drop (number + 1) words
    → added before (shown_from image number (drop number words)) ≡ all
    → added (before ++ shown ∷ []) (shown_from image (number + 1) (drop (number + 1) words)) ≡ all
items_turn image number word words shown before all e here now =
    sym (items_step image number word (drop (number + 1) words) shown before e) ∙ (rw here at now)

items_none : (image : ImageParts) (number : ℕ) (word : List ℕ) (rest : List (List ℕ)) → shown_at image number word ≡ None → shown_from image number (word ∷ rest) ≡ Err number
unfolding shown_from
items_none image number word rest e = rw e refl

pub items_stop : (image : ImageParts) (number : ℕ) (word : List ℕ) (words : List (List ℕ)) (before : List Shown) (all : Result (List Shown) ℕ)
    → shown_at image number word ≡ None → drop number words ≡ word ∷ drop (number + 1) words
    → added before (shown_from image number (drop number words)) ≡ all → all ≡ Err number
items_stop image number word words before all e here now =
    sym (rw here at now) ∙ ap (added before) (items_none image number word (drop (number + 1) words) e)

pub items_end : (image : ImageParts) (number : ℕ) (words : List (List ℕ)) (before : List Shown) (all : Result (List Shown) ℕ)
    → length words ≤ number → added before (shown_from image number (drop number words)) ≡ all → all ≡ Ok before
unfolding shown_from
items_end image number words before all long now =
    let none : drop number words ≡ [] = drop_all number words long in
    sym now ∙ rw none (added_end before)
