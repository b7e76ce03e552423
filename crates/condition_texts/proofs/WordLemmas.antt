-- The words of a condition, byte by byte: those so far, and then those of the bytes that are left.
use Rattle.std.proofs.Common.{◌≡◌, ◌≢◌, ℕ, ◌+◌, ◌-◌, ◌<◌, ◌≤◌, ◌==◌, Bool, true, false, List, [], ◌∷◌, ◌++◌, length, get_or, take, drop, refl, sym, ap, ◌∙◌, append_assoc, arith}
use Rattle.std.specs.Prelude.{slice_range}
use Rattle.std.proofs.lemmas.List.{drop_all, drop_more, take_more, length-take, length-drop, get_or-drop}
use Rattle.std.proofs.lemmas.Bool.Decides.{nat_tests}
use Rattle.std.proofs.lemmas.Bool.{cond-true, cond-false}
use Rattle.condition_texts.specs.Words.{is_parenthesis, run_of, words_from, condition_words}

-- a run of bytes
run_none : (text : List ℕ) (at : ℕ) → slice_range text at at ≡ []
run_none text at = let none : at - at ≡ 0 = omega arith in rw none refl

run_length : (text : List ℕ) (start end : ℕ) → start ≤ end → end ≤ length text → length (slice_range text start end) ≡ end - start
run_length text start end order room = omega (arith, length-take (end - start) (drop start text), length-drop start text)

run_more : (text : List ℕ) (start place : ℕ) → start ≤ place → place < length text
    → slice_range text start (place + 1) ≡ slice_range text start place ++ get_or text place 0 ∷ []
run_more text start place order room =
    let more : place + 1 - start ≡ (place - start) + 1 = omega arith in
    let there : start + (place - start) ≡ place = omega arith in
    ap (λ n. take n (drop start text)) more
    ∙ take_more (drop start text) (place - start) 0 (omega (arith, length-drop start text))
    ∙ ap (λ b. take (place - start) (drop start text) ++ b ∷ []) (get_or-drop start text (place - start) 0 ∙ ap (λ n. get_or text n 0) there)

one_byte : (text : List ℕ) (place : ℕ) → place < length text → slice_range text place (place + 1) ≡ get_or text place 0 ∷ []
one_byte text place room = run_more text place place (omega arith) room ∙ ap (λ l. l ++ get_or text place 0 ∷ []) (run_none text place)

run_single : (start b : ℕ) → run_of start (b ∷ []) false ≡ (start, b ∷ []) ∷ []
run_single start b = refl

module _ (text : List ℕ) (start place : ℕ) (alone : Bool) (before pairs all : List (ℕ × List ℕ)) (order : start ≤ place) where
  abbrev run : List ℕ
  run = slice_range text start place

  past : place ≤ length text → start + length run + 1 ≡ place + 1
  past room = let long = run_length text start place order room in omega (arith, long)

  here : place ≤ length text → start + length run ≡ place
  here room = let long = run_length text start place order room in omega (arith, long)

  split : place < length text → drop place text ≡ get_or text place 0 ∷ drop (place + 1) text
  split room = drop_more text place 0 room

  pub words_space : place < length text → (get_or text place 0 == 0x20) ≡ true
      → before ++ words_from start run alone (drop place text) ≡ all → pairs ≡ before ++ run_of start run alone
      → pairs ++ words_from (place + 1) (slice_range text (place + 1) (place + 1)) true (drop (place + 1) text) ≡ all
  unfolding words_from
  words_space room space now is =
      let step : words_from start run alone (get_or text place 0 ∷ drop (place + 1) text)
      ≡ run_of start run alone ++ words_from (place + 1) [] true (drop (place + 1) text) =
      cond-true (get_or text place 0 == 0x20) _ _ space
      ∙ ap (λ n. run_of start run alone ++ words_from n [] true (drop (place + 1) text)) (past (omega arith)) in
      ap (λ r. pairs ++ words_from (place + 1) r true (drop (place + 1) text)) (run_none text (place + 1))
      ∙ ap (λ l. l ++ words_from (place + 1) [] true (drop (place + 1) text)) is
      ∙ append_assoc before (run_of start run alone) (words_from (place + 1) [] true (drop (place + 1) text))
      ∙ ap (λ l. before ++ l) (sym step) ∙ ap (λ r. before ++ words_from start run alone r) (sym (split room)) ∙ now

  pub words_parenthesis : (mid : List (ℕ × List ℕ)) → place < length text → (get_or text place 0 == 0x20) ≡ false → is_parenthesis (get_or text place 0) ≡ true
      → before ++ words_from start run alone (drop place text) ≡ all → mid ≡ before ++ run_of start run false
      → pairs ≡ mid ++ run_of place (slice_range text place (place + 1)) false
      → pairs ++ words_from (place + 1) (slice_range text (place + 1) (place + 1)) false (drop (place + 1) text) ≡ all
  unfolding words_from
  words_parenthesis mid room space parenthesis now mid_is is =
      let b = get_or text place 0 in
      let rest = words_from (place + 1) [] false (drop (place + 1) text) in
      let step : words_from start run alone (b ∷ drop (place + 1) text) ≡ run_of start run false ++ (place, b ∷ []) ∷ rest =
      cond-false (b == 0x20) _ _ space ∙ cond-true (is_parenthesis b) _ _ parenthesis
      ∙ rw (past (omega arith), here (omega arith)) refl in
      let last : pairs ≡ (before ++ run_of start run false) ++ (place, b ∷ []) ∷ [] =
      is ∙ ap (λ l. l ++ run_of place (slice_range text place (place + 1)) false) mid_is
      ∙ ap (λ r. (before ++ run_of start run false) ++ run_of place r false) (one_byte text place room) in
      ap (λ r. pairs ++ words_from (place + 1) r false (drop (place + 1) text)) (run_none text (place + 1))
      ∙ ap (λ l. l ++ rest) last
      ∙ append_assoc (before ++ run_of start run false) ((place, b ∷ []) ∷ []) rest
      ∙ append_assoc before (run_of start run false) ((place, b ∷ []) ∷ rest)
      ∙ ap (λ l. before ++ l) (sym step) ∙ ap (λ r. before ++ words_from start run alone r) (sym (split room)) ∙ now

  pub words_other : place < length text → (get_or text place 0 == 0x20) ≡ false → is_parenthesis (get_or text place 0) ≡ false
      → before ++ words_from start run alone (drop place text) ≡ all
      → before ++ words_from start (slice_range text start (place + 1)) alone (drop (place + 1) text) ≡ all
  unfolding words_from
  words_other room space parenthesis now =
      let step : words_from start run alone (get_or text place 0 ∷ drop (place + 1) text)
      ≡ words_from start (run ++ get_or text place 0 ∷ []) alone (drop (place + 1) text) =
      cond-false (get_or text place 0 == 0x20) _ _ space ∙ cond-false (is_parenthesis (get_or text place 0)) _ _ parenthesis in
      ap (λ r. before ++ words_from start r alone (drop (place + 1) text)) (run_more text start place order room)
      ∙ ap (λ l. before ++ l) (sym step) ∙ ap (λ r. before ++ words_from start run alone r) (sym (split room)) ∙ now

  pub words_end : (last : ℕ) → last ≡ place → length text ≤ place → before ++ words_from start run alone (drop place text) ≡ all
      → pairs ≡ before ++ run_of start (slice_range text start last) alone → pairs ≡ all
  unfolding words_from
  words_end last same end now is = is ∙ ap (λ n. before ++ run_of start (slice_range text start n) alone) same ∙ ap (λ r. before ++ words_from start run alone r) (sym (drop_all place text end)) ∙ now

pub byte_is : (b c n : ℕ) → b ≡ c → b ≡ n → (c == n) ≡ true
byte_is b c n same is = grind (arith, nat_tests)

pub byte_is_not : (b c n : ℕ) → b ≡ c → b ≢ n → (c == n) ≡ false
byte_is_not b c n same other = grind (arith, nat_tests)

-- all words, where no byte came yet
pub words_begin : (text : List ℕ) (pairs : List (ℕ × List ℕ)) → pairs ≡ [] → pairs ++ words_from 0 [] true text ≡ condition_words text
unfolding condition_words
words_begin text pairs none = ap (λ l. l ++ words_from 0 [] true text) none
