-- The words of a condition in memory.
use Rattle.std.specs.Prelude.{◌≡◌, ℕ, ◌≤◌, List, ◌++◌, map, drop, slice_range}
use Rattle.condition_texts.specs.declared.words.Run.{Run}
use Rattle.condition_texts.specs.Words.{words_from}
use Rattle.condition_texts.specs.declared.words.Word.{Word}

abbrev pub word_pairs : List Word → List (ℕ × List ℕ)
word_pairs words = map (λ word. (word.start, word.text.now)) words

-- these words, and then those of the bytes that are left from a place on, after those of a word,
-- are all
abbrev pub Remains : List ℕ → List Word → Run → ℕ → List (ℕ × List ℕ) → Type 0
Remains text words run place all =
    (run.start ≤ place)
    × (word_pairs words
    ++ words_from run.start (slice_range text run.start place) run.alone (drop place text) ≡ all)
