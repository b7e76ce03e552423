-- The items so far, and then those of the words that are left.
use Rattle.std.proofs.Common.{◌≡◌, drop, map}
use Rattle.condition_texts.specs.Items.{shown_from}
use Rattle.condition_texts.proofs.ReadingLemmas.{added}
use Rattle.condition_texts.proofs.lists.shown_in.Given as goal

abbrev pub invariant-loop-number : goal.invariant-loop-number
invariant-loop-number l =
    added l.items.items (shown_from l.image l.number (drop l.number (map (λ word. word.now) l.words)))
    ≡ shown_from l.image 0 (map (λ word. word.now) l.words)
