-- Readers call those that are below them, and in parentheses those of a lower depth.
use Rattle.std.proofs.Common.{◌+◌, ◌-◌, ◌*◌, ◌<◌, ◌≤◌, length}
use Rattle.condition_texts.specs.Reading.{context_of}
use Rattle.condition_texts.specs.Conditions.{chain_of, in_parentheses, item_of}
use Rattle.condition_texts.proofs.NestingLemmas.{Chained}
use Rattle.condition_texts.proofs.Ranks.{rank_of}
use Rattle.condition_texts.proofs.reading.Reader.+nesting.Given as goal

abbrev pub decreases-in_parentheses : goal.decreases-in_parentheses
decreases-in_parentheses l = 16 * l.inside.depth

abbrev pub decreases-of_each : goal.decreases-of_each
decreases-of_each l = 16 * l.depth + 1

abbrev pub decreases-counted : goal.decreases-counted
decreases-counted l = 16 * l.depth + 1

abbrev pub decreases-quantified : goal.decreases-quantified
decreases-quantified l = 16 * l.depth + 2

abbrev pub decreases-after_opening : goal.decreases-after_opening
decreases-after_opening l = 16 * l.inside.depth + 3

abbrev pub decreases-unit : goal.decreases-unit
decreases-unit l = 16 * l.inside.depth + 4

abbrev pub decreases-part : goal.decreases-part
decreases-part l = 16 * l.inside.depth + 5

abbrev pub decreases-item : goal.decreases-item
decreases-item l = 16 * l.inside.depth + rank_of l.joint + 6

abbrev pub decreases-chain : goal.decreases-chain
decreases-chain l = 16 * l.inside.depth + rank_of l.joint + 7

-- what was read of the chain, and that the rest is still to be joined to it
abbrev pub invariant-chain-items : goal.invariant-chain-items
invariant-chain-items l =
    Chained (context_of l.self) l.joint
    (item_of (context_of l.self) l.joint (in_parentheses (context_of l.self) l.inside.depth) l.inside.each)
    l.fn.nodes.items l.end l.nodes.items
    (chain_of (context_of l.self) l.joint l.inside.depth l.inside.each l.at)
    × (l.at < l.end) × (l.end ≤ length l.self.words.now)

abbrev pub decreases-chain-items : goal.decreases-chain-items
decreases-chain-items l = length l.self.words.now - l.end
