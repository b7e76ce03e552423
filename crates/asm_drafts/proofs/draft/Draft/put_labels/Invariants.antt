-- the labels so far, and then the others
use Rattle.std.proofs.Common.{◌≡◌, map}
use Rattle.asm_tokens.specs.Tokens.{token_parts}
use Rattle.asm_drafts.specs.Drafts.{draft_parts}
use Rattle.asm_drafts.specs.Labels.{labels_put}
use Rattle.asm_drafts.proofs.draft.Draft.put_labels.Given as goal

abbrev pub invariant-loop-left : goal.invariant-loop-left
invariant-loop-left l =
    labels_put (map token_parts l.tokens) l.at l.left (draft_parts l.self)
    ≡ labels_put (map token_parts l.tokens) l.first l.count (draft_parts l.initial.self)

abbrev pub decreases-loop-left : goal.decreases-loop-left
decreases-loop-left l = l.left
