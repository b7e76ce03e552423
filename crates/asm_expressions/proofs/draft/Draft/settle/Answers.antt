use Rattle.std.proofs.Common.{◌<◌, ◌∙◌, sym, refl, arith}
use Rattle.asm_expressions.specs.declared.draft.Waiting.TheVariants.{Bracket}
use Rattle.asm_expressions.specs.Drafts.{pending_of}
use Rattle.asm_expressions.proofs.DraftLemmas.{is_waiting, settled_none, settled_turn}
use Rattle.asm_expressions.proofs.draft.Draft.settle.Goals as goal

pub loop-node-preserved : goal.loop-node-preserved
loop-node-preserved c =
    let draft = c.loop-node.self in
    let first = sym c.last_taken.ensures ∙ c.in-Some.is in
    let some : 0 < draft.waiting.len = is_waiting c.args.least draft.waiting.items draft.waiting.len c.in-Some.node (omega (arith, draft.waiting.ok.0)) first in
    settled_turn c.args.least (pending_of draft) draft.waiting.items c.pop.new.self.items c.pop.result _ c.in-Some.node c.push.new.self.items refl
    c.pop.ensures.items (c.pop.ensures.value Bracket some) first c.in_ok-push.ensures.items
    ∙ c.loop-node.invariant

pub returns : goal.returns
returns c =
    sym (settled_none c.args.least (pending_of c.loop-node.self) (sym c.last_taken.ensures ∙ c.in_default.is))
    ∙ c.loop-node.invariant
