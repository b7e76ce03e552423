use Rattle.std.proofs.Common.{◌≡◌, ◌∙◌, sym, ap, subst, OnOk, ℕ}
use Rattle.asm_values.specs.Operators.{level}
use Rattle.asm_expressions.specs.declared.draft.Waiting.TheVariants.{Binary}
use Rattle.asm_expressions.specs.declared.moves.Move.{Move}
use Rattle.asm_expressions.specs.Drafts.{pending_of}
use Rattle.asm_expressions.specs.Expressions.{Pending, settled, with_waiting, moved}
use Rattle.asm_expressions.proofs.draft.Draft.take.Goals as goal

pub returns-in_ok-settle-in-Between : goal.returns-in_ok-settle-in-Between
unfolding moved settled
returns-in_ok-settle-in-Between c =
    let before = pending_of c.args.self.now in
    let op = c.in-Between.op in
    let after = c.settle-in-Between.new.self in
    let done : pending_of after ≡ settled (level op) before =
    c.in_ok-settle-in-Between.ensures ∙ ap (λ (k : ℕ). settled k before) c.level.ensures in
    subst (λ (p : Pending). OnOk c.wait-in-Between.result (pending_of c.wait-in-Between.new.self ≡ p))
    (ap (λ (p : Pending). with_waiting (Binary op c.args.at) p.depth p) done
    ∙ ap (λ (m : Move). moved m c.args.at before) (sym c.in-Between.is))
    c.wait-in-Between.ensures
