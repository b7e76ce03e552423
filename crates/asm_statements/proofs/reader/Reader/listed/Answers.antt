use Rattle.std.proofs.Common.{Result, length, sym, ap, ◌∙◌}
use Rattle.asm_tokens.specs.declared.fault.AsmFault.{AsmFault}
use Rattle.asm_statements.specs.Drafts.{parts_of}
use Rattle.asm_statements.specs.Marks.{source}
use Rattle.asm_statements.proofs.ListLemmas.{listed_end, listed_turn, listed_fault, listed_past}
use Rattle.asm_statements.proofs.LoopLemmas.{counted, uncounted}
use Rattle.asm_statements.proofs.StepLemmas.{answers}
use Rattle.asm_statements.proofs.reader.Reader.listed.Goals as goal

pub returns-then-not-is_comma : goal.returns-then-not-is_comma
returns-then-not-is_comma c =
    let p = parts_of c.loop.draft in
    answers c.end.result p _ (sym c.loop.invariant
    ∙ (listed_end _ (source c.args.self.now) c.args.role c.loop.next p (sym c.is_comma.ensures.is ∙ c.if-not-is_comma.true)
    ∙ ap (λ (r : Result (Unit {0}) AsmFault). (p, r)) (sym c.end.ensures)))

pub returns-in-Err : goal.returns-in-Err
returns-in-Err c =
    listed_fault (length (source c.args.self.now)) c.loop.counter (source c.args.self.now) c.args.role c.loop.next (parts_of c.loop.draft) _ c.in-Err.fault _
    (counted c.args.self.now.tokens.now c.loop.counter c.loop-test.true) (sym c.is_comma.ensures.is ∙ c.if-not-is_comma.false) c.in-Err.ensures.is c.loop.invariant

pub loop-preserved : goal.loop-preserved
loop-preserved c =
    listed_turn (length (source c.args.self.now)) c.loop.counter (source c.args.self.now) c.args.role c.loop.next c.in-Ok.after (parts_of c.loop.draft) _ _
    (counted c.args.self.now.tokens.now c.loop.counter c.loop-test.true) (sym c.is_comma.ensures.is ∙ c.if-not-is_comma.false) c.in-Ok.ensures.is c.loop.invariant

pub returns : goal.returns
returns c =
    let p = parts_of c.loop.draft in
    answers c.end-2.result p _ (listed_past (length (source c.args.self.now)) c.loop.counter (source c.args.self.now) c.args.role c.loop.next p _
    (uncounted c.args.self.now.tokens.now c.loop.counter c.loop-test.false) c.loop.invariant
    ∙ ap (λ (r : Result (Unit {0}) AsmFault). (p, r)) (sym c.end-2.ensures))
