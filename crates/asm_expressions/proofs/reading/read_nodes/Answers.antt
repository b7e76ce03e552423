use Rattle.std.proofs.Common.{◌≡◌, drop, map, Ok, inr, ap, sym, ◌∙◌, arith}
use Rattle.asm_tokens.specs.Tokens.{token_parts}
use Rattle.asm_expressions.specs.Drafts.{pending_of}
use Rattle.asm_expressions.specs.Expressions.{Pending, rest_of, expression_at, moved}
use Rattle.asm_expressions.proofs.ReadingLemmas.{bad_token, end_token, next_token, no_token, depth_after}
use Rattle.asm_expressions.proofs.reading.read_nodes.Goals as goal

pub loop-next-init : goal.loop-next-init
unfolding expression_at
loop-next-init c = record {
  rest = ap (λ (p : Pending). rest_of p c.args.at (drop c.args.at (map token_parts c.args.tokens.now))) c.new-draft.ensures;
  depth = omega (arith, ap (λ (p : Pending). p.depth) c.new-draft.ensures);
}

pub returns-in-Bad-clause-is : goal.returns-in-Bad-clause-is
returns-in-Bad-clause-is c =
    inr (bad_token (pending_of c.loop-next.draft) c.args.tokens.now c.loop-next.next _ c.in-Bad.kind _ c.loop-next-test.true
    (sym c.move_of.ensures ∙ c.in-Bad.is) c.loop-next.invariant.rest)

pub returns-in-End-clause-is : goal.returns-in-End-clause-is
returns-in-End-clause-is c =
    end_token (pending_of c.loop-next.draft) c.args.tokens.now c.loop-next.next _ _ c.loop-next-test.true
    (sym c.move_of.ensures ∙ c.in-End.is) c.loop-next.invariant.rest
    ∙ ap (λ (p : Pending). Ok (p.nodes, c.loop-next.next)) (sym c.in_ok-settle-in-End.ensures)

pub loop-next-preserved : goal.loop-next-preserved
loop-next-preserved c =
    let p = pending_of c.loop-next.draft in
    let m = c.move_of.result in
    let taken : pending_of c.take.new.self ≡ moved m c.loop-next.next p = c.in_ok-take-in_default.ensures in
    let depth : c.take.new.self.depth ≡ (moved m c.loop-next.next p).depth = ap (λ (q : Pending). q.depth) taken in
    record {
      rest = next_token p (pending_of c.take.new.self) c.args.tokens.now c.loop-next.next _ m _ c.loop-next-test.true
          (sym c.move_of.ensures) (λ e. c.in_default.not-End e) (λ kind e. c.in_default.not-Bad kind e) taken c.loop-next.invariant.rest;
      depth = omega (arith, c.loop-next.invariant.depth, depth_after p m c.loop-next.next, depth);
    }

pub returns-clause-is : goal.returns-clause-is
returns-clause-is c =
    inr (no_token (pending_of c.loop-next.draft) c.args.tokens.now c.loop-next.next _ c.loop-next-test.false c.loop-next.invariant.rest)
