use Rattle.std.proofs.Common.{ℕ, ◌-◌, List, ◌∷◌, [], ◌++◌, length, map, ap, ◌∙◌, arith}
use Rattle.std.proofs.lemmas.List.{map-append}
use Rattle.asm_tokens.specs.Tokens.{token_parts}
use Rattle.asm_statements.specs.declared.statement.Statement.{Statement}
use Rattle.asm_statements.specs.Statements.{StatementParts, statement_parts, statements_up_to, statements_of}
use Rattle.asm_statements.proofs.LoopLemmas.{counted, uncounted, statements_turn, statements_end, statements_past}
use Rattle.asm_statements.proofs.reading.read_statements.Goals as goal

pub loop-init : goal.loop-init
unfolding statements_of
loop-init c =
    let ts = map token_parts c.args.tokens.now in
    ap (λ (items : List Statement). map statement_parts items ++ statements_up_to (length ts - 0) ts 0) c.new-statements.ensures.items
    ∙ ap (λ (k : ℕ). statements_up_to k ts 0) (omega arith)

pub returns-then-at-tokens : goal.returns-then-at-tokens
returns-then-at-tokens c =
    statements_end _ (map token_parts c.args.tokens.now) c.loop.at (map statement_parts c.loop.statements.items) _ (uncounted c.args.tokens.now c.loop.at c.if-at-tokens.true) c.loop.invariant

pub loop-preserved : goal.loop-preserved
loop-preserved c =
    let ts = map token_parts c.args.tokens.now in
    let old = map statement_parts c.loop.statements.items in
    statements_turn (length ts) c.loop.counter ts c.loop.at c.next_at-at.result old _ _ (counted c.args.tokens.now c.loop.counter c.loop-test.true) (counted c.args.tokens.now c.loop.at c.if-at-tokens.false)
    (ap (map statement_parts) c.in_ok-push.ensures.items
    ∙ (map-append statement_parts c.loop.statements.items (c.in_ok-statement.statement ∷ [])
    ∙ ap (λ (s : StatementParts). old ++ s ∷ []) c.in_ok-statement.ensures))
    c.next_at-at.ensures.is c.loop.invariant

pub returns : goal.returns
returns c =
    statements_past (length (map token_parts c.args.tokens.now)) c.loop.counter (map token_parts c.args.tokens.now) c.loop.at (map statement_parts c.loop.statements.items) _
    (uncounted c.args.tokens.now c.loop.counter c.loop-test.false) c.loop.invariant
