-- The share that is drawn counts its hart's entries, and so does its ledger, which was empty.
use Rattle.std.proofs.Common.{◌≡◌, ◌+◌, ap, ◌∙◌, arith}
use Rattle.std.specs.Prelude.{slice_index, slice_set}
use Rattle.cheri_model.specs.runs.Replay.{step_count}
use Rattle.shared_machine.specs.Shares.{ShareParts}
use Rattle.shared_machine.proofs.machines.draw_share.Goals as goal

pub returns-clause-share : goal.returns-clause-share
returns-clause-share g c =
    let drawn = c.draw-share.ensures.share in
    let none = ap (λ (s : ShareParts). s.amount) drawn in
    let amount : c.draw-share.result.amount + c.step_count.result ≡ step_count c.args.events.now c.args.hart =
    omega (arith, none, c.step_count.ensures) in
    c.add.ensures.share ∙ (λ i. record { hart = (drawn i).hart; amount = amount i })

pub returns-clause-books : goal.returns-clause-books
returns-clause-books g c =
    let books = c.args.books.now in
    let hart = ap (λ (s : ShareParts). s.hart) c.draw-share.ensures.share in
    let count : slice_index books c.args.hart + c.step_count.result ≡ step_count c.args.events.now c.args.hart =
    omega (arith, c.requires.fresh, c.step_count.ensures) in
    c.add.ensures.books
    ∙ (ap (λ h. slice_set books h (slice_index books h + c.step_count.result)) hart ∙ ap (λ n. slice_set books c.args.hart n) count)
