use Rattle.std.proofs.Common.{sym, ◌∙◌, ap}
use Rattle.seen_order.proofs.StepsTaken.{adds_moves}
use Rattle.seen_order.proofs.keeper.Keeper.add.Goals as goal

pub compare_exchange-requires : goal.compare_exchange-requires
compare_exchange-requires g c =
    let inv = c.self.invariant in
    let h = inv.0 in
    let offer = c.plain-offer.ensures in
    let pen = c.replace-written.ensures.value in (
      ap (λ w. w.tracked) h,
      inv.1 ∙ sym (ap (λ w. w.book) h),
      ap (λ p. p.book) pen ∙ (inv.2 ∙ sym (ap (λ w. w.book) h)),
      offer.0,
      rw (ap (λ w. w.key) h) (adds_moves c.self.inside.seen.log c.replace-written.result.nib c.plain-offer.result.state c.plain-offer.result.ask
          (ap (λ p. p.nib.right) pen ∙ inv.3) (ap (λ l. l.pen) offer.1)),
    )
