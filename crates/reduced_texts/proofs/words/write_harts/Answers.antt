use Rattle.std.proofs.Common.{refl, arith}
use Rattle.std.proofs.lemmas.Bool.{ne_eqb}
use Rattle.reduced_texts.proofs.WordLemmas.{hart_written, hart_skipped, harts_end}
use Rattle.reduced_texts.proofs.words.write_harts.Goals as goal

pub loop-hart-preserved : goal.loop-hart-preserved
loop-hart-preserved c = elim c.if-of-group.branch [
  | goal.then-of-group+in_ok-write_comma+in_ok-write w ↦
      rw (w.out-is, w.later-is)
      (hart_written c.args.group c.loop-hart.later c.args.groups.now c.loop-hart.hart-counter 0 _ _ _ _ _ (omega arith) refl w.if-of-group.true
      w.in_ok-write_comma.ensures w.in_ok-write.ensures.bytes c.loop-hart.invariant)
  | goal.else-of-group w ↦
      rw (w.out-is, w.later-is)
      (hart_skipped c.args.group c.loop-hart.later c.args.groups.now c.loop-hart.hart-counter 0 _ _ _ (omega arith) refl (ne_eqb _ _ w.if-of-group.false)
      c.loop-hart.invariant)
]

pub returns : goal.returns
returns c = harts_end c.args.group c.loop-hart.later c.args.groups.now c.loop-hart.hart-counter _ _ (omega arith) c.loop-hart.invariant
