use Rattle.std.proofs.Common.{◌<◌, ◌≤◌, length, arith, ap, ◌∙◌, refl}
use Rattle.std.proofs.lemmas.Option.{slice_get_read}
use Rattle.interner.specs.Rows.{Rows}
use Rattle.graph_nodes.proofs.FoundLemmas.{going_target, going_step, going_end}
use Rattle.graph_nodes.proofs.StageLemmas.{batch_agree, batch_going}
use Rattle.graph_nodes.proofs.joining.Batch.finish.Goals as goal

pub loop-k-init : goal.loop-k-init
loop-k-init g c = record {
  ending = c.len-k-end.ensures ∙ c.args.self.sent.ok.0;
  whole = batch_agree g.C.Crew.is_of c.args.self c.requires.begun.0 c.requires.begun.1 c.in_ok-tasks.tasks.items
      c.requires.begun.2 c.in_ok-tasks.ensures;
  going = λ nodes targets batch. rw c.new-fresh.ensures.items
      (batch_going g.C.Crew.is_of c.args.self nodes targets _ refl refl batch c.in_ok-tasks.ensures);
}

pub join_one-requires-clause-there : goal.join_one-requires-clause-there
join_one-requires-clause-there g c =
    let sents = c.args.self.sent.items in
    let below : c.loop-k.k < length sents = omega (arith, c.loop-k-test.true, c.loop-k.invariant.ending) in
    let at = slice_get_read sents (length sents) c.loop-k.k c.index.result.now refl below c.index.ensures in
    going_target sents c.requires.begun.1 c.requires.begun.0 c.loop-k.parted c.loop-k.fresh.items c.loop-k.k
    c.index.result.now
    (c.loop-k.invariant.going c.requires.begun.0 c.requires.begun.1 c.requires.begun.2) at

pub loop-k-preserved : goal.loop-k-preserved
loop-k-preserved g c =
    let sents = c.args.self.sent.items in
    let below : c.loop-k.k < length sents = omega (arith, c.loop-k-test.true, c.loop-k.invariant.ending) in
    let at = slice_get_read sents (length sents) c.loop-k.k c.index.result.now refl below c.index.ensures in
    record {
      ending = c.loop-k.invariant.ending;
      whole = c.in_ok-new.ensures.whole;
      going = λ nodes targets batch.
          going_step sents targets nodes c.loop-k.parted c.join_one.new.self c.loop-k.fresh.items c.push.new.self.items
          c.loop-k.k c.index.result.now c.in_ok-new.new (c.loop-k.invariant.going nodes targets batch) at
          c.in_ok-new.ensures.same_width c.in_ok-new.ensures.others c.in_ok-new.ensures.joined
          c.in_ok-push.ensures.items;
    }

pub returns-clause-joined : goal.returns-clause-joined
returns-clause-joined g c = λ nodes targets batch.
    let sents = c.args.self.sent.items in
    let past : length sents ≤ c.loop-k.k = omega (arith, c.loop-k-test.false, c.loop-k.invariant.ending) in
    rw c.from_parts.ensures (going_end sents targets nodes c.loop-k.parted c.loop-k.fresh.items c.loop-k.k
    (c.loop-k.invariant.going nodes targets batch) past)

pub returns-clause-width : goal.returns-clause-width
returns-clause-width g c = λ nodes targets batch.
    ap (λ (r : Rows). r.width) c.from_parts.ensures ∙ (c.loop-k.invariant.going nodes targets batch).width
