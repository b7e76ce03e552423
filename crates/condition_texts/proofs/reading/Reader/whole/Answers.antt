use Rattle.std.proofs.Common.{arith}
use Rattle.std.proofs.lemmas.Result.{err_from_is_err_and}
use Rattle.condition_texts.specs.Reading.{context_of}
use Rattle.condition_texts.proofs.NestingLemmas.{whole_fails, whole_left, whole_given, ends_before, ends_there}
use Rattle.condition_texts.proofs.reading.Reader.whole.Goals as goal

pub returns-in_err-end : goal.returns-in_err-end
returns-in_err-end c =
    let p = err_from_is_err_and c.from_residual.result c.from_residual.ensures.1 in
    rw (p.1, p.2) (whole_fails (context_of c.args.self.now) _ _ _ c.in_err-end.ensures.read)

pub returns-then-end-self : goal.returns-then-end-self
returns-then-end-self c =
    whole_left (context_of c.args.self.now) c.in_ok-end.end _ _ c.in_ok-end.ensures.read
    (ends_before c.args.self.now.words.now c.in_ok-end.end c.if-end-self.true)

pub returns : goal.returns
returns c =
    whole_given (context_of c.args.self.now) c.in_ok-end.end _ _ c.new-nodes.ensures.items c.in_ok-end.ensures.read
    (ends_there c.args.self.now.words.now c.in_ok-end.end c.in_ok-end.ensures.room.1 (omega (arith, c.if-end-self.false)))
