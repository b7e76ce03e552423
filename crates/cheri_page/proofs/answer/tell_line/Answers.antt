use Rattle.std.proofs.Common.{arith, length}
use Rattle.cheri_page.specs.Answers.{Told}
use Rattle.cheri_page.proofs.AnswerLemmas.{out_kept, answer_kept, out_written, answer_written}
use Rattle.cheri_page.proofs.answer.tell_line.Goals as goal

pub returns-then-text-out-clause-out : goal.returns-then-text-out-clause-out
returns-then-text-out-clause-out c =
    let told : Told = record { text = c.args.text.now; fault = c.args.fault } in
    out_kept c.args.out.now told (omega arith)

pub returns-then-text-out-clause-answer : goal.returns-then-text-out-clause-answer
returns-then-text-out-clause-answer c =
    let told : Told = record { text = c.args.text.now; fault = c.args.fault } in
    answer_kept (length c.args.out.now) told (omega arith)

pub returns-clause-out : goal.returns-clause-out
returns-clause-out c =
    let told : Told = record { text = c.args.text.now; fault = c.args.fault } in
    out_written c.args.out.now c.write_both-said.new.out c.args.line.now told c.write_both-said.result (omega arith) c.requires
    c.write_both-said.ensures.said c.write_both-said.ensures.out

pub returns-clause-answer : goal.returns-clause-answer
returns-clause-answer c =
    let told : Told = record { text = c.args.text.now; fault = c.args.fault } in
    answer_written (length c.args.out.now) c.args.line.now told c.write_both-said.result c.answer_of.result (omega arith) c.requires
    c.write_both-said.ensures.said c.answer_of.ensures
