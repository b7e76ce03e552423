-- What the answer was, flushed and reported.
use Rattle.std.proofs.Common.{◌≢◌, rules, subst, false}
use Rattle.asm_line.specs.Requests.{asm_asked}
use Rattle.program_io.proofs.EndingLemmas.{flushed_fails}
use Rattle.asm_program.specs.Faults.{own_failure}
use Rattle.asm_program.specs.Program.{FailsWith, IsAnswer, command_line}
use Rattle.asm_program.proofs.ProgramLemmas.{failed}
use Rattle.asm_program.proofs.program.perform.Goals as goal

pub returns-clause-failed : goal.returns-clause-failed
returns-clause-failed g c =
    let files = g.F.Files.bytes_of c.args.files.now in
    let request = asm_asked (command_line c.args.args.now) in
    let answered = rw c.new-sink.ensures.writer at c.answer-answered.ensures.printed in
    let refused = rw c.new-sink.ensures.writer at c.answer-answered.ensures.failed in
    let so = failed c.conclude.result _ _ files request _ _ c.finish-ended.result c.conclude.ensures
    (flushed_fails (λ end. end) own_failure false (IsAnswer files request) _ _ _ c.answer-answered.result c.finish-ended.result
    c.finish-ended.ensures.flushed answered refused) in
    subst (λ w. c.conclude.result ≢ 0 → FailsWith files request c.conclude.result (g.O.Write.contents c.args.out.now)
    (g.O.Write.contents w) (g.E.Write.contents c.args.err.now) (g.E.Write.contents c.conclude.new.err)) (search rules) so
