-- What the answer was, flushed and reported.
use Rattle.std.proofs.Common.{◌≢◌, rules, subst}
use Rattle.command_line.specs.Requests.{asked}
use Rattle.program_io.proofs.EndingLemmas.{flushed_fails, flushed_so, flushed_whole}
use Rattle.sim_program.specs.Endings.{stop_of}
use Rattle.sim_program.specs.Faults.{own_failure}
use Rattle.sim_program.specs.Program.{FailsWith, IsAnswer, IsEndOf, command_line, is_in_pieces}
use Rattle.sim_program.proofs.ProgramLemmas.{failed, stderr}
use Rattle.sim_program.proofs.program.perform.Goals as goal

pub returns-clause-stderr : goal.returns-clause-stderr
returns-clause-stderr g c =
    let request = asked (command_line c.args.args.now) in
    stderr c.conclude.result _ _ request c.finish-ended.result c.conclude.ensures
    (flushed_so (IsEndOf request) c.answer-answered.result c.finish-ended.result _ _ c.finish-ended.ensures.flushed c.answer-answered.ensures.end)

pub returns-clause-failed : goal.returns-clause-failed
returns-clause-failed g c =
    let files = g.F.Files.bytes_of c.args.files.now in
    let request = asked (command_line c.args.args.now) in
    let answered = rw c.new-sink.ensures.writer at c.answer-answered.ensures.written in
    let refused = rw c.new-sink.ensures.writer at c.answer-answered.ensures.failed in
    let so = failed c.conclude.result _ _ files request _ _ c.finish-ended.result c.conclude.ensures
    (flushed_whole stop_of own_failure (is_in_pieces request) (IsAnswer files request) _ _ _ c.answer-answered.result c.finish-ended.result
    c.finish-ended.ensures.flushed answered)
    (flushed_fails stop_of own_failure (is_in_pieces request) (IsAnswer files request) _ _ _ c.answer-answered.result c.finish-ended.result
    c.finish-ended.ensures.flushed answered refused) in
    subst (λ w. c.conclude.result ≢ 0 → FailsWith files request c.conclude.result (g.O.Write.contents c.args.out.now)
    (g.O.Write.contents w) (g.E.Write.contents c.args.err.now) (g.E.Write.contents c.conclude.new.err)) (search rules) so
