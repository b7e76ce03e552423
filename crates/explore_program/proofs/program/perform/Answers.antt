-- What the answer was, flushed and reported.
use Rattle.std.proofs.Common.{false, rules, subst}
use Rattle.explore_line.specs.Requests.{explore_asked}
use Rattle.program_io.proofs.EndingLemmas.{flushed_fails, flushed_whole}
use Rattle.explore_program.specs.Faults.{own_failure}
use Rattle.explore_program.specs.Program.{Ends, IsAnswer, command_line}
use Rattle.explore_program.proofs.ProgramLemmas.{ends}
use Rattle.explore_program.proofs.program.perform.Goals as goal

pub returns : goal.returns
returns g c =
    let files = g.F.Files.bytes_of c.args.files.now in
    let request = explore_asked (command_line c.args.args.now) in
    let answered = rw c.new-sink.ensures.writer at c.answer-answered.ensures.printed in
    let refused = rw c.new-sink.ensures.writer at c.answer-answered.ensures.failed in
    let so = ends c.args.terminal files request c.conclude.result (g.O.Write.contents c.args.out.now) _ (g.E.Write.contents c.args.err.now) _
    (g.E.Write.contents c.conclude.new.err) c.answer-answered.ensures.silent c.finish-ended.result c.conclude.ensures
    (flushed_whole (λ ending. ending) own_failure false (IsAnswer files request) _ _ _ c.answer-answered.result c.finish-ended.result
    c.finish-ended.ensures.flushed answered)
    (flushed_fails (λ ending. ending) own_failure false (IsAnswer files request) _ _ _ c.answer-answered.result c.finish-ended.result
    c.finish-ended.ensures.flushed answered refused) in
    subst (λ w. Ends c.args.terminal files request c.conclude.result (g.O.Write.contents c.args.out.now) (g.O.Write.contents w)
    (g.E.Write.contents c.args.err.now) (g.E.Write.contents c.conclude.new.err)) (search rules) so
