use Rattle.std.proofs.Common.{true}
use Rattle.program_io.proofs.EndingLemmas.{all_fail, all_whole}
use Rattle.sim_program.specs.Endings.{stop_of}
use Rattle.sim_program.specs.Faults.{own_failure}
use Rattle.sim_program.proofs.ProgramLemmas.{runs_files}
use Rattle.sim_program.proofs.program.run.Goals as goal

pub returns-clause-written : goal.returns-clause-written
returns-clause-written g c =
    all_whole stop_of own_failure true _ _
    (runs_files (g.F.Files.bytes_of c.args.files.now) c.args.listing.now c.args.order.now c.args.form c.as_slice.result.now
    c.as_slice-2.result.now (rw c.as_slice.ensures.value c.in_ok-texts.ensures.listing)
    (rw c.as_slice-2.ensures.value c.in_ok-texts.ensures.order)) _ _ c.write_run.result c.write_run.ensures.written

pub returns-clause-failed : goal.returns-clause-failed
returns-clause-failed g c =
    all_fail stop_of own_failure true _ _
    (runs_files (g.F.Files.bytes_of c.args.files.now) c.args.listing.now c.args.order.now c.args.form c.as_slice.result.now
    c.as_slice-2.result.now (rw c.as_slice.ensures.value c.in_ok-texts.ensures.listing)
    (rw c.as_slice-2.ensures.value c.in_ok-texts.ensures.order)) _ _ c.write_run.result c.write_run.ensures.failed
