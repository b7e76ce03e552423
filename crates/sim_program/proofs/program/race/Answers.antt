use Rattle.std.proofs.Common.{true}
use Rattle.program_io.proofs.EndingLemmas.{all_fail, all_whole}
use Rattle.sim_program.specs.Endings.{stop_of}
use Rattle.sim_program.specs.Faults.{own_failure}
use Rattle.sim_program.proofs.ProgramLemmas.{races_image}
use Rattle.sim_program.proofs.program.race.Goals as goal

pub returns-clause-written : goal.returns-clause-written
returns-clause-written g c =
    all_whole stop_of own_failure true _ _
    (races_image (g.F.Files.bytes_of c.args.files.now) c.args.asked.listing.now c.args.asked.turns c.args.asked.watch
    c.in_ok-image.image c.in_ok-image.ensures.meaning) _ _ c.write_race.result c.write_race.ensures.written

pub returns-clause-failed : goal.returns-clause-failed
returns-clause-failed g c =
    all_fail stop_of own_failure true _ _
    (races_image (g.F.Files.bytes_of c.args.files.now) c.args.asked.listing.now c.args.asked.turns c.args.asked.watch
    c.in_ok-image.image c.in_ok-image.ensures.meaning) _ _ c.write_race.result c.write_race.ensures.failed
