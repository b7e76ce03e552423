-- What a race answers, as what was written of it.
use Rattle.std.proofs.Common.{◌≡◌, ℕ, List, Bool, Option, None, length, refl, inl, inr, true, false}
use Rattle.std.specs.Io.KnownBytes.{Appends}
use Rattle.cheri_model.specs.runs.Image.{ImageParts}
use Rattle.cheri_model.specs.runs.Replay.{IsReplay}
use Rattle.reports.specs.Report.{report}
use Rattle.sinks.specs.Sinks.{TakesPrefix}
use Rattle.sinks.specs.declared.fault.WriteFault.{WriteFault}
use Rattle.sinks.specs.declared.fault.WriteFault.TheVariants as written
use Rattle.cores.specs.Cores.{CoreParts}
use Rattle.harts.specs.declared.faults.RunFault.{RunFault}
use Rattle.harts.specs.declared.faults.RunFault.TheVariants as race
use Rattle.harts.specs.declared.workers.HartReport.{HartReport}
use Rattle.harts.specs.Reports.{AreReports}
use Rattle.printing.specs.Endings.{HasWhole}
use Rattle.program_io.specs.Faults.{written_fault}
use Rattle.sim_program.specs.declared.ended.Ended.{Ended}
use Rattle.sim_program.specs.declared.ended.Ended.TheVariants as ended
use Rattle.sim_program.specs.Faults.{race_fault}
use Rattle.sim_program.specs.Endings.{Fails, stop_of}
use Rattle.sim_program.specs.Races.{HasLooks, IsRace, IsRaceAnswer}

-- a race that has no result
pub race_unrun : (image : ImageParts) (turns : ℕ) (refused : RunFault) (old : Option (List ℕ)) →
    Fails (IsRaceAnswer image turns) true (race_fault refused) old old
race_unrun image turns (race.Boot fault) old = inl refl
race_unrun image turns race.NoMemory old = inl refl
race_unrun image turns race.Spawn old = (tt, refl)
race_unrun image turns race.ImageDiffers old = (tt, refl)

-- the text of a race
pub race_of : (image : ImageParts) (turns : ℕ) (core : CoreParts) (reports : List HartReport) → core.image ≡ image
    → IsReplay core.image core.trace core.state → AreReports turns core.trace (length image.harts) reports
    → IsRace image turns (report core.image core.trace core.state)
race_of image turns core reports same replay are = record {
  core = core;
  reports = reports;
  image_is = same;
  replay = replay;
  reports_are = are;
  text_is = refl;
}

-- a race of which a viewer told its looks, or nobody looked on, stopped nowhere
race_stop : (watch : Bool) (end : Ended) → HasLooks watch end → stop_of end ≡ None
race_stop true (ended.Watched looks) is = refl
race_stop true ended.Done is = absurd is
race_stop true (ended.Stopped place fault) is = absurd is
race_stop false ended.Done is = refl
race_stop false (ended.Watched looks) is = absurd is
race_stop false (ended.Stopped place fault) is = absurd is

-- its report was written
pub race_written : (image : ImageParts) (turns : ℕ) (watch : Bool) (end : Ended) (text : List ℕ) (old new : Option (List ℕ))
    → IsRace image turns text → HasLooks watch end → Appends old new text → HasWhole (IsRaceAnswer image turns) (stop_of end) old new
race_written image turns watch end text old new shown looks grown =
    rw (race_stop watch end looks) (text, (refl, shown), grown)

-- or was not
pub race_unwritten : (image : ImageParts) (turns : ℕ) (text : List ℕ) (refused : WriteFault) (old new : Option (List ℕ))
    → IsRace image turns text → TakesPrefix old new text → Fails (IsRaceAnswer image turns) true (written_fault refused) old new
race_unwritten image turns text written.Write old new shown begun = (text, None, (refl, shown), begun)
race_unwritten image turns text written.NoMemory old new shown begun = inr (refl, (text, None, (refl, shown), begun))

pub ruleset races = (race_unrun, race_of)
