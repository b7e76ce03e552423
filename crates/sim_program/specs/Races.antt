-- The race of a listing's harts, and what is printed of it.
use Rattle.std.specs.Prelude.{◌≡◌, ℕ, ◌≤◌, List, ◌++◌, codes, decimal, length, Option, None}
use Rattle.std.specs.Prelude.{Ok, Err, ⊤, Bool, true, false}
use Rattle.cheri_model.specs.runs.Image.{ImageParts}
use Rattle.cheri_model.specs.runs.Replay.{IsReplay}
use Rattle.report_lines.specs.Texts.{line}
use Rattle.reports.specs.Report.{report}
use Rattle.sinks.specs.Sinks.{TakesPrefix}
use Rattle.cores.specs.Cores.{CoreParts}
use Rattle.harts.specs.declared.workers.HartReport.{HartReport}
use Rattle.harts.specs.Reports.{AreReports}
use Rattle.program_io.specs.declared.fault.Fault.TheVariants.{Own}
use Rattle.sim_program.specs.declared.faults.OwnFault.TheVariants.{CannotStart, ImageDiffers}
use Rattle.sim_program.specs.declared.races.TheConstants.{LOOKS}
use Rattle.sim_program.specs.Endings.{Answer}
use Rattle.sim_program.specs.declared.ended.Ended.{Ended}
use Rattle.sim_program.specs.declared.ended.Ended.TheVariants as ended

-- A text shows a race of an image: it is the report of a machine that began as the image, and whose
-- state is the replay of its trace, in which each hart's steps are those that its worker reported,
-- and at most these turns.
pub record IsRace (image : ImageParts) (turns : ℕ) (text : List ℕ) : Type 0 where
  pub core : CoreParts
  pub reports : List HartReport
  pub image_is : core.image ≡ image
  pub replay : IsReplay core.image core.trace core.state
  pub reports_are : AreReports turns core.trace (length image.harts) reports
  pub text_is : text ≡ report core.image core.trace core.state

-- what standard error says of a watched race
abbrev pub looks_text : ℕ → List ℕ
looks_text looks = codes "watch looks=" ++ decimal looks

-- Standard error got the line of a watched race, or a prefix of it: so many looks showed the
-- machine, of those that the viewer took.
pub record TellsLooks (old new : Option (List ℕ)) : Type 0 where
  pub looks : ℕ
  pub most : looks ≤ LOOKS
  pub told : TakesPrefix old new (line (looks_text looks))

-- what the viewer of a watched race tells, and that of any other does not
abbrev pub HasLooks : Bool → Ended → Type 0
HasLooks true (ended.Watched looks) = looks ≤ LOOKS
HasLooks true _ = ⊥
HasLooks false ended.Done = ⊤
HasLooks false _ = ⊥

-- The answers to a race of an image: its report. A worker may not start; and only tests show that a
-- race leaves the image that it was given.
abbrev pub IsRaceAnswer : ImageParts → ℕ → Answer → Type 0
IsRaceAnswer image turns (Ok shown) = (shown.1 ≡ None) × IsRace image turns shown.0
IsRaceAnswer image turns (Err (Own CannotStart)) = ⊤
IsRaceAnswer image turns (Err (Own ImageDiffers)) = ⊤
IsRaceAnswer image turns (Err _) = ⊥
