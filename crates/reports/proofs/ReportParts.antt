-- A report in parts, as a sink takes them.
use Rattle.std.proofs.Common.{◌≡◌, ℕ, List, ◌++◌, Option, codes, append_assoc}
use Rattle.std.specs.Io.KnownBytes.{Appends}
use Rattle.cheri_model.specs.declared.operation.Event.{Event}
use Rattle.cheri_model.specs.runs.Image.{ImageParts}
use Rattle.cheri_model.specs.runs.Machine.{MachineState}
use Rattle.report_lines.specs.Texts.{line}
use Rattle.reports.specs.Report.{report, head_lines, shown_lines}
use Rattle.sinks.specs.Sinks.{TakesAllBut, TakesPrefix}
use Rattle.sinks.proofs.SinkLemmas.{stops_on, begins_on, takes_to_end}

-- a report is the lines before the first event, those that show the trace and the state, and the last one
pub report_parts : (image : ImageParts) (events : List Event) (state : MachineState)
    → report image events state ≡ head_lines image events ++ (shown_lines events state ++ line (codes "end"))
unfolding report head_lines shown_lines
report_parts image events state = simp append_assoc

-- three parts after what is kept
pub three_parts : (kept first second third : List ℕ)
    → ((kept ++ first) ++ second) ++ third ≡ kept ++ (first ++ (second ++ third))
three_parts kept first second third = simp append_assoc

-- a report of which a prefix was put up to its last line
pub report_begins : (image : ImageParts) (events : List Event) (state : MachineState) (before now : Option (List ℕ)) (head : List ℕ)
    → head ≡ head_lines image events → TakesPrefix before now (head ++ shown_lines events state)
    → TakesPrefix before now (report image events state)
report_begins image events state before now head same begun =
    rw (report_parts, ← append_assoc, ← same) (begins_on before now (head ++ shown_lines events state) (line (codes "end")) begun)

-- the same, where the last line was put too, and failed
pub report_stops : (image : ImageParts) (events : List Event) (state : MachineState) (before now after : Option (List ℕ))
    (head kept last : List ℕ)
    → head ≡ head_lines image events → TakesAllBut before now kept (head ++ shown_lines events state)
    → last ≡ kept ++ line (codes "end") → TakesPrefix now after last
    → TakesPrefix before after (report image events state)
report_stops image events state before now after head kept last same so_far written stop =
    rw (report_parts, ← append_assoc, ← same)
    (stops_on before now after kept (head ++ shown_lines events state) (line (codes "end")) so_far (rw written at stop))

-- the same, where it was taken
pub report_ends : (image : ImageParts) (events : List Event) (state : MachineState) (before now after : Option (List ℕ))
    (head kept last : List ℕ)
    → head ≡ head_lines image events → TakesAllBut before now kept (head ++ shown_lines events state)
    → last ≡ kept ++ line (codes "end") → Appends now after last
    → Appends before after (report image events state)
report_ends image events state before now after head kept last same so_far written put =
    rw (report_parts, ← append_assoc, ← same)
    (takes_to_end before now after kept (head ++ shown_lines events state) (line (codes "end")) so_far (rw written at put))
