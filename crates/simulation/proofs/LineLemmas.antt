-- A text, and then the end of its line.
use Rattle.std.proofs.Common.{◌≡◌, refl, ℕ, List, [], ◌∷◌, Option}
use Rattle.std.specs.Io.KnownBytes.{Appends}
use Rattle.std.proofs.KnownBytes.{Appends-trans}
use Rattle.report_lines.specs.Texts.{line}
use Rattle.sinks.proofs.SinkLemmas.{begins_on, stops_on, puts_all}
use Rattle.sinks.specs.Sinks.{TakesPrefix}

pub line_printed : (old now new : Option (List ℕ)) (text : List ℕ) → Appends old now text → Appends now new (10 ∷ []) → Appends old new (line text)
line_printed old now new text grown more = Appends-trans old now new text (10 ∷ []) grown more

pub line_begins : (old new : Option (List ℕ)) (text : List ℕ) → TakesPrefix old new text → TakesPrefix old new (line text)
line_begins old new text begun = begins_on old new text (10 ∷ []) begun

pub line_stops : (old now new : Option (List ℕ)) (text : List ℕ) → Appends old now text → TakesPrefix now new (10 ∷ []) →
    TakesPrefix old new (line text)
line_stops old now new text grown stop = stops_on old now new [] text (10 ∷ []) (puts_all old now [] text text refl refl grown) stop
