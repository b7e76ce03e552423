-- The facts of an operation that a core takes next, and of one that it took.
use Rattle.std.specs.Prelude.{List}
use Rattle.cheri_model.specs.declared.operation.Event.{Event}
use Rattle.cheri_model.specs.declared.operation.Event.TheVariants as event
use Rattle.cheri_model.specs.declared.operation.Op.{Op}
use Rattle.cheri_model.specs.runs.Replay.{operations_of}
use Rattle.origins.specs.declared.place.Place.{Place}
use Rattle.origins.specs.Origins.{replayed_origins}
use Rattle.facts.specs.declared.step_facts.StepFacts.{StepFacts}
use Rattle.facts.specs.EventFacts.{EventFacts, step, sweep, facts_of}
use Rattle.cores.specs.Cores.{CoreParts}
use Rattle.explanations.specs.declared.followed.EventAndFacts.{EventAndFacts}
use Rattle.explanations.specs.Explanation.{Explained}

abbrev pub next_facts : CoreParts → Op → EventFacts
next_facts core op =
    facts_of core.image core.state (replayed_origins core.image (operations_of core.trace)) op

-- of a step its facts, and of a sweep the places that it cleared
abbrev pub facts_taken : Event → StepFacts → List Place → EventFacts
facts_taken (event.Step entry) facts places = step facts
facts_taken (event.Sweep cleared lo hi) facts places = sweep places

abbrev pub explained_of : EventAndFacts → Explained
explained_of taken =
    (taken.event.now, facts_taken taken.event.now taken.facts.now taken.places.items)
