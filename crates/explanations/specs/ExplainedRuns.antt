-- The explanation of the run of two texts.
use Rattle.std.specs.Prelude.{ℕ, List, Option, None}
use Rattle.cheri_model.specs.runs.Replay.{operations_of}
use Rattle.cores.specs.Cores.{CoreParts}
use Rattle.cores.specs.Runs.{Run}
use Rattle.explanations.specs.declared.runs.Format.{Format}
use Rattle.explanations.specs.declared.runs.Format.TheVariants.{Text, Json}
use Rattle.explanations.specs.declared.selection.Selection.{Selection}
use Rattle.explanations.specs.InstructionLines.{LineParts, mapped_lines}
use Rattle.explanations.specs.Explanation.{explanation, explanation_json}

-- what is said of what a core took, whose instructions are on these lines
unfoldable pub explained_core : Format → LineParts → Selection → CoreParts → List ℕ
explained_core Text lines selection core =
    explanation core.image lines selection (operations_of core.trace)
explained_core Json lines selection core =
    explanation_json core.image lines selection (operations_of core.trace)

-- of a run of a listing, of whose instructions a map says what they come from, if there is one: its
-- core took the longest good prefix of the order
abbrev pub mapped : Format → Option (List (List ℕ)) → List ℕ → Selection → Run → List ℕ
mapped format sources listing selection run =
    explained_core format (mapped_lines sources listing) selection run.0

-- of a listing alone
abbrev pub explained : Format → List ℕ → Selection → Run → List ℕ
explained format listing selection run = mapped format None listing selection run
