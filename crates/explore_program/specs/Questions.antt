-- What is answered to each question, of the image of a listing.
use Rattle.std.specs.Prelude.{◌≡◌, ℕ, Bool, true, false, List}
use Rattle.std.specs.Prelude.{◌++◌, map, Option, Result, Ok, Err, Some, None}
use Rattle.alike_outcomes.specs.AlikeOutcomes.{IsAlikeListed, IsAlikeShown}
use Rattle.alike_authority.specs.AlikeAuthority.{IsAlikeAuthority}
use Rattle.cheri_model.specs.declared.operation.Op.{Op}
use Rattle.cheri_model.specs.runs.Image.{ImageParts}
use Rattle.explained_orders.specs.ExplainedOrders.{explained_orders}
use Rattle.explore_line.specs.Requests.{AskedQuestion, Alike, Find, Outcomes, Authority, Check}
use Rattle.explore_properties.specs.Properties.{PropertiesParts}
use Rattle.explore_properties.specs.Reading.{properties_of}
use Rattle.explore_sweeps.specs.declared.Sweep.{Sweep}
use Rattle.command_line.specs.declared.found.Format as found
use Rattle.command_line.specs.declared.found.Format.TheVariants as forms
use Rattle.condition_texts.specs.Conditions.{condition_of}
use Rattle.condition_texts.specs.declared.fault.TextFault.TheVariants.{Condition, Place}
use Rattle.condition_texts.specs.Items.{items_of}
use Rattle.grammar.specs.Labels.{LabelParts}
use Rattle.listing_maps.specs.Names.{named}
use Rattle.forgotten_checks.specs.StateChecks.{IsCheckStatesAnswer}
use Rattle.forgotten_outcomes.specs.ShownStates.{IsShownStatesAnswer}
use Rattle.found_texts.specs.Reduced.{IsStateAnswer}
use Rattle.outcome_texts.specs.Answers.{IsListedAnswer}
use Rattle.printing.specs.Endings.{Answer}
use Rattle.reductions.specs.declared.reduction.Keeps.{Keeps}
use Rattle.schedules.specs.declared.ranges.SweepRange.{SweepRange}
use Rattle.shown_states.specs.declared.form.Ending.{Ending}
use Rattle.shown_states.specs.declared.form.Format.{Format}
use Rattle.shown_states.specs.declared.form.Format.TheVariants.{Text, Json}
use Rattle.states.specs.Searches.{SearchParts}
use Rattle.explore_program.specs.Faults.{Fault, property_fault, text_fault}
use Rattle.explore_program.specs.Listings.{ListedParts}

abbrev pub format_of : found.Format → Format
format_of forms.Text = Text
format_of forms.Json = Json

-- the range of a sweep
abbrev pub range_of : Sweep → SweepRange
range_of sweep = record { lo = sweep.lo; hi = sweep.hi }

-- a text that answers a question, and how it ends
abbrev pub IsSaid : (List ℕ → Ending → Type 0) → Answer Ending Fault → Type 0
IsSaid answers (Ok (text, ending)) = answers text ending
IsSaid answers (Err fault) = ⊥

-- the same of a question that a text writes, or that text's fault
abbrev pub IsSaidOf : {X E : Type 0} → (E → Fault) → (X → List ℕ → Ending → Type 0) → Result X E
    → Answer Ending Fault → Type 0
IsSaidOf fault answers (Ok x) answer = IsSaid (answers x) answer
IsSaidOf fault answers (Err e) answer = answer ≡ Err (fault e)

-- an answer, and where this is asked for, after it the orders that it tells of, explained: those of
-- the listing that has this text, this map and this image
abbrev pub explained_text : Bool → ListedParts → ImageParts → List (List Op) → List ℕ → List ℕ
explained_text false listed image orders told = told
explained_text true listed image orders told =
    told ++ explained_orders listed.text listed.sources image orders

pub record IsExplained (explained : Bool) (listed : ListedParts) (image : ImageParts)
    (answers : List (List Op) → List ℕ → Ending → Type 0) (said : List ℕ) (ending : Ending)
    : Type 0 where
  pub orders : List (List Op)
  pub told : List ℕ
  pub answer : answers orders told ending
  pub said_is : said ≡ explained_text explained listed image orders told

-- `find`, with the condition that a text writes beside a listing with this text, this map and these
-- labels: the map's symbols are labels, too. States are told apart by all that is kept, or by what
-- matters.
abbrev pub IsFindSaid : LabelParts → ListedParts → SearchParts → Format → Bool → Keeps → List ℕ
    → Answer Ending Fault → Type 0
IsFindSaid labels listed search format explained keeps condition answer =
    IsSaidOf (λ byte. text_fault (Condition byte))
    (λ nodes. IsExplained explained listed search.image (IsStateAnswer keeps search nodes format))
    (condition_of (named labels listed.sources) search.image condition) answer

-- `outcomes`, with the items that a text writes
abbrev pub IsShownSaid : SearchParts → Format → Bool → List ℕ → Answer Ending Fault → Type 0
IsShownSaid search format keeps items answer =
    IsSaidOf (λ byte. text_fault (Place byte))
    (λ list. IsShownStatesAnswer keeps search list format) (items_of search.image items) answer

-- `outcomes` up to which of several equal harts stands where, with the items that a text writes, and
-- with or without items
abbrev pub IsAlikeShownSaid : SearchParts → Format → Keeps → List ℕ → Answer Ending Fault → Type 0
IsAlikeShownSaid search format keeps items answer =
    IsSaidOf (λ byte. text_fault (Place byte)) (λ list. IsAlikeShown keeps search list format)
    (items_of search.image items) answer

abbrev pub IsAlikeSaid : SearchParts → Format → Keeps → Option (List ℕ) → Answer Ending Fault
    → Type 0
IsAlikeSaid search format keeps None answer = IsSaid (IsAlikeListed keeps.harts search format) answer
IsAlikeSaid search format keeps (Some items) answer =
    IsAlikeShownSaid search format keeps items answer

-- the search with the sweeps that a listing allows
abbrev pub swept_by : SearchParts → PropertiesParts → SearchParts
swept_by search read = record search { sweeps = map range_of read.sweeps }

-- `check`, of the listing that has this text, this map and these labels
abbrev pub IsCheckSaid : LabelParts → ListedParts → SearchParts → Format → Bool → Keeps
    → Answer Ending Fault → Type 0
IsCheckSaid labels listed search format explained keeps answer =
    IsSaidOf property_fault
    (λ read. IsExplained explained listed search.image
    (IsCheckStatesAnswer keeps (swept_by search read) read.properties format))
    (properties_of (named labels listed.sources) search.image listed.text) answer

-- the answers to a question of the command line, about the listing that has this text, this map and
-- these labels, of which those to `find` and `check` may have their orders explained; states are
-- told apart by all that is kept, or by what matters
abbrev pub IsSaidTo : AskedQuestion → LabelParts → ListedParts → SearchParts → Format → Bool → Keeps
    → Answer Ending Fault → Type 0
IsSaidTo (Find condition) labels listed search format explained keeps answer =
    IsFindSaid labels listed search format explained keeps condition answer
IsSaidTo (Outcomes None) labels listed search format explained keeps answer =
    IsSaid (IsListedAnswer search format) answer
IsSaidTo (Outcomes (Some items)) labels listed search format explained keeps answer =
    IsShownSaid search format keeps.registers items answer
IsSaidTo (Alike show) labels listed search format explained keeps answer =
    IsAlikeSaid search format keeps show answer
IsSaidTo Authority labels listed search format explained keeps answer =
    IsSaid (IsAlikeAuthority keeps.harts search format) answer
IsSaidTo Check labels listed search format explained keeps answer =
    IsCheckSaid labels listed search format explained keeps answer
