-- What the program answers to its command line, and how it ends.
use Rattle.std.specs.Prelude.{◌≡◌, ℕ, ◌⊎◌, Bool, true, false, List}
use Rattle.std.specs.Prelude.{map, codes, Option, Some, None, option_map, Result, Ok, Err}
use Rattle.std.specs.Prelude.{String, string_bytes}
use Rattle.std.specs.Io.KnownBytes.{Appends}
use Rattle.std.specs.Global.{Global}
use Rattle.cheri_model.specs.runs.Image.{ImageParts}
use Rattle.explore_line.specs.Requests.{ExploreAsked, Merge, Sample, Search, SearchAsked}
use Rattle.inputs.specs.Arguments.{command_args}
use Rattle.inputs.specs.Files.{KnownFiles}
use Rattle.grammar.specs.Labels.{LabelParts, labels_of}
use Rattle.inputs.specs.Reading.{OfFile}
use Rattle.inputs.specs.declared.fault.InputFault.TheVariants.{CannotReadListing}
use Rattle.printing.specs.Endings.{Answer, EndsBy, FailsBy, HasWhole}
use Rattle.reductions.specs.declared.reduction.Keeps.{Keeps}
use Rattle.shown_states.specs.Endings as endings
use Rattle.shown_states.specs.declared.form.Ending.{Ending}
use Rattle.shown_states.specs.declared.form.Ending.TheVariants as kinds
use Rattle.program_io.specs.Endings.{IsTold}
use Rattle.program_io.specs.Faults.{no_memory}
use Rattle.program_io.specs.declared.fault.Fault.TheVariants.{Usage, Input, CannotWrite, Own}
use Rattle.shown_states.specs.declared.answer.Answer.{Answer as Whole}
use Rattle.sinks.specs.Sinks.{TakesPrefix}
use Rattle.states.specs.Searches.{SearchParts}
use Rattle.explore_program.specs.Faults.{Fault, failure_of, fault_text, status_of}
use Rattle.explore_program.specs.declared.faults.OwnFault.TheVariants.{CannotReadMap, Violated}
use Rattle.explore_program.specs.Listings.{ListedParts, MappedParts, mapped_image_of}
use Rattle.explore_program.specs.Merges.{IsMerged}
use Rattle.explore_program.specs.Questions.{IsSaidTo, format_of, range_of}
use Rattle.explore_program.specs.Samples.{IsSampled}

-- the command line of the arguments that are given after the program's name
abbrev pub command_line : List (String Global) → List (List ℕ)
command_line args = command_args (codes "cheri_explore") args

-- the search of an image that is asked for
abbrev pub search_asked : ImageParts → SearchAsked → SearchParts
search_asked image asked = record {
  image = image;
  sweeps = map range_of asked.sweeps;
  every_step = asked.every_step;
  limit = asked.states;
}

-- what states are told apart by, though the question doesn't see it
abbrev pub keeps_asked : SearchAsked → Keeps
keeps_asked asked = record { registers = asked.keeps_registers; harts = asked.keeps_harts }

-- the answers to a request about the listing that has this text, this map, these labels and this
-- image
abbrev pub IsRequestAnswer : LabelParts → ListedParts → ImageParts → SearchAsked
    → Answer Ending Fault → Type 0
IsRequestAnswer labels listed image asked answer =
    IsSaidTo asked.question labels listed (search_asked image asked) (format_of asked.form)
    asked.explained (keeps_asked asked) answer

-- what is so of the meaning of texts, or their fault
abbrev pub OfMapped : {A : Type 0} → Result MappedParts Fault → (Fault → A)
    → (MappedParts → Type 0) → A → Type 0
OfMapped (Ok mapped) refused IsSo answer = IsSo mapped
OfMapped (Err fault) refused IsSo answer = answer ≡ refused fault

-- the answers to a request about the texts of a listing and of its map, if there is one
abbrev pub IsTextsAnswer : List ℕ → Option (List ℕ) → SearchAsked → Answer Ending Fault → Type 0
IsTextsAnswer text map asked answer =
    OfMapped (mapped_image_of text map) (λ fault. Err fault)
    (λ mapped. IsRequestAnswer (labels_of text)
    (record { text = text; sources = mapped.sources }) mapped.image asked answer) answer

-- by the map of a file, if one is named
abbrev pub IsMapAnswer : Option (Option (List ℕ)) → List ℕ → SearchAsked → Answer Ending Fault
    → Type 0
IsMapAnswer None text asked answer = IsTextsAnswer text None asked answer
IsMapAnswer (Some file) text asked answer =
    OfFile file (Err (Own CannotReadMap)) (λ map. IsTextsAnswer text (Some map) asked answer) answer

-- The answers to a search. All files are read before one is judged.
abbrev pub IsSearched : KnownFiles → SearchAsked → Answer Ending Fault → Type 0
IsSearched files asked answer =
    OfFile (files asked.listing) (Err (Input CannotReadListing))
    (λ text. IsMapAnswer (option_map files asked.map) text asked answer) answer

-- the answers to a request; `usage` where the arguments ask for nothing
abbrev pub IsAnswer : KnownFiles → Option ExploreAsked → Answer Ending Fault → Type 0
IsAnswer files None answer = answer ≡ Err Usage
IsAnswer files (Some (Search asked)) answer = IsSearched files asked answer
IsAnswer files (Some (Sample asked)) answer = IsSampled files asked answer
IsAnswer files (Some (Merge asked)) answer = IsMerged files asked answer

-- What was made of an answer was put, and it ends so: a writer got the whole text; or nothing, or a
-- prefix of it where it failed; or nothing where the answer is a fault.
abbrev pub IsPut : Result Whole Fault → Result Ending Fault → Option (List ℕ) → Option (List ℕ)
    → Type 0
IsPut (Ok made) (Ok ending) old new =
    (ending ≡ made.ending) × Appends old new (string_bytes made.text)
IsPut (Ok made) (Err fault) old new =
    ((fault ≡ no_memory) × (new ≡ old))
    ⊎ ((fault ≡ CannotWrite) × TakesPrefix old new (string_bytes made.text))
IsPut (Err fault) ended old new = (ended ≡ Err fault) × (new ≡ old)

-- a property is violated
abbrev pub is_violation : Ending → Bool
is_violation (kinds.Violated line) = true
is_violation _ = false

-- It ends with an answer that was printed whole and tells of no violation, and says nothing else.
pub record Done (files : KnownFiles) (request : Option ExploreAsked) (status : ℕ)
    (old new err_old err_new : Option (List ℕ)) : Type 0 where
  pub ended : Ending
  pub good : is_violation ended ≡ false
  pub status_is : status ≡ endings.status_of ended
  pub printed : HasWhole (IsAnswer files request) ended old new
  pub stderr : err_new ≡ err_old

-- it fails with this exit status; standard error got the fault's line, or a prefix of it
abbrev pub FailsWith : KnownFiles → Option ExploreAsked → ℕ → Option (List ℕ) → Option (List ℕ)
    → Option (List ℕ) → Option (List ℕ) → Type 0
FailsWith files request status old new err_old err_new =
    EndsBy status_of fault_text
    (λ fault. FailsBy (failure_of fault) (IsAnswer files request) fault old new)
    status err_old err_new

-- It ends so after its search. In a terminal standard error may then have reports of the search;
-- elsewhere it has what it had.
pub record Ends {Terminal : Type 0} (terminal : Option Terminal) (files : KnownFiles)
    (request : Option ExploreAsked) (status : ℕ) (old new err_old err_new : Option (List ℕ))
    : Type 0 where
  pub err_now : Option (List ℕ)
  pub silent : terminal ≡ None → err_now ≡ err_old
  pub ends : Done files request status old new err_now err_new
      ⊎ FailsWith files request status old new err_now err_new

-- A command that ended so has this exit status; of a violation or a fault standard error got the
-- line, or a prefix of it.
abbrev pub Concludes : Result Ending Fault → ℕ → Option (List ℕ) → Option (List ℕ) → Type 0
Concludes (Ok (kinds.Violated line)) status old new =
    IsTold status_of fault_text (Own (Violated line)) status old new
Concludes (Ok ending) status old new = (status ≡ endings.status_of ending) × (new ≡ old)
Concludes (Err fault) status old new = IsTold status_of fault_text fault status old new
