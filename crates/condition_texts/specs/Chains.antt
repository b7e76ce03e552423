-- Chains: conditions without parentheses, of plain atoms that `and` joins, by a definition of their
-- own, which goes from word to word and knows no tree. A law says that a text which writes a chain
-- is a condition that holds in the same states.
use Rattle.std.specs.Prelude.{◌≡◌, ℕ, ◌+◌, ◌-◌, Bool, true, false, ◌||◌, if◌then◌else◌, List, []}
use Rattle.std.specs.Prelude.{◌∷◌, ◌++◌, slice_index, Option, Some, None, Result, Ok, Err, ok_or}
use Rattle.std.specs.Prelude.{codes, bytes_eq}
use Rattle.std.specs.List.{list_all}
use Rattle.cap_model.specs.declared.perms.Perms.{Perms}
use Rattle.cheri_model.specs.runs.Image.{ImageParts}
use Rattle.cheri_model.specs.runs.Machine.{MachineState, hart_at}
use Rattle.grammar.specs.Faults.{◌>>=◌}
use Rattle.conditions.specs.declared.parts.Comparison.{Comparison}
use Rattle.conditions.specs.declared.parts.Node.{Node}
use Rattle.conditions.specs.declared.parts.Place.{Place}
use Rattle.conditions.specs.declared.parts.StatusTest.{StatusTest}
use Rattle.conditions.specs.Holding.{holds}
use Rattle.conditions.specs.Values.{number_at, compares, has_status, reaches}
use Rattle.condition_texts.specs.Words.{words_of, is_parenthesis}
use Rattle.condition_texts.specs.Places.{hart_numbered, number_in, place_of}
use Rattle.condition_texts.specs.Atoms.{comparison_of, status_of, address_in_word, permissions_in}
use Rattle.condition_texts.specs.Reading.{is_digit}

-- a place with a number, a hart with a status, or a hart with an address and permissions
pub data Plain : Type 0 where
  Compares : Place → Comparison → ℕ → Plain
  HasStatus : ℕ → StatusTest → Plain
  Reaches : ℕ → ℕ → Perms → Plain

-- what can stand next, after the words of an atom so far
pub data Expected : Type 0 where
  Subject : Expected
  Comparing : Place → Expected
  Number : Place → Comparison → Expected
  Verb : ℕ → Expected
  Status : ℕ → Expected
  Address : ℕ → Expected
  Permissions : ℕ → ℕ → Expected
  And : Expected

-- what a word says: what is expected after it, or the atom that it ends
pub data Step : Type 0 where
  Expects : Expected → Step
  Ends : Plain → Step

abbrev pub verb : Option ℕ → Option Step
verb (Some hart) = Some (Expects (Verb hart))
verb None = None

abbrev pub comparing : Option Place → Option Step
comparing (Some place) = Some (Expects (Comparing place))
comparing None = None

-- an atom begins with the number of a hart of the image, which is one digit, or with a place
unfoldable pub subject : ImageParts → List ℕ → Option Step
subject image word =
    if is_digit word then verb (hart_numbered image (slice_index word 0 - 0x30))
    else comparing (place_of image word)

-- a hart `is` in a status, or `reaches` an address with permissions
unfoldable pub after_hart : ℕ → List ℕ → Option Step
after_hart hart word =
    if bytes_eq word (codes "is") then Some (Expects (Status hart))
    else if bytes_eq word (codes "reaches") then Some (Expects (Address hart))
    else None

abbrev pub number_after : Place → Option Comparison → Option Step
number_after place (Some comparison) = Some (Expects (Number place comparison))
number_after place None = None

abbrev pub compared : Place → Comparison → Option ℕ → Option Step
compared place comparison (Some number) = Some (Ends (Compares place comparison number))
compared place comparison None = None

abbrev pub in_status : ℕ → Option StatusTest → Option Step
in_status hart (Some test) = Some (Ends (HasStatus hart test))
in_status hart None = None

abbrev pub permissions_after : ℕ → Option ℕ → Option Step
permissions_after hart (Some addr) = Some (Expects (Permissions hart addr))
permissions_after hart None = None

abbrev pub reaching : ℕ → ℕ → Option Perms → Option Step
reaching hart addr (Some perms) = Some (Ends (Reaches hart addr perms))
reaching hart addr None = None

-- What a word says where this is expected; nothing where it can't stand there. A cause of a trap is
-- a number or a name.
unfoldable pub step_of : ImageParts → Expected → List ℕ → Option Step
step_of image Subject word = subject image word
step_of image (Comparing place) word = number_after place (comparison_of word)
step_of image (Number place comparison) word = compared place comparison (number_in word)
step_of image (Verb hart) word = after_hart hart word
step_of image (Status hart) word = in_status hart (status_of word)
step_of image (Address hart) word = permissions_after hart (address_in_word word)
step_of image (Permissions hart addr) word = reaching hart addr (permissions_in word)
step_of image And word = if bytes_eq word (codes "and") then Some (Expects Subject) else None

-- what is expected after a word, and the atom that it ends, if any
abbrev pub expected_after : Step → Expected
expected_after (Expects next) = next
expected_after (Ends atom) = And

abbrev pub ended_by : Step → List Plain
ended_by (Expects next) = []
ended_by (Ends atom) = atom ∷ []

-- a chain can end after an atom
abbrev pub may_end : Expected → Bool
may_end And = true
may_end _ = false

-- The atoms of words, of which the first has this number and is expected to be this. Else the
-- number of the first word that can't stand where it is, or of the one that is missing.
unfoldable pub atoms_from : ImageParts → Expected → ℕ → List (List ℕ) → Result (List Plain) ℕ
atoms_from image expected number [] = if may_end expected then Ok [] else Err number
atoms_from image expected number (word ∷ words) = do
  step ← ok_or (step_of image expected word) number
  atoms ← atoms_from image (expected_after step) (number + 1) words
  Ok (ended_by step ++ atoms)

unfoldable pub chain_of : ImageParts → List ℕ → Result (List Plain) ℕ
chain_of image text = atoms_from image Subject 0 (words_of 0x20 text)

-- an atom holds in a state; a chain holds where all its atoms do
unfoldable pub plain_holds : MachineState → Plain → Bool
plain_holds state (Compares at comparison number) =
    compares comparison (number_at at state) number
plain_holds state (HasStatus hart test) = has_status test (hart_at state hart).status
plain_holds state (Reaches hart addr perms) = reaches addr perms (hart_at state hart)

unfoldable pub chain_holds : MachineState → List Plain → Bool
chain_holds state atoms = list_all (plain_holds state) atoms

-- one of the bytes is a parenthesis
unfoldable pub has_parenthesis : List ℕ → Bool
has_parenthesis [] = false
has_parenthesis (b ∷ rest) = is_parenthesis b || has_parenthesis rest

-- a condition that was read holds just where a chain does
abbrev pub HoldsAsChain : Result (List Node) ℕ → List Plain → Type 0
HoldsAsChain (Ok nodes) atoms = (state : MachineState) → holds state nodes ≡ chain_holds state atoms
HoldsAsChain (Err byte) atoms = ⊥
