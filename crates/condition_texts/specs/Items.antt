-- Lists of items: 1 to 16 of them, separated by commas (this project's own format).
use Rattle.std.specs.Prelude.{◌≡◌, ℕ, ◌+◌, nat_lt, if◌then◌else◌, List, [], ◌∷◌, Option}
use Rattle.std.specs.Prelude.{None, Result, Ok, Err, ok_or}
use Rattle.cheri_model.specs.runs.Image.{ImageParts}
use Rattle.grammar.specs.Faults.{◌>>=◌}
use Rattle.condition_texts.specs.declared.items.TheConstants.{MAX_ITEMS}
use Rattle.conditions.specs.declared.parts.Shown.{Shown}
use Rattle.conditions.specs.declared.items.Items.{Items}
use Rattle.conditions.specs.Items.{ItemList, list_of}
use Rattle.condition_texts.specs.declared.fault.TextFault.{TextFault}
use Rattle.condition_texts.specs.declared.fault.TextFault.TheVariants.{Condition, Place, NoMemory}
use Rattle.condition_texts.specs.Words.{words_of}
use Rattle.condition_texts.specs.Shown.{shown_of}
use Rattle.condition_texts.specs.Conditions.{at_byte}

-- the item of a number, from 0 on: there are at most so many
abbrev pub shown_at : ImageParts → ℕ → List ℕ → Option Shown
shown_at image number word = if nat_lt number MAX_ITEMS then shown_of image word else None

-- what the items of words show, of which the first has this number, or the number of the first word
-- that is none
unfoldable pub shown_from : ImageParts → ℕ → List (List ℕ) → Result (List Shown) ℕ
shown_from image number [] = Ok []
shown_from image number (word ∷ words) = do
  shown ← ok_or (shown_at image number word) number
  items ← shown_from image (number + 1) words
  Ok (shown ∷ items)

-- the items that a text writes, for an image, or the byte of its fault
unfoldable pub items_of : ImageParts → List ℕ → Result ItemList ℕ
items_of image text = at_byte 0x2C text (do
  shown ← shown_from image 0 (words_of 0x2C text)
  Ok (record { names = words_of 0x2C text; shown = shown }))

-- an answer gives a meaning: the items that it is, or the byte of its fault, or out of memory
abbrev pub GivesItems : Result Items TextFault → Result ItemList ℕ → Type 0
GivesItems (Ok items) meaning = meaning ≡ Ok (list_of items)
GivesItems (Err (Place byte)) meaning = meaning ≡ Err byte
GivesItems (Err (Condition byte)) meaning = ⊥
GivesItems (Err NoMemory) meaning = Unit {0}
