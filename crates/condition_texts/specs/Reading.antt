-- Readers of the parts of a condition that hold no other condition (this project's own format). A
-- reader goes from the number of a word to what is read from there on and the number of the next
-- word; or to the number of the first word that can't stand where it is, which is the count of
-- words where one is missing.
use Rattle.std.specs.Prelude.{ℕ, ◌+◌, ◌-◌, ◌==◌, Bool, true, false, ◌&&◌, if◌then◌else◌}
use Rattle.std.specs.Prelude.{List, [], ◌∷◌, length, slice_index, slice_get, codes, bytes_eq}
use Rattle.std.specs.Prelude.{Option, Some, None, Result, Ok, Err, ok_or}
use Rattle.cheri_model.specs.instructions.Tables.{found_at}
use Rattle.cheri_model.specs.runs.Image.{ImageParts}
use Rattle.grammar.specs.Faults.{◌>>=◌}
use Rattle.grammar.specs.Labels.{LabelParts, is_decimal_digit}
use Rattle.conditions.specs.declared.parts.Atom.{Atom}
use Rattle.conditions.specs.declared.parts.Atom.TheVariants as atom
use Rattle.conditions.specs.declared.parts.Comparison.{Comparison}
use Rattle.conditions.specs.declared.parts.Comparison.TheVariants.{Equal, AtLeast}
use Rattle.conditions.specs.declared.parts.Source.{Source}
use Rattle.conditions.specs.declared.parts.Subject.{Subject}
use Rattle.conditions.specs.declared.parts.Subject.TheVariants.{Numbered, Each}
use Rattle.condition_texts.specs.declared.openings.Opening.{Opening}
use Rattle.condition_texts.specs.declared.openings.Opening.TheVariants as opening
use Rattle.condition_texts.specs.declared.openings.Quantifier.{Quantifier}
use Rattle.condition_texts.specs.declared.openings.Quantifier.TheVariants as quantifier
use Rattle.condition_texts.specs.declared.openings.Verb.{Verb}
use Rattle.condition_texts.specs.declared.openings.Verb.TheVariants as verb
use Rattle.condition_texts.specs.declared.reading.Reader.{Reader}
use Rattle.condition_texts.specs.Places.{hart_numbered, number_in, source_of}
use Rattle.condition_texts.specs.Atoms.{comparison_of, status_of, address_in_word, permissions_in}
use Rattle.condition_texts.specs.WordPairs.{word_pairs}
use Rattle.condition_texts.specs.Terms.{target_in, range_in, term_of}
use Rattle.listing_maps.specs.Names.{names_of}

-- what a condition is read from: the names that it may have, as labels of its listing, the image,
-- and its words, each with the byte where it begins
pub record Context : Type 0 where
  pub labels : LabelParts
  pub image : ImageParts
  pub words : List (ℕ × List ℕ)

abbrev pub context_of : Reader → Context
context_of r =
    record {
      labels = names_of r.names.now;
      image = r.image.now;
      words = word_pairs r.words.now;
    }

-- what the word of a number says
abbrev pub word_says : {X : Type 0} → (List ℕ → Option X) → Option (ℕ × List ℕ) → Option X
word_says meaning (Some word) = meaning word.1
word_says meaning None = None

unfoldable pub says_at : {X : Type 0} → Context → (List ℕ → Option X) → ℕ → Result X ℕ
says_at c meaning at = ok_or (word_says meaning (slice_get c.words at)) at

-- whether the word of a number is this one; and that it has to be
abbrev pub is_word : List ℕ → Option (ℕ × List ℕ) → Bool
is_word wanted (Some word) = bytes_eq word.1 wanted
is_word wanted None = false

unfoldable pub is_at : Context → ℕ → List ℕ → Bool
is_at c at wanted = is_word wanted (slice_get c.words at)

unfoldable pub only : Context → ℕ → List ℕ → Result ℕ ℕ
only c at wanted = if is_at c at wanted then Ok (at + 1) else Err at

-- `are` and `reach` stand after `harts`, else `is` and `reaches`
abbrev pub verb_table : Bool → List (List ℕ × Verb)
verb_table true =
    (codes "are", verb.Is) ∷ (codes "reach", verb.Reaches) ∷ (codes "at", verb.At)
    ∷ (codes "in", verb.In) ∷ []
verb_table false =
    (codes "is", verb.Is) ∷ (codes "reaches", verb.Reaches) ∷ (codes "at", verb.At)
    ∷ (codes "in", verb.In) ∷ []

unfoldable pub verb_of : Bool → List ℕ → Option Verb
verb_of plural word = found_at (verb_table plural) word

-- what is said of a hart: a verb, and what it asks for
unfoldable pub said_after : Context → Subject → Verb → ℕ → Result (Atom × ℕ) ℕ
said_after c who verb.Is at = do
  status ← says_at c status_of at
  Ok (atom.HasStatus who status, at + 1)
said_after c who verb.Reaches at = do
  addr ← says_at c address_in_word at
  perms ← says_at c permissions_in (at + 1)
  Ok (atom.Reaches who addr perms, at + 2)
said_after c who verb.At at = do
  addr ← says_at c (target_in c.labels) at
  Ok (atom.IsAt who addr, at + 1)
said_after c who verb.In at = do
  range ← says_at c (range_in c.labels) at
  Ok (atom.IsIn who range.0 range.1, at + 1)

unfoldable pub said_of : Context → Bool → Subject → ℕ → Result (Atom × ℕ) ℕ
said_of c plural who at = do
  asked ← says_at c (verb_of plural) at
  said_after c who asked (at + 1)

-- how a number compares
unfoldable pub compared : Context → Bool → Source → ℕ → Result (Atom × ℕ) ℕ
compared c each from at = do
  comparison ← says_at c comparison_of at
  with ← says_at c (term_of c.labels c.image each) (at + 1)
  Ok (atom.Compares from comparison with, at + 2)

-- how a count of harts compares
unfoldable pub asked_of_count : Context → ℕ → Result ((Comparison × ℕ) × ℕ) ℕ
asked_of_count c at = do
  comparison ← says_at c comparison_of at
  number ← says_at c number_in (at + 1)
  Ok ((comparison, number), at + 2)

-- the words that begin an atom
abbrev pub is_digit : List ℕ → Bool
is_digit word = (length word == 1) && is_decimal_digit (slice_index word 0)

abbrev pub quantifier_table : List (List ℕ × Quantifier)
quantifier_table =
    (codes "any", quantifier.Any) ∷ (codes "no", quantifier.No) ∷ (codes "two", quantifier.Two)
    ∷ (codes "all", quantifier.All) ∷ []

abbrev pub quantifier_opening : Option Quantifier → Option Opening
quantifier_opening (Some asked) = Some (opening.Quantifier asked)
quantifier_opening None = None

unfoldable pub count_of : List ℕ → Option Opening
count_of word =
    if bytes_eq word (codes "count") then Some opening.Count
    else quantifier_opening (found_at quantifier_table word)

abbrev pub hart_opening : Option ℕ → Option Opening
hart_opening (Some number) = Some (opening.Hart (Numbered number))
hart_opening None = None

abbrev pub source_opening : Option Source → Option Opening
source_opening (Some from) = Some (opening.Source from)
source_opening None = None

-- there is no count in the parentheses of a count, where `h` is each hart
abbrev pub count_or : Bool → Option Opening → Option Opening → Option Opening
count_or each (Some count) other = if each then None else Some count
count_or each None other = other

unfoldable pub count_or_source : ImageParts → Bool → List ℕ → Option Opening
count_or_source image each word =
    count_or each (count_of word) (source_opening (source_of image each word))

unfoldable pub opening_of : ImageParts → Bool → List ℕ → Option Opening
opening_of image each word =
    if is_digit word then hart_opening (hart_numbered image (slice_index word 0 - 0x30))
    else if bytes_eq word (codes "h") then (if each then Some (opening.Hart Each) else None)
    else count_or_source image each word

-- what quantifiers are of, and how many harts they ask for, of so many
unfoldable pub is_plural : Quantifier → Bool
is_plural quantifier.Any = false
is_plural quantifier.No = false
is_plural quantifier.Two = true
is_plural quantifier.All = true

unfoldable pub noun_of : Quantifier → List ℕ
noun_of asked = if is_plural asked then codes "harts" else codes "hart"

unfoldable pub asked_of : Quantifier → ℕ → Comparison × ℕ
asked_of quantifier.Any harts = (AtLeast, 1)
asked_of quantifier.No harts = (Equal, 0)
asked_of quantifier.Two harts = (AtLeast, 2)
asked_of quantifier.All harts = (AtLeast, harts)
