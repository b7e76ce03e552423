-- Conditions (this project's own format): `or` joins what `and` joins, `not` binds closest, and
-- parentheses hold conditions.
use Rattle.std.specs.Prelude.{◌≡◌, ℕ, ◌+◌, ◌==◌, nat_lt, Bool, true, false, if◌then◌else◌}
use Rattle.std.specs.Prelude.{List, ◌++◌, length, slice_get, codes, zero, suc, Option, Some, None}
use Rattle.std.specs.Prelude.{Result, Ok, Err, Vec}
use Rattle.std.specs.Global.{Global}
use Rattle.cheri_model.specs.runs.Image.{ImageParts}
use Rattle.grammar.specs.Faults.{◌>>=◌}
use Rattle.grammar.specs.Labels.{LabelParts}
use Rattle.condition_texts.specs.declared.condition.TheConstants.{MAX_BYTES, MAX_PARENTHESES}
use Rattle.condition_texts.specs.declared.openings.Opening.{Opening}
use Rattle.condition_texts.specs.declared.openings.Opening.TheVariants as opening
use Rattle.condition_texts.specs.declared.openings.Quantifier.{Quantifier}
use Rattle.conditions.specs.declared.parts.Atom.{Atom}
use Rattle.conditions.specs.declared.parts.Comparison.{Comparison}
use Rattle.conditions.specs.declared.parts.Joint.{Joint}
use Rattle.conditions.specs.declared.parts.Joint.TheVariants.{And, Or}
use Rattle.conditions.specs.declared.parts.Node.{Node}
use Rattle.conditions.specs.declared.parts.Subject.TheVariants.{Each}
use Rattle.condition_texts.specs.declared.fault.TextFault.{TextFault}
use Rattle.condition_texts.specs.declared.fault.TextFault.TheVariants.{Condition, Place, NoMemory}
use Rattle.condition_texts.specs.declared.words.WordFault.{WordFault}
use Rattle.condition_texts.specs.declared.words.WordFault.TheVariants.{At}
use Rattle.condition_texts.specs.declared.words.WordFault.TheVariants as word_fault
use Rattle.condition_texts.specs.Words.{word_start, condition_words}
use Rattle.conditions.specs.Formulas.{Formula, says, deny, enclosed, join, counted, nodes_of}
use Rattle.condition_texts.specs.Reading.{Context, is_at, only, says_at, opening_of, said_of}
use Rattle.condition_texts.specs.Reading.{compared}
use Rattle.condition_texts.specs.Reading.{asked_of_count, is_plural, noun_of, asked_of}

abbrev pub Reader : Type 0
Reader = ℕ → Result (Formula × ℕ) ℕ

-- an atom, as a condition
abbrev pub said : Result (Atom × ℕ) ℕ → Result (Formula × ℕ) ℕ
said (Ok read) = Ok (says read.0, read.1)
said (Err number) = Err number

-- how many harts a condition holds of, compared so
abbrev pub of_harts : Comparison × ℕ → Formula → Formula
of_harts asked formula = counted formula asked.0 asked.1

-- what a quantifier speaks of: one thing of each hart, or a condition in parentheses
unfoldable pub of_each : Context → (Bool → Reader) → Bool → Reader
of_each c inside plural at =
    if is_at c at (codes "(") then inside true at else said (said_of c plural Each at)

-- what follows a quantifier, and what follows `count`
unfoldable pub quantified_at : Context → (Bool → Reader) → Quantifier → Reader
quantified_at c inside quantifier at = do
  next ← only c at (noun_of quantifier)
  read ← of_each c inside (is_plural quantifier) next
  Ok (of_harts (asked_of quantifier (length c.image.harts)) read.0, read.1)

unfoldable pub counted_at : Context → (Bool → Reader) → Reader
counted_at c inside at = do
  read ← inside true at
  asked ← asked_of_count c read.1
  Ok (of_harts asked.0 read.0, asked.1)

-- what follows the word that begins an atom; `inside` reads a condition with its parentheses
unfoldable pub after_opening : Context → (Bool → Reader) → Bool → Opening → Reader
after_opening c inside each (opening.Source from) at = said (compared c each from at)
after_opening c inside each (opening.Hart who) at = said (said_of c false who at)
after_opening c inside each opening.Count at = counted_at c inside at
after_opening c inside each (opening.Quantifier asked) at = quantified_at c inside asked at

-- an atom, or a condition in parentheses
unfoldable pub unit : Context → (Bool → Reader) → Bool → Reader
unit c inside each at =
    if is_at c at (codes "(") then (do
      read ← inside each at
      Ok (enclosed read.0, read.1))
    else (do
      opening ← says_at c (opening_of c.image each) at
      after_opening c inside each opening (at + 1))

unfoldable pub part : Context → (Bool → Reader) → Bool → Reader
part c inside each at =
    if is_at c at (codes "not") then (do
      denied ← unit c inside each (at + 1)
      Ok (deny denied.0, denied.1))
    else unit c inside each at

-- items with a joint between any two, the first of which was read; there are at most so many more
abbrev pub joint_word : Joint → List ℕ
joint_word And = codes "and"
joint_word Or = codes "or"

unfoldable pub joined_to : Context → Joint → Reader → ℕ → Formula → Reader
joined_to c joint item zero first at = Ok (first, at)
joined_to c joint item (suc more) first at =
    if is_at c at (joint_word joint) then (do
      second ← item (at + 1)
      joined_to c joint item more (join joint first second.0) second.1)
    else Ok (first, at)

unfoldable pub chain : Context → Joint → Reader → Reader
chain c joint item at = do
  first ← item at
  joined_to c joint item (length c.words) first.0 first.1

-- what `or` and `and` join
unfoldable pub item_of : Context → Joint → (Bool → Reader) → Bool → Reader
item_of c Or inside each at = chain c And (part c inside each) at
item_of c And inside each at = part c inside each at

abbrev pub chain_with : Context → Joint → (Bool → Reader) → Bool → Reader
chain_with c joint inside each at = chain c joint (item_of c joint inside each) at

-- a condition with parentheses around it, of which so many may be open at once
unfoldable pub in_parentheses : Context → ℕ → Bool → Reader
in_parentheses c zero each at = Err at
in_parentheses c (suc depth) each at = do
  first ← only c at (codes "(")
  inner ← chain_with c Or (in_parentheses c depth) each first
  next ← only c inner.1 (codes ")")
  Ok (inner.0, next)

-- items that are joined, in which so many parentheses may be open at once
abbrev pub chain_of : Context → Joint → ℕ → Bool → Reader
chain_of c joint depth each at = chain_with c joint (in_parentheses c depth) each at

-- all words are a condition
unfoldable pub whole : Context → Result Formula ℕ
whole c = do
  read ← chain_of c Or MAX_PARENTHESES false 0
  if read.1 == length c.words then Ok read.0 else Err read.1

-- a word's fault is at the byte where it begins
abbrev pub at_byte : {A : Type 0} → ℕ → List ℕ → Result A ℕ → Result A ℕ
at_byte separator text (Ok read) = Ok read
at_byte separator text (Err number) = Err (word_start separator number text)

abbrev pub start_of : List ℕ → Option (ℕ × List ℕ) → ℕ
start_of text (Some word) = word.0
start_of text None = length text

abbrev pub nodes_or_byte : List ℕ → List (ℕ × List ℕ) → Result Formula ℕ → Result (List Node) ℕ
nodes_or_byte text words (Ok formula) = Ok (nodes_of formula)
nodes_or_byte text words (Err number) = Err (start_of text (slice_get words number))

-- the nodes of the condition that a text writes, for an image and the labels beside it, or the
-- byte of its fault: where the first word begins that can't stand where it is, or the text's end
unfoldable pub condition_of : LabelParts → ImageParts → List ℕ → Result (List Node) ℕ
condition_of labels image text =
    if nat_lt MAX_BYTES (length text) then Err MAX_BYTES
    else nodes_or_byte text (condition_words text)
    (whole (record { labels = labels; image = image; words = condition_words text }))

-- an answer gives a meaning: the nodes after those of before, and the number of the next word; or
-- the number of the first word at fault, or out of memory
abbrev pub Adds : Result ℕ WordFault → List Node → List Node → Result (Formula × ℕ) ℕ → Type 0
Adds (Ok next) old new meaning =
    (formula : Formula) × (meaning ≡ Ok (formula, next)) × (new ≡ old ++ nodes_of formula)
Adds (Err (At number)) old new meaning = meaning ≡ Err number
Adds (Err word_fault.NoMemory) old new meaning = Unit {0}

-- an answer gives a meaning: what was read, or the number of the first word at fault, or out of
-- memory
abbrev pub GivesWords : {A : Type 0} → Result (Vec A Global) WordFault → Result (List A) ℕ → Type 0
GivesWords (Ok read) meaning = meaning ≡ Ok read.items
GivesWords (Err (At number)) meaning = meaning ≡ Err number
GivesWords (Err word_fault.NoMemory) meaning = Unit {0}

-- the same of a whole condition
abbrev pub GivesNodes : Result (Vec Node Global) WordFault → Result Formula ℕ → Type 0
GivesNodes (Ok nodes) meaning =
    (formula : Formula) × (meaning ≡ Ok formula) × (nodes.items ≡ nodes_of formula)
GivesNodes (Err (At number)) meaning = meaning ≡ Err number
GivesNodes (Err word_fault.NoMemory) meaning = Unit {0}

-- the same of a condition, whose fault is at a byte
abbrev pub GivesCondition : Result (List Node) TextFault → Result (List Node) ℕ → Type 0
GivesCondition (Ok nodes) meaning = meaning ≡ Ok nodes
GivesCondition (Err (Condition byte)) meaning = meaning ≡ Err byte
GivesCondition (Err (Place byte)) meaning = ⊥
GivesCondition (Err NoMemory) meaning = Unit {0}
