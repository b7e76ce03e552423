-- What is read of JSON.
use Rattle.std.specs.Prelude.{◌≡◌, ℕ, nat_le, if◌then◌else◌, List}
use Rattle.std.specs.Prelude.{Option, Some, None, option_and_then, Result, Ok, Err}
use Rattle.explore_sweeps.specs.Sweeps.{◌>>=◌}
use Rattle.serde_json.specs.Data.{Data, Items, no_items, item}
use Rattle.serde_json.specs.Find.{as_array, as_number, as_str, as_u64, at, get}
use Rattle.sample_slices.specs.declared.fault.LineFault.{LineFault}
use Rattle.sample_slices.specs.declared.fault.LineFault.TheVariants.{Form, NoMemory}

-- a number that is at most so great
abbrev pub at_most : ℕ → ℕ → Option ℕ
at_most limit number = if nat_le number limit then Some number else None

unfoldable pub number_within : ℕ → Data → Option ℕ
number_within limit value = do
  number ← option_and_then as_u64 (as_number value)
  at_most limit number

-- that of a member
unfoldable pub number_in : List ℕ → ℕ → Data → Option ℕ
number_in name limit value = do
  found ← get name value
  number_within limit found

-- that of an item of a list
unfoldable pub number_at : ℕ → ℕ → Data → Option ℕ
number_at place limit value = do
  found ← at place value
  number_within limit found

-- the text of a member
unfoldable pub text_in : List ℕ → Data → Option (List ℕ)
text_in name value = do
  found ← get name value
  as_str found

-- its list
unfoldable pub list_in : List ℕ → Data → Option Items
list_in name value = do
  found ← get name value
  as_array found

-- what steps over the items of a list come to, if each can be taken
unfoldable pub all_steps : {T : Type 0} → (Data → T → Option T) → Items → T → Option T
all_steps step no_items before = Some before
all_steps step (item value items) before = do
  after ← step value before
  all_steps step items after

-- ---- answers

-- an answer gives a meaning, seen so: what it is, or that there is none, or out of memory
abbrev pub GivesSeen : {X Y : Type 0} → (X → Y) → Result X LineFault → Option Y → Type 0
GivesSeen view (Ok x) meaning = meaning ≡ Some (view x)
GivesSeen view (Err Form) meaning = meaning ≡ None
GivesSeen view (Err NoMemory) meaning = Unit {0}

abbrev pub Gives : {X : Type 0} → Result X LineFault → Option X → Type 0
Gives result meaning = GivesSeen (λ x. x) result meaning

-- the same of what was changed in its place
abbrev pub Steps : {T : Type 0} → Result (Unit {0}) LineFault → T → Option T → Type 0
Steps (Ok done) after meaning = meaning ≡ Some after
Steps (Err Form) after meaning = meaning ≡ None
Steps (Err NoMemory) after meaning = Unit {0}
