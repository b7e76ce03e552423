-- A table of slots: each is open, which is 0, or names a row beside the row's tag. A row is looked
-- for from the home of its tag on, place by place, up to the first open one.
use Rattle.std.specs.Prelude.{◌≡◌, ◌≢◌, ℕ, ◌+◌, ◌*◌, ◌/◌, ◌%◌, ◌^◌, ◌<◌, ◌≤◌, List, length}
use Rattle.std.specs.Prelude.{slice_index}
use Rattle.interner.specs.Rows.{row_at}
use Rattle.interner.specs.Hashes.{tag_of, home_of}

-- the slot that names row i, whose tag this is
unfoldable pub slot_of : ℕ → ℕ → ℕ
slot_of tag i = tag * 2 ^ 32 + (i + 1)

-- the tag in a slot
unfoldable pub tag_in : ℕ → ℕ
tag_in slot = slot / 2 ^ 32

-- the row that a slot names, and one more
unfoldable pub link_in : ℕ → ℕ
link_in slot = slot % 2 ^ 32

-- the tag of row i
abbrev pub tag_at : ℕ → List ℕ → ℕ → ℕ
tag_at width numbers i = tag_of (row_at width numbers i)

-- Each slot that isn't open names one of the first n rows, each with its tag.
abbrev pub AreNames : (ℕ → ℕ) → ℕ → List ℕ → Type 0
AreNames tag n slots = (p : ℕ) → 0 < slice_index slots p →
    (i : ℕ) × (i < n) × (slice_index slots p ≡ slot_of (tag i) i)

-- The slot stands at a place that is met from its home on, before any open one.
pub record IsPlaced (slots : List ℕ) (homes slot place : ℕ) : Type 0 where
  pub here : slice_index slots place ≡ slot
  pub after : home_of (tag_in slot) homes ≤ place
  pub met : (p : ℕ) → home_of (tag_in slot) homes ≤ p → p < place → 0 < slice_index slots p

-- a slot has a place
abbrev pub HasPlace : List ℕ → ℕ → ℕ → Type 0
HasPlace slots homes slot = (p : ℕ) × IsPlaced slots homes slot p

-- A slot was put into an open place.
pub record IsPut (old new : List ℕ) (slot place : ℕ) : Type 0 where
  pub was_open : slice_index old place ≡ 0
  pub here : slice_index new place ≡ slot
  pub others : (p : ℕ) → p ≢ place → slice_index new p ≡ slice_index old p
  pub long : length old ≤ length new

-- What an interner keeps: whole rows, of which no two are the same, each named in its place.
pub record IsInterner (width : ℕ) (numbers slots : List ℕ) (homes count : ℕ) : Type 0 where
  pub whole : length numbers ≡ count * width
  pub few : count < 2 ^ 32
  pub few_homes : homes ≤ 2 ^ 32
  pub room : homes ≤ length slots
  pub names : AreNames (tag_at width numbers) count slots
  pub placed : (i : ℕ) → i < count → HasPlace slots homes (slot_of (tag_at width numbers i) i)
  pub distinct : (i k : ℕ) → i < k → k < count → row_at width numbers i ≢ row_at width numbers k
