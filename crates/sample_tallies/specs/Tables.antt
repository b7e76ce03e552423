-- Tables of what was seen in runs: how often, and in which run first.
use Rattle.std.specs.Prelude.{ℕ, ◌+◌, min, Bool, List, [], ◌∷◌, fold, Option, Some, None}
use Rattle.std.specs.Prelude.{if◌then◌else◌}
use Rattle.sample_tallies.specs.declared.seen.Seen.{Seen}

-- what was seen in one run
abbrev pub seen_once : ℕ → Seen
seen_once run = record { runs = 1; first = run }

-- in these runs and in those
abbrev pub both : Seen → Seen → Seen
both a b = record { runs = a.runs + b.runs; first = min a.first b.first }

-- the same, where it was perhaps not seen
abbrev pub either : Option Seen → Option Seen → Option Seen
either None b = b
either (Some a) None = Some a
either (Some a) (Some b) = Some (both a b)

pub record Entry (K : Type 0) : Type 0 where
  pub key : K
  pub seen : Seen

-- the table of these keys, and of what was seen of each
unfoldable pub table_of : {K : Type 0} → List K → List Seen → List (Entry K)
table_of [] seen = []
table_of (key ∷ keys) [] = []
table_of (key ∷ keys) (s ∷ seen) = record { key = key; seen = s } ∷ table_of keys seen

-- A table with what was seen of one key more: its entry grows, or becomes the last one.
unfoldable pub with_entry : {K : Type 0} → (K → K → Bool) → List (Entry K) → Entry K
    → List (Entry K)
with_entry same [] more = more ∷ []
with_entry same (entry ∷ entries) more =
    if same entry.key more.key
    then (record entry { seen = both entry.seen more.seen }) ∷ entries
    else entry ∷ with_entry same entries more

-- the sum of two tables
abbrev pub with_entries : {K : Type 0} → (K → K → Bool) → List (Entry K) → List (Entry K)
    → List (Entry K)
with_entries same table more = fold (with_entry same) table more

-- what was seen of a key
unfoldable pub seen_of : {K : Type 0} → (K → K → Bool) → K → List (Entry K) → Option Seen
seen_of same key [] = None
seen_of same key (entry ∷ entries) =
    if same entry.key key then either (Some entry.seen) (seen_of same key entries)
    else seen_of same key entries

-- An entry among others, before the first that is later than it.
unfoldable pub placed : {K : Type 0} → (Entry K → Entry K → Bool) → List (Entry K) → Entry K
    → List (Entry K)
placed is_later [] more = more ∷ []
placed is_later (entry ∷ entries) more =
    if is_later entry more then more ∷ entry ∷ entries
    else entry ∷ placed is_later entries more

-- a table in an order
abbrev pub in_order : {K : Type 0} → (Entry K → Entry K → Bool) → List (Entry K) → List (Entry K)
in_order is_later table = fold (placed is_later) [] table
