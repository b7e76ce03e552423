-- Tables of values while symbols are worked out.
use Rattle.std.proofs.Common.{◌≡◌, ◌⊎◌, inl, inr, ℕ, zero, suc, ◌+◌, ◌≤◌, ◌<◌, Bool, true, false, ◌||◌, List, length, get_or, set, replicate, Option, Some, None, Ok, refl, sym, ap, ◌∙◌, arith}
use Rattle.std.proofs.lemmas.Bool.{false≢true}
use Rattle.std.proofs.lemmas.List.{get_or_past, get_or-set_same, get_or-set_other, get_or-replicate, length-set, length-replicate}
use Rattle.std.proofs.lemmas.List.Folds.{sum_by-replicate}
use Rattle.std.proofs.lemmas.List.Sums.{sum_by-set}
use Rattle.asm_values.specs.declared.values.Value.{Value}
use Rattle.asm_chains.specs.Scenes.{SceneParts}
use Rattle.asm_chains.specs.Tables.{value_at, or_lack, in_table, no_name, symbol_by_table}
use Rattle.asm_chains.specs.Settling.{value_within, value_weight, value_count, IsSound, IsClosedAt, IsClosed, Tried, PassesTo}
use Rattle.asm_chains.proofs.WithinLemmas.{same_or_other, there_or_beyond, beyond_is_err, within_more, within_same, within_step, step_within, within_none}

or_lack_is : (own : Option Value) (symbol at : ℕ) (value : Value) → or_lack own symbol at ≡ Ok value → own ≡ Some value
or_lack_is (Some x) symbol at value is = cc
or_lack_is None symbol at value is = cc

lack_of : (own : Option Value) (symbol at : ℕ) (value : Value) → own ≡ Some value → or_lack own symbol at ≡ Ok value
lack_of own symbol at value is = rw is refl

-- ---- a table without a value

abbrev no_values : ℕ → List (Option Value)
no_values n = replicate n None

weights_of_none : (n : ℕ) → value_count (no_values n) ≡ 0
unfolding value_count
weights_of_none n = let zeros = sum_by-replicate value_weight n None in omega (arith, zeros)

none_at : (n symbol : ℕ) (value : Value) → (symbol < n) ⊎ (n ≤ symbol) → value_at (no_values n) symbol ≡ Some value → ⊥
none_at n symbol value (inl there) is =
    let none : value_at (no_values n) symbol ≡ None = get_or-replicate n symbol None None there in cc
none_at n symbol value (inr beyond) is =
    let long : length (no_values n) ≡ n = length-replicate n None in
    let past : length (no_values n) ≤ symbol = omega arith in
    let none : value_at (no_values n) symbol ≡ None = get_or_past (no_values n) symbol None past in cc

pub sound_at_first : (scene : SceneParts) (n : ℕ) → n ≡ length scene.symbols → IsSound scene (no_values n)
sound_at_first scene n is = record {
  whole = length-replicate n None ∙ is;
  values_hold = λ symbol value has. absurd (none_at n symbol value (there_or_beyond symbol n) has);
}

-- ---- one value more

pub count_after : (old : List (Option Value)) (symbol : ℕ) (value : Value) → symbol < length old → value_at old symbol ≡ None
    → value_count (set old symbol (Some value)) ≡ suc (value_count old)
unfolding value_count
count_after old symbol value there none =
    let sums = sum_by-set value_weight old symbol (Some value) None there in
    let weight : value_weight (get_or old symbol None) ≡ 0 = rw none refl in
    omega (arith, sums, weight)

hold_after : (scene : SceneParts) (old : List (Option Value)) (symbol : ℕ) (value : Value) → IsSound scene old → symbol < length old → value_at old symbol ≡ None
    → symbol_by_table scene old symbol ≡ Ok value
    → (other : ℕ) (found : Value) → (other ≡ symbol) ⊎ (other ≡ symbol → ⊥) → value_at (set old symbol (Some value)) other ≡ Some found
    → value_within scene (suc (value_count old)) other ≡ Ok found
unfolding symbol_by_table
hold_after scene old symbol value sound there none worked other found (inl same) has =
    let new : get_or (set old symbol (Some value)) symbol None ≡ Some value = get_or-set_same old symbol (Some value) None there in
    let at_symbol : value_at (set old symbol (Some value)) symbol ≡ Some found = rw same at has in
    let value_is : value ≡ found = cc in
    rw (same, sym value_is)
    (within_step scene (in_table old) no_name (value_count old) symbol value
    (λ next at x is. sound.values_hold next x (or_lack_is (value_at old next) next at x is)) worked)
hold_after scene old symbol value sound there none worked other found (inr differs) has =
    let before : value_at old other ≡ Some found = rw (get_or-set_other old symbol other (Some value) None differs) at has in
    within_more scene (value_count old) other found (sound.values_hold other found before)

pub sound_after : (scene : SceneParts) (old : List (Option Value)) (symbol : ℕ) (value : Value) → IsSound scene old → symbol < length old → value_at old symbol ≡ None
    → symbol_by_table scene old symbol ≡ Ok value → IsSound scene (set old symbol (Some value))
sound_after scene old symbol value sound there none worked = record {
  whole = length-set old symbol (Some value) ∙ sound.whole;
  values_hold = λ other found has.
      rw (count_after old symbol value there none) (hold_after scene old symbol value sound there none worked other found (same_or_other other symbol) has);
}

-- ---- a symbol was tried

pub sound_tried : (scene : SceneParts) (old new : List (Option Value)) (symbol : ℕ) (changed : Bool) → IsSound scene old
    → Tried changed scene old new symbol → IsSound scene new
sound_tried scene old new symbol true sound tried =
    rw tried.4 (sound_after scene old symbol tried.0 sound tried.1 tried.2 tried.3)
sound_tried scene old new symbol false sound tried = rw tried.0 sound

closed_before : (scene : SceneParts) (first old : List (Option Value)) (symbol other : ℕ) → old ≡ first → (symbol < length old → IsClosedAt scene old symbol)
    → ((n : ℕ) → n < symbol → n < length first → IsClosedAt scene first n) → other < symbol + 1 → (other ≡ symbol) ⊎ (other ≡ symbol → ⊥)
    → other < length first → IsClosedAt scene first other
closed_before scene first old symbol other is_first here so_far below (inl same) there = rw same (let now = rw is_first at here in now (rw same at there))
closed_before scene first old symbol other is_first here so_far below (inr differs) there = so_far other (omega arith) there

-- what was passed before, and the symbol that was tried
pub passed_on : (scene : SceneParts) (first old new : List (Option Value)) (symbol : ℕ) (before changed : Bool)
    → PassesTo before scene first old symbol → Tried changed scene old new symbol → PassesTo (before || changed) scene first new (symbol + 1)
passed_on scene first old new symbol true true so_far tried =
    let more = count_after old symbol tried.0 tried.1 tried.2 in
    let counted : value_count new ≡ suc (value_count old) = rw tried.4 more in
    omega (arith, counted, so_far)
passed_on scene first old new symbol false true so_far tried =
    let more = count_after old symbol tried.0 tried.1 tried.2 in
    let counted : value_count new ≡ suc (value_count old) = rw tried.4 more in
    let same : value_count old ≡ value_count first = ap value_count so_far.0 in
    omega (arith, counted, same)
passed_on scene first old new symbol true false so_far tried = rw tried.0 so_far
passed_on scene first old new symbol false false so_far tried =
    (tried.0 ∙ so_far.0, λ other below. closed_before scene first old symbol other so_far.0 tried.1 so_far.1 below (same_or_other other symbol))

-- ---- a table is settled: what has no value there has none at all

pub closed_from_pass : (scene : SceneParts) (old new : List (Option Value)) → IsSound scene new → PassesTo false scene old new (length scene.symbols) → IsClosed scene new
closed_from_pass scene old new sound passed symbol there =
    let inside : symbol < length old = rw (sym passed.0) (omega (arith, sound.whole)) in
    rw passed.0 (passed.1 symbol there inside)

module _ (scene : SceneParts) (values : List (Option Value)) (sound : IsSound scene values) (closed : IsClosed scene values) where
  no_value_by : (symbol : ℕ) (value : Value) → (symbol < length scene.symbols) ⊎ (length scene.symbols ≤ symbol) → value_at values symbol ≡ None
      → symbol_by_table scene values symbol ≡ Ok value → ⊥
  unfolding symbol_by_table
  no_value_by symbol value (inl there) none is = false≢true (rw is at (closed symbol there none))
  no_value_by symbol value (inr beyond) none is = beyond_is_err scene (in_table values) no_name symbol value beyond is

  found_in : (k other at : ℕ) (found : Value) → value_within scene k other ≡ Ok found → (own : Option Value) → value_at values other ≡ own
      → (value_at values other ≡ None → ⊥) → in_table values other at ≡ Ok found
  found_in k other at found has (Some x) own_is some =
      let same : x ≡ found = within_same scene (value_count values) k other x found (sound.values_hold other x own_is) has in
      rw own_is (ap Ok same)
  found_in k other at found has None own_is some = absurd (some own_is)

  pub no_value : (k symbol : ℕ) (value : Value) → value_at values symbol ≡ None → value_within scene k symbol ≡ Ok value → ⊥
  unfolding symbol_by_table
  no_value zero symbol value none is = within_none scene symbol value is
  no_value (suc k) symbol value none is =
      no_value_by symbol value (there_or_beyond symbol (length scene.symbols)) none
      (step_within scene (in_table values) no_name k symbol value
      (λ other at found has. found_in k other at found has (value_at values other) refl (λ own_none. no_value k other found own_none has)) is)
