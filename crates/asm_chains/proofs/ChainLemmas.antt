-- The value of a symbol, with the names on the way to it, and the values of a settled table.
use Rattle.std.proofs.Common.{◌≡◌, ℕ, zero, suc, ◌+◌, ◌-◌, ◌≤◌, ◌<◌, Bool, true, false, not, if◌then◌else◌, ◌==◌, List, [], ◌∷◌, length, map, sum_by, Option, Some, None, Result, Ok, Err, refl, sym, ap, ◌∙◌, arith}
use Rattle.std.specs.List.{list_any, range_with_len}
use Rattle.std.proofs.lemmas.Bool.{eqb-true, lt-ltb, false≢true}
use Rattle.std.proofs.lemmas.List.{ext_get_or}
use Rattle.std.proofs.lemmas.List.Sums.{sum_by-cons}
use Rattle.std.proofs.lemmas.List.FromFn.{get_or-map-range_with_len, length-map-range_with_len}
use Rattle.asm_values.specs.declared.values.Value.{Value}
use Rattle.asm_expressions.specs.declared.values.ValueFault.{ValueFault}
use Rattle.asm_expressions.specs.declared.values.ValueFault.TheVariants.{Operator, Name, NoMemory}
use Rattle.asm_tokens.specs.declared.fault.AsmFaultKind.TheVariants as faults
use Rattle.asm_chains.specs.declared.scene.LateFault.{LateFault}
use Rattle.asm_chains.specs.declared.scene.Setting.{Setting}
use Rattle.asm_chains.specs.Faults.{fault_in, no_memory}
use Rattle.asm_chains.specs.Scenes.{SceneParts, symbol_at}
use Rattle.asm_chains.specs.Chains.{or_fault, is_open, value_by, value_on, symbol_value, if_value, known, known_values}
use Rattle.asm_chains.specs.Tables.{value_at}
use Rattle.asm_chains.specs.Settling.{value_within, value_weight, value_count, IsSound, IsClosed, PassesTo}
use Rattle.asm_chains.proofs.WithinLemmas.{ok_or_err, one_value, within_more, within_step, step_within, within_none, within_there}
use Rattle.asm_chains.proofs.TableLemmas.{no_value}

fault_is : (setting : Setting) (r : Result Value (ValueFault LateFault)) (value : Value) → or_fault setting r ≡ Ok value → r ≡ Ok value
fault_is setting (Ok x) value is = cc
fault_is setting (Err (Operator at)) value is = cc
fault_is setting (Err (Name fault)) value is = cc
fault_is setting (Err NoMemory) value is = cc

-- ---- what has a value on the way has it within as many steps

on_by : (scene : SceneParts) (test : Bool) (r : Result Value LateFault) (again : LateFault) (value : Value) → (if test then r else Err again) ≡ Ok value → r ≡ Ok value
on_by scene true r again value is = is
on_by scene false r again value is = cc

pub on_within : (scene : SceneParts) (k : ℕ) (way : List ℕ) (symbol : ℕ) (again : LateFault) (value : Value) → value_on scene k way symbol again ≡ Ok value
    → value_within scene k symbol ≡ Ok value
unfolding value_on
on_within scene zero way symbol again value is = cc
on_within scene (suc k) way symbol again value is =
    let by : value_by scene (value_on scene k (symbol ∷ way)) (symbol_at scene symbol) ≡ Ok value = on_by scene (is_open scene way symbol) _ again value is in
    within_step scene (λ other at. value_on scene k (symbol ∷ way) other (fault_in (symbol_at scene symbol).setting faults.Expression at))
    (fault_in (symbol_at scene symbol).setting faults.Symbol) k symbol value
    (λ other at found has. on_within scene k (symbol ∷ way) other _ found has)
    (fault_is (symbol_at scene symbol).setting _ value by)

-- ---- what has a value within some steps has it on every way that it isn't on

-- nothing on the way has a value within so many steps
abbrev pub NoneOn : SceneParts → ℕ → List ℕ → Type 0
NoneOn scene k way = (other : ℕ) (found : Value) → list_any (λ n. n == other) way ≡ true → value_within scene k other ≡ Ok found → ⊥

not_on : (way : List ℕ) (symbol : ℕ) (test : Bool) → list_any (λ n. n == symbol) way ≡ test → (test ≡ true → ⊥) → not (list_any (λ n. n == symbol) way) ≡ true
not_on way symbol true is none = absurd (none refl)
not_on way symbol false is none = rw is refl

open_there : (scene : SceneParts) (k : ℕ) (way : List ℕ) (symbol : ℕ) (value : Value) → value_within scene k symbol ≡ Ok value → NoneOn scene k way → is_open scene way symbol ≡ true
open_there scene k way symbol value is none =
    let there = lt-ltb symbol (length scene.symbols) (within_there scene k symbol value is) in
    let free = not_on way symbol (list_any (λ n. n == symbol) way) refl (λ on. none symbol value on is) in
    rw (there, free) refl

none_before : (scene : SceneParts) (k : ℕ) (way : List ℕ) → NoneOn scene (suc k) way → NoneOn scene k way
none_before scene k way none other found on has = none other found on (within_more scene k other found has)

none_by_head : (scene : SceneParts) (k : ℕ) (way : List ℕ) (symbol other : ℕ) (found : Value) (e : Unit {0}) (test : Bool) → (symbol == other) ≡ test
    → value_within scene k symbol ≡ Err e → NoneOn scene k way → list_any (λ n. n == other) (symbol ∷ way) ≡ true → value_within scene k other ≡ Ok found → ⊥
none_by_head scene k way symbol other found e true same has_none none on has =
    let is : symbol ≡ other = eqb-true symbol other same in
    ok_or_err (value_within scene k other) found e has (rw is at has_none)
none_by_head scene k way symbol other found e false differs has_none none on has = none other found (rw differs at on) has

none_with : (scene : SceneParts) (k : ℕ) (way : List ℕ) (symbol : ℕ) (e : Unit {0}) → value_within scene k symbol ≡ Err e → NoneOn scene k way → NoneOn scene k (symbol ∷ way)
none_with scene k way symbol e has_none none other found on has = none_by_head scene k way symbol other found e (symbol == other) refl has_none none on has

-- the value is within one step less already, or this is the first number of steps
less_or_now : (scene : SceneParts) (k top : ℕ) (way : List ℕ) (symbol : ℕ) (again : LateFault) (value : Value) (less : Result Value (Unit {0})) → value_within scene k symbol ≡ less
    → value_within scene (suc k) symbol ≡ Ok value → NoneOn scene (suc k) way
    → (value_within scene k symbol ≡ Ok value → value_on scene (suc top) way symbol again ≡ Ok value)
    → (NoneOn scene k (symbol ∷ way) → (other : ℕ) (told : LateFault) (found : Value) → value_within scene k other ≡ Ok found → value_on scene top (symbol ∷ way) other told ≡ Ok found)
    → value_on scene (suc top) way symbol again ≡ Ok value
unfolding value_on
less_or_now scene k top way symbol again value (Ok x) less_is is none before now =
    let same : x ≡ value = one_value (value_within scene (suc k) symbol) x value (within_more scene k symbol x less_is) is in
    before (less_is ∙ ap Ok same)
less_or_now scene k top way symbol again value (Err e) less_is is none before now =
    let open_is = open_there scene (suc k) way symbol value is none in
    let others = now (none_with scene k way symbol e less_is (none_before scene k way none)) in
    let worked = step_within scene (λ other at. value_on scene top (symbol ∷ way) other (fault_in (symbol_at scene symbol).setting faults.Expression at))
    (fault_in (symbol_at scene symbol).setting faults.Symbol) k symbol value
    (λ other at found has. others other (fault_in (symbol_at scene symbol).setting faults.Expression at) found has) is in
    rw (open_is, worked) refl

pub within_on : (scene : SceneParts) (k top : ℕ) (way : List ℕ) (symbol : ℕ) (again : LateFault) (value : Value) → value_within scene k symbol ≡ Ok value → k ≤ top
    → NoneOn scene k way → value_on scene top way symbol again ≡ Ok value
within_on scene zero top way symbol again value is up none = absurd (within_none scene symbol value is)
within_on scene (suc k) zero way symbol again value is up none = absurd (omega arith)
within_on scene (suc k) (suc top) way symbol again value is up none =
    less_or_now scene k top way symbol again value (value_within scene k symbol) refl is none
    (λ before. within_on scene k (suc top) way symbol again value before (omega arith) (none_before scene k way none))
    (λ now other told found has. within_on scene k top (symbol ∷ way) other told found has (omega arith) now)

-- ---- the values of a settled table are those of the symbols

weight_at_most : (value : Option Value) → value_weight value ≤ 1
weight_at_most (Some value) = omega arith
weight_at_most None = omega arith

one_at_most : (values : List (Option Value)) → sum_by value_weight values ≤ length values
one_at_most [] = omega arith
one_at_most (value ∷ values) =
    let rest : sum_by value_weight values ≤ length values = one_at_most values in
    let here : value_weight value ≤ 1 = weight_at_most value in
    let sums : sum_by value_weight (value ∷ values) ≡ value_weight value + sum_by value_weight values = sum_by-cons value_weight value values in
    omega (arith, rest, here, sums)

pub count_at_most : (values : List (Option Value)) → value_count values ≤ length values
unfolding value_count
count_at_most values = one_at_most values

-- a pass that finds something leaves less to find
pub less_left : (scene : SceneParts) (old new : List (Option Value)) (changed : Bool) → changed ≡ true → IsSound scene new → PassesTo changed scene old new (length scene.symbols)
    → length scene.symbols - value_count new < length scene.symbols - value_count old
less_left scene old new true is sound passed =
    let most = count_at_most new in
    omega (arith, most, sound.whole, passed)
less_left scene old new false is sound passed = absurd (false≢true is)

pub nothing_on : (scene : SceneParts) (k : ℕ) → NoneOn scene k []
nothing_on scene k other found on has = false≢true on

none_known : (scene : SceneParts) (values : List (Option Value)) (sound : IsSound scene values) (closed : IsClosed scene values) (symbol : ℕ) (again : LateFault)
    (r : Result Value LateFault) → value_at values symbol ≡ None → value_on scene (length scene.symbols) [] symbol again ≡ r
    → if_value (value_on scene (length scene.symbols) [] symbol again) ≡ None
none_known scene values sound closed symbol again (Ok value) is r_is =
    absurd (no_value scene values sound closed (length scene.symbols) symbol value is (on_within scene (length scene.symbols) [] symbol again value r_is))
none_known scene values sound closed symbol again (Err fault) is r_is = rw r_is refl

module _ (scene : SceneParts) (values : List (Option Value)) (sound : IsSound scene values) (closed : IsClosed scene values) where
  known_by : (symbol : ℕ) (again : LateFault) (own : Option Value) → value_at values symbol ≡ own → if_value (symbol_value scene symbol again) ≡ own
  unfolding symbol_value
  known_by symbol again (Some value) is =
      let up : value_count values ≤ length scene.symbols = rw sound.whole at (count_at_most values) in
      let has = within_on scene (value_count values) (length scene.symbols) [] symbol again value (sound.values_hold symbol value is) up (nothing_on scene (value_count values)) in
      rw has refl
  known_by symbol again None is =
      none_known scene values sound closed symbol again (value_on scene (length scene.symbols) [] symbol again) is refl

  pub known_is : (symbol : ℕ) → known scene symbol ≡ value_at values symbol
  unfolding known
  known_is symbol = known_by symbol no_memory (value_at values symbol) refl

  pub values_are_known : values ≡ known_values scene
  unfolding known_values
  values_are_known =
      ext_get_or None values (map (known scene) (range_with_len 0 (length scene.symbols)))
      (sound.whole ∙ sym (length-map-range_with_len (known scene) 0 (length scene.symbols)))
      (λ i below. let there : i < length scene.symbols = rw sound.whole at below in
      sym (get_or-map-range_with_len (known scene) 0 (length scene.symbols) i i None there (omega arith) ∙ known_is i))
