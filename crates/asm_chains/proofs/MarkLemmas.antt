-- Symbols that were met, and the fault of one after the other.
use Rattle.std.proofs.Common.{◌≡◌, ◌⊎◌, inl, inr, ℕ, suc, ◌+◌, ◌-◌, ◌≤◌, ◌<◌, Bool, true, false, ◌==◌, List, [], ◌∷◌, length, get_or, set, replicate, Option, refl, sym, ◌∙◌, arith}
use Rattle.std.specs.List.{list_any}
use Rattle.std.proofs.Math.Dec.{eqb, ltb}
use Rattle.std.proofs.lemmas.Bool.{eq-eqb, ne_eqb, lt-ltb, ltb-true, false≢true}
use Rattle.std.proofs.lemmas.List.{get_or_past, get_or-set_same, get_or-set_other, get_or-replicate, length-set, length-replicate}
use Rattle.asm_values.specs.declared.values.Value.{Value}
use Rattle.asm_chains.specs.declared.scene.LateFault.{LateFault}
use Rattle.asm_chains.specs.declared.table.Lead.{Lead}
use Rattle.asm_chains.specs.declared.table.Lead.TheVariants.{Ends, Leads}
use Rattle.asm_chains.specs.Scenes.{SceneParts}
use Rattle.asm_chains.specs.Chains.{is_open}
use Rattle.asm_chains.specs.Marks.{is_marked, Meets, IsMarked}
use Rattle.asm_chains.specs.Tables.{lead_of, followed, fault_on, symbol_fault}
use Rattle.asm_chains.proofs.WithinLemmas.{same_or_other, there_or_beyond}

not_below : (a b : ℕ) → b ≤ a → ltb a b ≡ false
not_below a b beyond = by_test (ltb a b) refl
  where
    by_test : (test : Bool) → ltb a b ≡ test → ltb a b ≡ false
    by_test false is = is
    by_test true is = absurd (let below : a < b = ltb-true a b is in omega arith)

-- ---- marks

pub none_marked : (scene : SceneParts) (count : ℕ) → count ≡ length scene.symbols → IsMarked scene [] (replicate count false)
none_marked scene count is =
    (length-replicate count false ∙ is, λ symbol there. let inside : symbol < count = omega (arith, is) in get_or-replicate count symbol false true inside)

marked_inside : (met : List Bool) (symbol : ℕ) → (symbol < length met) ⊎ (length met ≤ symbol) → is_marked met symbol ≡ false → symbol < length met
marked_inside met symbol (inl there) is = there
marked_inside met symbol (inr beyond) is = absurd (false≢true (sym is ∙ get_or_past met symbol true beyond))

pub is_inside : (met : List Bool) (symbol : ℕ) → is_marked met symbol ≡ false → symbol < length met
is_inside met symbol is = marked_inside met symbol (there_or_beyond symbol (length met)) is

marked_other : (scene : SceneParts) (way : List ℕ) (met : List Bool) (symbol other : ℕ) → IsMarked scene way met → symbol < length met → other < length scene.symbols
    → (other ≡ symbol) ⊎ (other ≡ symbol → ⊥) → is_marked (set met symbol true) other ≡ list_any (λ n. n == other) (symbol ∷ way)
marked_other scene way met symbol other marked inside there (inl same) =
    let here : get_or (set met symbol true) symbol true ≡ true = get_or-set_same met symbol true true inside in
    let found : eqb symbol symbol ≡ true = eq-eqb symbol symbol refl in
    rw (same, here, found) refl
marked_other scene way met symbol other marked inside there (inr differs) =
    let as_before : get_or (set met symbol true) other true ≡ get_or met other true = get_or-set_other met symbol other true true differs in
    let unequal : eqb symbol other ≡ false = ne_eqb symbol other (λ e. differs (sym e)) in
    rw (as_before, unequal) (marked.1 other there)

pub one_marked : (scene : SceneParts) (way : List ℕ) (met new : List Bool) (symbol : ℕ) → IsMarked scene way met → Meets true met new symbol → IsMarked scene (symbol ∷ way) new
one_marked scene way met new symbol marked meets =
    let inside = is_inside met symbol meets.0 in
    rw meets.1
    (length-set met symbol true ∙ marked.0, λ other there. marked_other scene way met symbol other marked inside there (same_or_other other symbol))

-- ---- what the marks say

pub open_by_marks : (scene : SceneParts) (way : List ℕ) (met : List Bool) (symbol : ℕ) → IsMarked scene way met → is_marked met symbol ≡ false → is_open scene way symbol ≡ true
open_by_marks scene way met symbol marked is =
    let inside = is_inside met symbol is in
    let there : symbol < length scene.symbols = omega (arith, marked.0) in
    let below : ltb symbol (length scene.symbols) ≡ true = lt-ltb symbol (length scene.symbols) there in
    let free : list_any (λ n. n == symbol) way ≡ false = sym (marked.1 symbol there) ∙ is in
    rw (below, free) refl

closed_by : (scene : SceneParts) (way : List ℕ) (met : List Bool) (symbol : ℕ) → IsMarked scene way met → is_marked met symbol ≡ true
    → (symbol < length scene.symbols) ⊎ (length scene.symbols ≤ symbol) → is_open scene way symbol ≡ false
closed_by scene way met symbol marked is (inl there) =
    let below : ltb symbol (length scene.symbols) ≡ true = lt-ltb symbol (length scene.symbols) there in
    let on : list_any (λ n. n == symbol) way ≡ true = sym (marked.1 symbol there) ∙ is in
    rw (below, on) refl
closed_by scene way met symbol marked is (inr beyond) =
    let none : ltb symbol (length scene.symbols) ≡ false = not_below symbol (length scene.symbols) beyond in
    rw none refl

pub closed_by_marks : (scene : SceneParts) (way : List ℕ) (met : List Bool) (symbol : ℕ) → IsMarked scene way met → is_marked met symbol ≡ true → is_open scene way symbol ≡ false
closed_by_marks scene way met symbol marked is = closed_by scene way met symbol marked is (there_or_beyond symbol (length scene.symbols))

pub met_again : (is_new : Bool) (old new : List Bool) (symbol : ℕ) → is_new ≡ false → Meets is_new old new symbol → is_marked old symbol ≡ true
met_again true old new symbol is meets = absurd (false≢true (sym is))
met_again false old new symbol is meets = meets

pub met_first : (is_new : Bool) (old new : List Bool) (symbol : ℕ) → is_new ≡ true → Meets is_new old new symbol → Meets true old new symbol
met_first true old new symbol is meets = meets
met_first false old new symbol is meets = absurd (false≢true is)

-- ---- one symbol after the other

pub fault_first : (scene : SceneParts) (values : List (Option Value)) (count symbol : ℕ) (again : LateFault) → count ≡ length scene.symbols
    → fault_on scene values (count - 0) [] symbol again ≡ symbol_fault scene values symbol again
unfolding symbol_fault
fault_first scene values count symbol again is =
    let same : count - 0 ≡ length scene.symbols = omega (arith, is) in rw same refl

-- an expression's own fault, and that of the symbol that it leads to
pub ends_at : (symbols : ℕ → LateFault → LateFault) (lead : Lead) (fault whole : LateFault) → lead ≡ Ends fault → followed symbols lead ≡ whole → fault ≡ whole
ends_at symbols lead fault whole is whole_is = rw is at whole_is

pub leads_to : (symbols : ℕ → LateFault → LateFault) (lead : Lead) (next : ℕ) (fault whole : LateFault) → lead ≡ Leads next fault → followed symbols lead ≡ whole
    → symbols next fault ≡ whole
leads_to symbols lead next fault whole is whole_is = rw is at whole_is

module _ (scene : SceneParts) (values : List (Option Value)) (count step : ℕ) (way : List ℕ) (at : ℕ) (told whole : LateFault)
    (so_far : fault_on scene values (count - step) way at told ≡ whole) where
  fault_now : step < count → fault_on scene values (suc (count - (step + 1))) way at told ≡ whole
  fault_now below = let same : count - step ≡ suc (count - (step + 1)) = omega arith in rw same at so_far

  pub fault_again : step < count → is_open scene way at ≡ false → told ≡ whole
  unfolding fault_on
  fault_again below closed = rw closed at (fault_now below)

  pub fault_leads : step < count → is_open scene way at ≡ true
      → followed (fault_on scene values (count - (step + 1)) (at ∷ way)) (lead_of scene values at told) ≡ whole
  unfolding fault_on
  fault_leads below opened = rw opened at (fault_now below)

  pub fault_last : count ≤ step → told ≡ whole
  unfolding fault_on
  fault_last past = let none : count - step ≡ 0 = omega arith in rw none at so_far
