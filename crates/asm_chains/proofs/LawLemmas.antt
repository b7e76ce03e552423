-- The faults of a settled table are those of names that are worked out one on the way to the other.
use Rattle.std.proofs.Common.{◌≡◌, ◌⊎◌, inl, inr, ℕ, zero, suc, ◌+◌, ◌≤◌, ◌<◌, Bool, true, false, ◌&&◌, ◌||◌, not, if◌then◌else◌, ◌==◌, List, [], ◌∷◌, length, get_or, set, Option, Some, None, Result, Ok, Err, refl, sym, ap, ◌∙◌, arith}
use Rattle.std.specs.Prelude.{IsErr}
use Rattle.std.specs.List.{list_any}
use Rattle.std.proofs.Math.Dec.{eqb, ltb}
use Rattle.std.proofs.lemmas.Bool.{eqb-true, eq-eqb, ltb-true, false≢true}
use Rattle.std.proofs.lemmas.List.{get_or-set_same, get_or-set_other, length-set}
use Rattle.asm_tokens.specs.declared.fault.AsmFaultKind.TheVariants as faults
use Rattle.asm_values.specs.declared.values.Value.{Value}
use Rattle.asm_values.specs.declared.values.Value.TheVariants.{Number}
use Rattle.asm_expressions.specs.declared.node.Node.{Node}
use Rattle.asm_expressions.specs.declared.values.ValueFault.{ValueFault}
use Rattle.asm_expressions.specs.declared.values.ValueFault.TheVariants.{Operator, Name, NoMemory}
use Rattle.asm_expressions.specs.Values.{meanings_of, value_of}
use Rattle.asm_chains.specs.declared.scene.LateFault.{LateFault}
use Rattle.asm_chains.specs.declared.scene.Leaf.{Leaf}
use Rattle.asm_chains.specs.declared.scene.Leaf.TheVariants.{Is, Stands, Missing}
use Rattle.asm_chains.specs.declared.scene.Setting.{Setting}
use Rattle.asm_chains.specs.declared.table.Lack.{Lack}
use Rattle.asm_chains.specs.declared.table.Lack.TheVariants.{NoName, NoValue}
use Rattle.asm_chains.specs.Faults.{fault_in, no_memory}
use Rattle.asm_chains.specs.Scenes.{SceneParts, SymbolParts, symbol_at, leaf_value, named_in, worked_out, own_or, symbol_worked_out}
use Rattle.asm_chains.specs.Chains.{or_fault, is_open, value_by, value_on, symbol_value, expression_value}
use Rattle.asm_chains.specs.Tables.{value_at, or_lack, in_table, no_name, by_table, symbol_by_table, lead_by, lead_of, followed, fault_on, symbol_fault, value_or_fault, late_value}
use Rattle.asm_chains.specs.Settling.{value_within, value_count, IsSound, IsClosed, IsSettled}
use Rattle.asm_chains.proofs.Following.{Follows, value_follows}
use Rattle.asm_chains.proofs.WithinLemmas.{Below, extended, same_or_other, within_same, within_none}
use Rattle.asm_chains.proofs.TableLemmas.{count_after, no_value}
use Rattle.asm_chains.proofs.ChainLemmas.{NoneOn, count_at_most, within_on, nothing_on}

-- ---- an expression by both, of which one has the values of a table, and the other the same values

-- what symbols are worth by the second: the values of the table, and these faults
pub record Agrees (values : List (Option Value)) (by : ℕ → LateFault → Result Value LateFault) (fault : ℕ → LateFault → LateFault) : Type 0 where
  pub known : (symbol : ℕ) (again : LateFault) (value : Value) → value_at values symbol ≡ Some value → by symbol again ≡ Ok value
  pub unknown : (symbol : ℕ) (again : LateFault) → value_at values symbol ≡ None → by symbol again ≡ Err (fault symbol again)

module _ (scene : SceneParts) (values : List (Option Value)) (by : ℕ → LateFault → Result Value LateFault) (fault : ℕ → LateFault → LateFault) (agrees : Agrees values by fault) where
  abbrev uses : Setting → ℕ → ℕ → Result Value LateFault
  uses setting other at = by other (fault_in setting faults.Expression at)

  in_by : (setting : Setting) (other at : ℕ) (value : Value) (own : Option Value) → value_at values other ≡ own → or_lack own other at ≡ Ok value → uses setting other at ≡ Ok value
  in_by setting other at value (Some x) own_is is =
      let same : x ≡ value = cc in agrees.known other (fault_in setting faults.Expression at) value (own_is ∙ ap Some same)
  in_by setting other at value None own_is is = cc

  below : (setting : Setting) → Below (in_table values) (uses setting)
  below setting other at value is = in_by setting other at value (value_at values other) refl is

  lack_by : (setting : Setting) (symbol at : ℕ) (lack : Lack) (own : Option Value) → value_at values symbol ≡ own → or_lack own symbol at ≡ Err lack
      → uses setting symbol at ≡ Err (followed fault (lead_by setting no_memory (Err (Name lack))))
  lack_by setting symbol at lack (Some x) own_is is = cc
  lack_by setting symbol at lack None own_is is =
      let which : lack ≡ NoValue symbol at = cc in
      rw which (agrees.unknown symbol (fault_in setting faults.Expression at) own_is)

  leaf_by : (setting : Setting) (at : ℕ) (lack : Lack) (leaf : Leaf) → leaf_value (in_table values) no_name at leaf ≡ Err lack
      → leaf_value (uses setting) (fault_in setting faults.Symbol) at leaf ≡ Err (followed fault (lead_by setting no_memory (Err (Name lack))))
  leaf_by setting at lack (Is value) is = cc
  leaf_by setting at lack (Stands symbol) is = lack_by setting symbol at lack (value_at values symbol) refl is
  leaf_by setting at lack Missing is =
      let which : lack ≡ NoName at = cc in rw which refl

  name_by : (setting : Setting) (lack : Lack) (node : Node) → named_in scene (in_table values) no_name setting node ≡ Err lack
      → named_in scene (uses setting) (fault_in setting faults.Symbol) setting node ≡ Err (followed fault (lead_by setting no_memory (Err (Name lack))))
  unfolding named_in
  name_by setting lack node is = leaf_by setting node.at lack (scene.leaf setting node) is

  outcome_by : (setting : Setting) (first : Result Value (ValueFault Lack)) (second : Result Value (ValueFault LateFault))
      → Follows (meanings_of (named_in scene (in_table values) no_name setting) scene.apart)
      (meanings_of (named_in scene (uses setting) (fault_in setting faults.Symbol) setting) scene.apart) first second
      → or_fault setting second ≡ value_or_fault fault setting first
  outcome_by setting (Ok value) second follows = rw follows refl
  outcome_by setting (Err (Operator at)) second follows = rw follows refl
  outcome_by setting (Err NoMemory) second follows = rw follows refl
  outcome_by setting (Err (Name lack)) second follows =
      let is = follows.2 _ (name_by setting lack follows.0 follows.1) in rw is refl

  pub expression_by : (setting : Setting) (nodes : List Node)
      → or_fault setting (worked_out scene (uses setting) (fault_in setting faults.Symbol) setting nodes) ≡ value_or_fault fault setting (by_table scene values setting nodes)
  unfolding worked_out by_table
  expression_by setting nodes =
      outcome_by setting _ _
      (value_follows (meanings_of (named_in scene (in_table values) no_name setting) scene.apart)
      (meanings_of (named_in scene (uses setting) (fault_in setting faults.Symbol) setting) scene.apart)
      (extended scene (in_table values) (uses setting) no_name (fault_in setting faults.Symbol) (below setting) setting) nodes)

  -- a fault doesn't depend on what is told of a value
  told_alike : (setting : Setting) (again : LateFault) (x : ValueFault Lack) → lead_by setting no_memory (Err x) ≡ lead_by setting again (Err x)
  told_alike setting again (Operator at) = refl
  told_alike setting again (Name (NoName at)) = refl
  told_alike setting again (Name (NoValue symbol at)) = refl
  told_alike setting again NoMemory = refl

  refused_by : (setting : Setting) (again : LateFault) (first : Result Value (ValueFault Lack)) → IsErr first
      → value_or_fault fault setting first ≡ Err (followed fault (lead_by setting again first))
  refused_by setting again (Ok value) none = absurd (false≢true none)
  refused_by setting again (Err x) none = ap (λ lead. Err (followed fault lead)) (told_alike setting again x)

  own_by : (own : Option Value) (setting : Setting) (nodes : List Node) (again : LateFault) → IsErr (own_or own (worked_out scene (in_table values) no_name setting nodes))
      → or_fault setting (own_or own (worked_out scene (uses setting) (fault_in setting faults.Symbol) setting nodes))
      ≡ Err (followed fault (lead_by setting again (own_or own (worked_out scene (in_table values) no_name setting nodes))))
  unfolding by_table
  own_by (Some place) setting nodes again none = absurd (false≢true none)
  own_by None setting nodes again none =
      expression_by setting nodes ∙ refused_by setting again (worked_out scene (in_table values) no_name setting nodes) none

  pub symbol_by : (symbol : SymbolParts) (again : LateFault) → IsErr (symbol_worked_out scene (in_table values) no_name symbol)
      → value_by scene by symbol ≡ Err (followed fault (lead_by symbol.setting again (symbol_worked_out scene (in_table values) no_name symbol)))
  unfolding symbol_worked_out
  symbol_by symbol again none = own_by symbol.own symbol.setting symbol.nodes again none

-- ---- a symbol without a value, on any way

-- a table in which those on the way are marked besides
pub record IsWay (scene : SceneParts) (values marked : List (Option Value)) (way : List ℕ) : Type 0 where
  pub whole : length marked ≡ length scene.symbols
  pub counted : value_count marked ≡ value_count values + length way
  pub unmarked : (symbol : ℕ) → value_at values symbol ≡ None → list_any (λ n. n == symbol) way ≡ false → value_at marked symbol ≡ None
  pub unvalued : (symbol : ℕ) → list_any (λ n. n == symbol) way ≡ true → value_at values symbol ≡ None

and_true : (a b : Bool) → (a && b) ≡ true → (a ≡ true) × (b ≡ true)
and_true true b is = (refl, is)
and_true false b is = absurd (false≢true is)

not_is : (a : Bool) → not a ≡ true → a ≡ false
not_is true is = absurd (false≢true is)
not_is false is = refl

mark : Value
mark = Number 0

on_head : (symbol other : ℕ) (way : List ℕ) (test : Bool) → (symbol == other) ≡ test → list_any (λ n. n == other) (symbol ∷ way) ≡ false
    → (list_any (λ n. n == other) way ≡ false) × (other ≡ symbol → ⊥)
on_head symbol other way true is none = absurd (false≢true (sym (rw is at none)))
on_head symbol other way false is none =
    (rw is at none, λ same. false≢true (sym is ∙ eq-eqb symbol other (sym same)))

or_head : (symbol other : ℕ) (way : List ℕ) (test : Bool) → (symbol == other) ≡ test → list_any (λ n. n == other) (symbol ∷ way) ≡ true
    → (symbol ≡ other) ⊎ (list_any (λ n. n == other) way ≡ true)
or_head symbol other way true is on = inl (eqb-true symbol other is)
or_head symbol other way false is on = inr (rw is at on)

module _ (scene : SceneParts) (values : List (Option Value)) (sound : IsSound scene values) (closed : IsClosed scene values) where
  longer : (marked : List (Option Value)) (way : List ℕ) (symbol : ℕ) → IsWay scene values marked way → is_open scene way symbol ≡ true → value_at values symbol ≡ None
      → IsWay scene values (set marked symbol (Some mark)) (symbol ∷ way)
  longer marked way symbol is opened none =
      let both = and_true _ _ opened in
      let there : symbol < length scene.symbols = ltb-true symbol (length scene.symbols) both.0 in
      let free = not_is _ both.1 in
      let inside : symbol < length marked = omega (arith, is.whole) in
      let here = is.unmarked symbol none free in
      let one_more = count_after marked symbol mark inside here in
      record {
        whole = length-set marked symbol (Some mark) ∙ is.whole;
        counted = omega (arith, one_more, is.counted);
        unmarked = λ other other_none off.
            let apart = on_head symbol other way (symbol == other) refl off in
            get_or-set_other marked symbol other (Some mark) None apart.1 ∙ is.unmarked other other_none apart.0;
        unvalued = λ other on.
            elim (or_head symbol other way (symbol == other) refl on) [ inl same ↦ rw (← same) none | inr before ↦ is.unvalued other before ];
      }

  none_on_way : (marked : List (Option Value)) (way : List ℕ) → IsWay scene values marked way → NoneOn scene (value_count values) way
  none_on_way marked way is other found on has = no_value scene values sound closed (value_count values) other found (is.unvalued other on) has

  room : (marked : List (Option Value)) (way : List ℕ) → IsWay scene values marked way → value_count values + length way ≤ length scene.symbols
  room marked way is = let most = count_at_most marked in omega (arith, most, is.whole, is.counted)

  known_on : (left : ℕ) (marked : List (Option Value)) (way : List ℕ) → IsWay scene values marked way → left + length way ≡ length scene.symbols
      → (symbol : ℕ) (again : LateFault) (value : Value) → value_at values symbol ≡ Some value → value_on scene left way symbol again ≡ Ok value
  known_on left marked way is all symbol again value has =
      let most = room marked way is in
      let up : value_count values ≤ left = omega (arith, most, all) in
      within_on scene (value_count values) left way symbol again value (sound.values_hold symbol value has) up (none_on_way marked way is)

  open_is_there : (way : List ℕ) (symbol : ℕ) → is_open scene way symbol ≡ true → symbol < length scene.symbols
  open_is_there way symbol opened = ltb-true symbol (length scene.symbols) (and_true _ _ opened).0

  -- one step on a way, by what symbols are worth on the longer one
  step_on : (left : ℕ) (way : List ℕ) (symbol : ℕ) (again : LateFault) (test : Bool) → is_open scene way symbol ≡ test → value_at values symbol ≡ None
      → (is_open scene way symbol ≡ true → Agrees values (value_on scene left (symbol ∷ way)) (fault_on scene values left (symbol ∷ way)))
      → value_on scene (suc left) way symbol again ≡ Err (fault_on scene values (suc left) way symbol again)
  unfolding value_on fault_on lead_of symbol_by_table
  step_on left way symbol again true opened none agrees =
      let refused = closed symbol (open_is_there way symbol opened) none in
      let stepped = symbol_by scene values (value_on scene left (symbol ∷ way)) (fault_on scene values left (symbol ∷ way)) (agrees opened) (symbol_at scene symbol) again refused in
      rw opened stepped
  step_on left way symbol again false shut none agrees = rw shut refl

  -- what symbols are worth on a way, on which there are as many steps left as symbols that aren't on it
  pub on_way : (left : ℕ) (marked : List (Option Value)) (way : List ℕ) → IsWay scene values marked way → left + length way ≡ length scene.symbols
      → Agrees values (value_on scene left way) (fault_on scene values left way)
  unfolding value_on fault_on
  on_way zero marked way is all = record {
    known = known_on zero marked way is all;
    unknown = λ symbol again none. refl;
  }
  on_way (suc left) marked way is all = record {
    known = known_on (suc left) marked way is all;
    unknown = λ symbol again none.
        step_on left way symbol again (is_open scene way symbol) refl none
        (λ opened. on_way left (set marked symbol (Some mark)) (symbol ∷ way) (longer marked way symbol is opened none) (omega (arith, all)));
  }

  no_way : IsWay scene values values []
  no_way = record {
    whole = sound.whole;
    counted = omega arith;
    unmarked = λ symbol none off. none;
    unvalued = λ symbol on. absurd (false≢true on);
  }

  at_first : Agrees values (symbol_value scene) (symbol_fault scene values)
  unfolding symbol_value symbol_fault
  at_first =
      let none_on : length scene.symbols + length {A = ℕ} [] ≡ length scene.symbols = omega arith in
      let all = on_way (length scene.symbols) values [] no_way none_on in
      record { known = all.known; unknown = all.unknown }

  pub late_is_expression : (setting : Setting) (nodes : List Node) → late_value scene values setting nodes ≡ expression_value scene setting nodes
  unfolding late_value expression_value
  late_is_expression setting nodes = sym (expression_by scene values (symbol_value scene) (symbol_fault scene values) at_first setting nodes)
