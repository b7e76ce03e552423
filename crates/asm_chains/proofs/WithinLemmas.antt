-- Values within so many steps: more steps change no value.
use Rattle.std.proofs.Common.{◌≡◌, ◌⊎◌, inl, inr, ℕ, zero, suc, ◌+◌, ◌-◌, ◌≤◌, ◌<◌, Bool, true, false, List, length, Option, Some, None, Result, Ok, Err, refl, ap, arith, add-zero, add-suc}
use Rattle.std.proofs.Math.Dec.{eqb, ltb}
use Rattle.std.proofs.lemmas.Bool.{eqb-true, eqb-false, ltb-true, ltb-false}
use Rattle.std.proofs.lemmas.List.{get_or_past}
use Rattle.asm_values.specs.declared.values.Value.{Value}
use Rattle.asm_expressions.specs.declared.node.Node.{Node}
use Rattle.asm_expressions.specs.declared.values.ValueFault.{ValueFault}
use Rattle.asm_expressions.specs.Values.{meanings_of, value_of, values_of}
use Rattle.asm_chains.specs.declared.scene.Leaf.{Leaf}
use Rattle.asm_chains.specs.declared.scene.Leaf.TheVariants.{Is, Stands, Missing}
use Rattle.asm_chains.specs.declared.scene.Setting.{Setting}
use Rattle.asm_chains.specs.Scenes.{SceneParts, SymbolParts, no_symbol, symbol_at, leaf_value, named_in, worked_out, own_or, symbol_worked_out}
use Rattle.asm_chains.specs.Settling.{plain, value_within}
use Rattle.asm_chains.proofs.Following.{Extends, value_follows}

there_by : (a b : ℕ) (test : Bool) → ltb a b ≡ test → (a < b) ⊎ (b ≤ a)
there_by a b true is = inl (ltb-true a b is)
there_by a b false is = inr (ltb-false a b is)

pub there_or_beyond : (a b : ℕ) → (a < b) ⊎ (b ≤ a)
there_or_beyond a b = there_by a b (ltb a b) refl

-- two numbers are the same or not
same_by : (a b : ℕ) (test : Bool) → eqb a b ≡ test → (a ≡ b) ⊎ (a ≡ b → ⊥)
same_by a b true is = inl (eqb-true a b is)
same_by a b false is = inr (eqb-false a b is)

pub same_or_other : (a b : ℕ) → (a ≡ b) ⊎ (a ≡ b → ⊥)
same_or_other a b = same_by a b (eqb a b) refl

-- a value is no fault, and one answer has one value
pub ok_or_err : {X E : Type 0} (r : Result X E) (x : X) (e : E) → r ≡ Ok x → r ≡ Err e → ⊥
ok_or_err r x e good bad = cc

pub one_value : {X E : Type 0} (r : Result X E) (x y : X) → r ≡ Ok x → r ≡ Ok y → x ≡ y
one_value r x y first second = cc

-- what symbols are worth, by more values
abbrev pub Below : {E G : Type 0} → (ℕ → ℕ → Result Value E) → (ℕ → ℕ → Result Value G) → Type 0
Below a b = (other at : ℕ) (value : Value) → a other at ≡ Ok value → b other at ≡ Ok value

leaf_more : {E G : Type 0} (a : ℕ → ℕ → Result Value E) (b : ℕ → ℕ → Result Value G) (am : ℕ → E) (bm : ℕ → G) → Below a b
    → (leaf : Leaf) (at : ℕ) (value : Value) → leaf_value a am at leaf ≡ Ok value → leaf_value b bm at leaf ≡ Ok value
leaf_more a b am bm more (Is own) at value is = cc
leaf_more a b am bm more (Stands symbol) at value is = more symbol at value is
leaf_more a b am bm more Missing at value is = cc

module _ {E G : Type 0} (scene : SceneParts) (a : ℕ → ℕ → Result Value E) (b : ℕ → ℕ → Result Value G) (am : ℕ → E) (bm : ℕ → G) (more : Below a b) where
  pub extended : (setting : Setting) → Extends (meanings_of (named_in scene a am setting) scene.apart) (meanings_of (named_in scene b bm setting) scene.apart)
  unfolding named_in
  extended setting = record {
    named = λ node value is. leaf_more a b am bm more (scene.leaf setting node) node.at value is;
    apart = refl;
  }

  expression_more : (setting : Setting) (nodes : List Node) (value : Value) → worked_out scene a am setting nodes ≡ Ok value → worked_out scene b bm setting nodes ≡ Ok value
  unfolding worked_out
  expression_more setting nodes value is =
      rw is at (value_follows (meanings_of (named_in scene a am setting) scene.apart) (meanings_of (named_in scene b bm setting) scene.apart) (extended setting) nodes)

  own_more : (own : Option Value) (setting : Setting) (nodes : List Node) (value : Value)
      → own_or own (worked_out scene a am setting nodes) ≡ Ok value → own_or own (worked_out scene b bm setting nodes) ≡ Ok value
  own_more (Some place) setting nodes value is = cc
  own_more None setting nodes value is = expression_more setting nodes value is

  -- a symbol that has a value has it by more values too
  pub symbol_more : (symbol : SymbolParts) (value : Value) → symbol_worked_out scene a am symbol ≡ Ok value → symbol_worked_out scene b bm symbol ≡ Ok value
  unfolding symbol_worked_out
  symbol_more symbol value is = own_more symbol.own symbol.setting symbol.nodes value is

-- a number that is no symbol has no value
pub no_symbol_is_err : {E : Type 0} (scene : SceneParts) (a : ℕ → ℕ → Result Value E) (am : ℕ → E) (value : Value) → symbol_worked_out scene a am no_symbol ≡ Ok value → ⊥
unfolding symbol_worked_out worked_out value_of values_of
no_symbol_is_err scene a am value is = cc

pub beyond_is_err : {E : Type 0} (scene : SceneParts) (a : ℕ → ℕ → Result Value E) (am : ℕ → E) (symbol : ℕ) (value : Value) → length scene.symbols ≤ symbol
    → symbol_worked_out scene a am (symbol_at scene symbol) ≡ Ok value → ⊥
beyond_is_err scene a am symbol value beyond is =
    let none : symbol_at scene symbol ≡ no_symbol = get_or_past scene.symbols symbol no_symbol beyond in
    no_symbol_is_err scene a am value (rw none at is)

pub plain_is : (r : Result Value (ValueFault (Unit {0}))) (value : Value) → plain r ≡ Ok value → r ≡ Ok value
plain_is (Ok x) value is = cc
plain_is (Err fault) value is = cc

pub is_plain : (r : Result Value (ValueFault (Unit {0}))) (value : Value) → r ≡ Ok value → plain r ≡ Ok value
is_plain r value is = ap plain is

-- one step more
pub within_more : (scene : SceneParts) (k symbol : ℕ) (value : Value) → value_within scene k symbol ≡ Ok value → value_within scene (suc k) symbol ≡ Ok value
unfolding value_within
within_more scene zero symbol value is = cc
within_more scene (suc k) symbol value is =
    is_plain _ value
    (symbol_more scene (λ other at. value_within scene k other) (λ other at. value_within scene (suc k) other) (λ at. tt) (λ at. tt)
    (λ other at found has. within_more scene k other found has) (symbol_at scene symbol) value (plain_is _ value is))

within_plus : (scene : SceneParts) (k more symbol : ℕ) (value : Value) → value_within scene k symbol ≡ Ok value → value_within scene (k + more) symbol ≡ Ok value
within_plus scene k zero symbol value is = rw add-zero is
within_plus scene k (suc more) symbol value is =
    rw add-suc (within_more scene (k + more) symbol value (within_plus scene k more symbol value is))

pub within_up : (scene : SceneParts) (k top symbol : ℕ) (value : Value) → k ≤ top → value_within scene k symbol ≡ Ok value → value_within scene top symbol ≡ Ok value
within_up scene k top symbol value up is =
    let same : k + (top - k) ≡ top = omega arith in
    rw same at (within_plus scene k (top - k) symbol value is)

-- whatever the steps, there is one value
pub within_same : (scene : SceneParts) (k m symbol : ℕ) (first second : Value) → value_within scene k symbol ≡ Ok first → value_within scene m symbol ≡ Ok second → first ≡ second
within_same scene k m symbol first second one other =
    one_value (value_within scene (k + m) symbol) first second
    (within_up scene k (k + m) symbol first (omega arith) one) (within_up scene m (k + m) symbol second (omega arith) other)

-- the value by one step more, of those within so many
pub within_step : {E : Type 0} (scene : SceneParts) (a : ℕ → ℕ → Result Value E) (am : ℕ → E) (k symbol : ℕ) (value : Value)
    → ((other at : ℕ) (found : Value) → a other at ≡ Ok found → value_within scene k other ≡ Ok found)
    → symbol_worked_out scene a am (symbol_at scene symbol) ≡ Ok value → value_within scene (suc k) symbol ≡ Ok value
unfolding value_within
within_step scene a am k symbol value more is =
    is_plain _ value (symbol_more scene a (λ other at. value_within scene k other) am (λ at. tt) more (symbol_at scene symbol) value is)

-- and back: what has a value within some steps has it by those within one step less
pub step_within : {E : Type 0} (scene : SceneParts) (a : ℕ → ℕ → Result Value E) (am : ℕ → E) (k symbol : ℕ) (value : Value)
    → ((other at : ℕ) (found : Value) → value_within scene k other ≡ Ok found → a other at ≡ Ok found)
    → value_within scene (suc k) symbol ≡ Ok value → symbol_worked_out scene a am (symbol_at scene symbol) ≡ Ok value
unfolding value_within
step_within scene a am k symbol value more is =
    symbol_more scene (λ other at. value_within scene k other) a (λ at. tt) am more (symbol_at scene symbol) value (plain_is _ value is)

pub within_none : (scene : SceneParts) (symbol : ℕ) (value : Value) → value_within scene zero symbol ≡ Ok value → ⊥
unfolding value_within
within_none scene symbol value is = cc

-- only symbols that are there have values
pub within_there : (scene : SceneParts) (k symbol : ℕ) (value : Value) → value_within scene k symbol ≡ Ok value → symbol < length scene.symbols
unfolding value_within
within_there scene zero symbol value is = cc
within_there scene (suc k) symbol value is =
    elim (there_or_beyond symbol (length scene.symbols)) [
      | inl there ↦ there
      | inr beyond ↦ absurd (beyond_is_err scene (λ other at. value_within scene k other) (λ at. tt) symbol value beyond (plain_is _ value is))
    ]
