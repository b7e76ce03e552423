-- The symbols of a program, and what names of expressions mean.
use Rattle.std.specs.Prelude.{ℕ, List, [], slice_index_or, Option, Some, None, Result, Ok, Err}
use Rattle.asm_values.specs.declared.values.Value.{Value}
use Rattle.asm_expressions.specs.declared.node.Node.{Node}
use Rattle.asm_expressions.specs.declared.values.ValueFault.{ValueFault}
use Rattle.asm_expressions.specs.Values.{meanings_of, value_of}
use Rattle.asm_chains.specs.declared.scene.Leaf.{Leaf}
use Rattle.asm_chains.specs.declared.scene.Leaf.TheVariants.{Is, Stands, Missing}
use Rattle.asm_chains.specs.declared.scene.Setting.{Setting}

-- a symbol: its place, if it isn't set; else its expression and where that stands
pub record SymbolParts : Type 0 where
  pub own : Option Value
  pub setting : Setting
  pub nodes : List Node

-- the symbols of a program, what a name is where it stands, and how far chunks begin apart
pub record SceneParts : Type 0 where
  pub symbols : List SymbolParts
  pub leaf : Setting → Node → Leaf
  pub apart : ℕ → ℕ → Option ℕ

abbrev pub no_symbol : SymbolParts
no_symbol =
    record {
      own = None;
      setting = record {
        file = 0;
        statement = 0;
        dot = record { chunk = 0; offset = 0; symbol = None };
      };
      nodes = [];
    }

abbrev pub symbol_at : SceneParts → ℕ → SymbolParts
symbol_at scene symbol = slice_index_or scene.symbols symbol no_symbol

-- the value of a name at a token, by what symbols are worth there
abbrev pub leaf_value : {E : Type 0} → (ℕ → ℕ → Result Value E) → (ℕ → E) → ℕ → Leaf
    → Result Value E
leaf_value symbols missing at (Is value) = Ok value
leaf_value symbols missing at (Stands symbol) = symbols symbol at
leaf_value symbols missing at Missing = Err (missing at)

unfoldable pub named_in : {E : Type 0} → SceneParts → (ℕ → ℕ → Result Value E) → (ℕ → E) → Setting
    → Node → Result Value E
named_in scene symbols missing setting node =
    leaf_value symbols missing node.at (scene.leaf setting node)

-- the value of an expression where it stands
unfoldable pub worked_out : {E : Type 0} → SceneParts → (ℕ → ℕ → Result Value E) → (ℕ → E)
    → Setting → List Node → Result Value (ValueFault E)
worked_out scene symbols missing setting nodes =
    value_of (meanings_of (named_in scene symbols missing setting) scene.apart) nodes

abbrev pub own_or : {E : Type 0} → Option Value → Result Value (ValueFault E)
    → Result Value (ValueFault E)
own_or (Some value) expression = Ok value
own_or None expression = expression

-- the value of a symbol: its place, or that of its expression
unfoldable pub symbol_worked_out : {E : Type 0} → SceneParts → (ℕ → ℕ → Result Value E) → (ℕ → E)
    → SymbolParts → Result Value (ValueFault E)
symbol_worked_out scene symbols missing symbol =
    own_or symbol.own (worked_out scene symbols missing symbol.setting symbol.nodes)
