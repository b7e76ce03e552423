-- The symbols so far that all files see, and those that are left.
use Rattle.std.proofs.Common.{◌≡◌, ℕ, ◌+◌, ◌<◌, ◌≤◌, Bool, true, false, List, [], ◌∷◌, length, drop, get_or, map, Option, Ok, Err, refl, sym, ap, ◌∙◌, drop-cons, add-one}
use Rattle.std.specs.Prelude.{Result}
use Rattle.std.specs.Option.{is_none}
use Rattle.std.proofs.Math.ListN.{drop_of_length-le}
use Rattle.asm_symbols.specs.declared.globals.PublishFault.{PublishFault}
use Rattle.asm_symbols.specs.declared.globals.PublishFault.TheVariants.{Twice}
use Rattle.asm_symbols.specs.declared.definitions.Definition.{Definition}
use Rattle.asm_symbols.specs.Names.{defined}
use Rattle.asm_symbols.specs.Definitions.{definition_parts}
use Rattle.asm_symbols.specs.Globals.{is_wanted, published}

module _ (wanted : ℕ → List ℕ → Option ℕ) (symbols : List Definition) (number : ℕ) (d symbol : Definition) (names : List ℕ → Option ℕ)
    (whole : Result (List ℕ → Option ℕ) PublishFault) (inside : number < length symbols) (here : symbol ≡ get_or symbols number d)
    (so_far : published wanted number names (map definition_parts (drop number symbols)) ≡ whole) where
  next : drop number symbols ≡ symbol ∷ drop (number + 1) symbols
  next = rw (here, add-one) (drop-cons symbols number d inside)

  from_here : published wanted number names (definition_parts symbol ∷ map definition_parts (drop (number + 1) symbols)) ≡ whole
  from_here = ap (λ (items : List Definition). published wanted number names (map definition_parts items)) (sym next) ∙ so_far

  pub passed_over : is_wanted wanted (definition_parts symbol) ≡ false
      → published wanted (number + 1) names (map definition_parts (drop (number + 1) symbols)) ≡ whole
  unfolding published
  passed_over e = rw e at from_here

  pub made_seen : (after : List ℕ → Option ℕ) → is_wanted wanted (definition_parts symbol) ≡ true → is_none (names symbol.name.now) ≡ true
      → after ≡ defined names symbol.name.now number
      → published wanted (number + 1) after (map definition_parts (drop (number + 1) symbols)) ≡ whole
  unfolding published
  made_seen after e free now = rw now (rw (e, free) at from_here)

  pub taken_twice : is_wanted wanted (definition_parts symbol) ≡ true → is_none (names symbol.name.now) ≡ false → whole ≡ Err (Twice number)
  unfolding published
  taken_twice e free = sym (rw (e, free) at from_here)

pub all_seen : (wanted : ℕ → List ℕ → Option ℕ) (symbols : List Definition) (number : ℕ) (names : List ℕ → Option ℕ)
    (whole : Result (List ℕ → Option ℕ) PublishFault) → length symbols ≤ number
    → published wanted number names (map definition_parts (drop number symbols)) ≡ whole → whole ≡ Ok names
unfolding published
all_seen wanted symbols number names whole ended so_far =
    let none : drop number symbols ≡ [] = drop_of_length-le symbols ended in
    sym (rw none at so_far)
