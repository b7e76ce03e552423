-- The first label of each instruction: of the symbols so far, or else of those that are left.
use Rattle.std.proofs.Common.{◌≡◌, ◌≢◌, ℕ, zero, suc, ◌+◌, ◌==◌, ◌<◌, ◌≤◌, Bool, true, false, cond, List, [], ◌∷◌, length, drop, get_or, set, map, Option, None, Some, refl, sym, ap, ◌∙◌, drop-cons, add-one, arith, get_or-set_same, get_or-set_other}
use Rattle.std.specs.Prelude.{is_none}
use Rattle.std.proofs.lemmas.Bool.Decides.{nat_tests}
use Rattle.std.proofs.Math.ListN.{drop_of_length-le}
use Rattle.asm_symbols.specs.declared.definitions.Definition.{Definition}
use Rattle.asm_symbols.specs.Definitions.{definition_parts}
use Rattle.asm_symbols.specs.Names.{first_of}
use Rattle.asm_places.specs.Places.{PlacesParts}
use Rattle.asm_labels.specs.Labels.{is_this, is_free, label_put, with_label, first_label, instruction_of}

-- an instruction that a symbol is no label of keeps its label
pub kept : (instruction : Option ℕ) (number n : ℕ) (old : Option ℕ) → is_this n instruction ≡ false → old ≡ with_label instruction number n old
kept instruction number n (Some first) e = refl
kept instruction number n None e = rw e refl

pub kept_none : (number n : ℕ) (old : Option ℕ) → old ≡ with_label None number n old
kept_none number n old = kept None number n old refl

-- one that has a label keeps it
pub kept_some : (instruction number n : ℕ) (old : Option ℕ) → is_none old ≡ false → old ≡ with_label (Some instruction) number n old
kept_some instruction number n (Some first) e = refl
kept_some instruction number n None e = absurd (cc)

other : (instruction n : ℕ) → n ≢ instruction → (instruction == n) ≡ false
other instruction n ne = grind (arith, nat_tests)

same : (n : ℕ) → (n == n) ≡ true
same n = grind (arith, nat_tests)

-- another instruction's label
pub kept_other : (instruction number n : ℕ) (old : Option ℕ) → n ≢ instruction → old ≡ with_label (Some instruction) number n old
kept_other instruction number n old ne = kept (Some instruction) number n old (other instruction n ne)

now : (instruction number : ℕ) (old : Option ℕ) → is_none old ≡ true → Some number ≡ with_label (Some instruction) number instruction old
now instruction number (Some first) e = absurd (cc)
now instruction number None e = rw (same instruction) refl

-- the labels after one is put where there was none
put_where : (equal : Bool) (firsts : List (Option ℕ)) (instruction number n : ℕ) → (n == instruction) ≡ equal → instruction < length firsts
    → is_none (get_or firsts instruction None) ≡ true
    → get_or (set firsts instruction (Some number)) n None ≡ with_label (Some instruction) number n (get_or firsts n None)
put_where true firsts instruction number n e inside free =
    let is : n ≡ instruction = grind (arith, nat_tests) in
    rw (is, get_or-set_same) (now instruction number (get_or firsts instruction None) free)
put_where false firsts instruction number n e inside free =
    let ne : n ≢ instruction = grind (arith, nat_tests) in
    rw get_or-set_other (kept_other instruction number n (get_or firsts n None) ne)

pub put : (firsts : List (Option ℕ)) (instruction number n : ℕ) → instruction < length firsts → is_none (get_or firsts instruction None) ≡ true
    → get_or (set firsts instruction (Some number)) n None ≡ with_label (Some instruction) number n (get_or firsts n None)
put firsts instruction number n inside free = put_where (n == instruction) firsts instruction number n refl inside free

-- a place with a label or without one
pub free_inside : (firsts : List (Option ℕ)) (instruction : ℕ) → is_free firsts instruction ≡ true → instruction < length firsts
free_inside [] instruction e = absurd (cc)
free_inside (first ∷ firsts) zero e = omega arith
free_inside (first ∷ firsts) (suc instruction) e = let inside = free_inside firsts instruction e in omega arith

free_none : (firsts : List (Option ℕ)) (instruction : ℕ) → is_free firsts instruction ≡ true → is_none (get_or firsts instruction None) ≡ true
free_none [] instruction e = absurd (cc)
free_none (first ∷ firsts) zero e = e
free_none (first ∷ firsts) (suc instruction) e = free_none firsts instruction e

taken_some : (firsts : List (Option ℕ)) (instruction : ℕ) → instruction < length firsts → is_free firsts instruction ≡ false
    → is_none (get_or firsts instruction None) ≡ false
taken_some [] instruction inside e = absurd (omega arith)
taken_some (first ∷ firsts) zero inside e = e
taken_some (first ∷ firsts) (suc instruction) inside e = taken_some firsts instruction (omega arith) e

kept_where : (equal : Bool) (firsts : List (Option ℕ)) (instruction number n : ℕ) → (n == instruction) ≡ equal → n < length firsts
    → is_free firsts instruction ≡ false → get_or firsts n None ≡ with_label (Some instruction) number n (get_or firsts n None)
kept_where true firsts instruction number n e inside taken =
    let is : n ≡ instruction = grind (arith, nat_tests) in
    let there : instruction < length firsts = omega arith in
    let some : is_none (get_or firsts n None) ≡ false = rw is (taken_some firsts instruction there taken) in
    kept_some instruction number n (get_or firsts n None) some
kept_where false firsts instruction number n e inside taken =
    let ne : n ≢ instruction = grind (arith, nat_tests) in
    kept_other instruction number n (get_or firsts n None) ne

point_by : (free : Bool) (firsts : List (Option ℕ)) (instruction number n : ℕ) → is_free firsts instruction ≡ free → n < length firsts
    → get_or (cond free (set firsts instruction (Some number)) firsts) n None ≡ with_label (Some instruction) number n (get_or firsts n None)
point_by true firsts instruction number n e inside = put firsts instruction number n (free_inside firsts instruction e) (free_none firsts instruction e)
point_by false firsts instruction number n e inside = kept_where (n == instruction) firsts instruction number n refl inside e

pub point : (firsts : List (Option ℕ)) (instruction number n : ℕ) → n < length firsts
    → get_or (label_put firsts instruction number) n None ≡ with_label (Some instruction) number n (get_or firsts n None)
point firsts instruction number n inside = point_by (is_free firsts instruction) firsts instruction number n refl inside

-- a label that is put, before those of the symbols that are left
step_by : (this : Bool) (number : ℕ) (rest : Option ℕ) → first_of (cond this (Some number) None) rest ≡ cond this (Some number) rest
step_by true number rest = refl
step_by false number rest = refl

later_step : (instruction : Option ℕ) (number n : ℕ) (old rest : Option ℕ)
    → first_of (with_label instruction number n old) rest ≡ first_of old (cond (is_this n instruction) (Some number) rest)
later_step instruction number n (Some first) rest = refl
later_step instruction number n None rest = step_by (is_this n instruction) number rest

module _ (places : PlacesParts) (symbols : List Definition) (number : ℕ) (d symbol : Definition) (inside : number < length symbols)
    (here : symbol ≡ get_or symbols number d) where
  next : drop number symbols ≡ symbol ∷ drop (number + 1) symbols
  next = rw (here, add-one) (drop-cons symbols number d inside)

  -- of one instruction
  pub one_more : (n : ℕ) (old new whole : Option ℕ) → new ≡ with_label (instruction_of places (definition_parts symbol)) number n old
      → first_of old (first_label places n number (map definition_parts (drop number symbols))) ≡ whole
      → first_of new (first_label places n (number + 1) (map definition_parts (drop (number + 1) symbols))) ≡ whole
  unfolding first_label
  one_more n old new whole is so_far =
      ap (λ label. first_of label (first_label places n (number + 1) (map definition_parts (drop (number + 1) symbols)))) is
      ∙ later_step (instruction_of places (definition_parts symbol)) number n old
      (first_label places n (number + 1) (map definition_parts (drop (number + 1) symbols)))
      ∙ ap (λ (left : List Definition). first_of old (first_label places n number (map definition_parts left))) (sym next) ∙ so_far

none_later : (old : Option ℕ) → first_of old None ≡ old
none_later (Some first) = refl
none_later None = refl

-- no symbol is left
pub all_put : (places : PlacesParts) (symbols : List Definition) (number n : ℕ) (old whole : Option ℕ) → length symbols ≤ number
    → first_of old (first_label places n number (map definition_parts (drop number symbols))) ≡ whole → old ≡ whole
unfolding first_label
all_put places symbols number n old whole ended so_far =
    let none = drop_of_length-le symbols ended in
    sym (none_later old) ∙ rw none at so_far
