-- The values of nodes, one node after the other.
use Rattle.std.proofs.Common.{◌≡◌, ◌⊎◌, inl, inr, ℕ, ◌+◌, ◌<◌, ◌≤◌, List, [], ◌∷◌, length, drop, get_or, slice_index_or, Result, Ok, Err, refl, sym, ap, ◌∙◌, add-one}
use Rattle.std.proofs.Math.Seq.{drop-cons}
use Rattle.std.proofs.lemmas.List.{drop_all}
use Rattle.asm_values.specs.declared.values.Value.{Value}
use Rattle.asm_expressions.specs.declared.node.Node.{Node}
use Rattle.asm_expressions.specs.declared.values.ValueFault.{ValueFault}
use Rattle.asm_expressions.specs.declared.values.ValueFault.TheVariants.{Operator, NoMemory}
use Rattle.asm_expressions.specs.Values.{Meanings, GivesValue, worked, values_of, value_of}

pub values_turn : {F : Type 0} (m : Meanings F) (stack more : List Value) (node : Node) (here rest : List Node) → here ≡ node ∷ rest → worked m node stack ≡ Ok more
    → values_of m more rest ≡ values_of m stack here
unfolding values_of
values_turn m stack more node here rest e is = rw (e, is) refl

pub values_stop : {F : Type 0} (m : Meanings F) (stack : List Value) (node : Node) (here rest : List Node) (fault : ValueFault F) → here ≡ node ∷ rest → worked m node stack ≡ Err fault
    → values_of m stack here ≡ Err fault
unfolding values_of
values_stop m stack node here rest fault e is = rw (e, is) refl

nodes_here : (nodes : List Node) (n : ℕ) (d : Node) → n < length nodes → drop n nodes ≡ slice_index_or nodes n d ∷ drop (n + 1) nodes
nodes_here nodes n d room = drop-cons nodes n d room ∙ ap (λ k. get_or nodes n d ∷ drop k nodes) (sym (add-one n))

pub next_value : {F : Type 0} (m : Meanings F) (stack more : List Value) (nodes : List Node) (n : ℕ) (d : Node) (all : Result (List Value) (ValueFault F)) → n < length nodes
    → worked m (slice_index_or nodes n d) stack ≡ Ok more → values_of m stack (drop n nodes) ≡ all → values_of m more (drop (n + 1) nodes) ≡ all
next_value m stack more nodes n d all room is now =
    values_turn m stack more (slice_index_or nodes n d) (drop n nodes) (drop (n + 1) nodes) (nodes_here nodes n d room) is ∙ now

pub value_stops : {F : Type 0} (m : Meanings F) (stack : List Value) (nodes : List Node) (n : ℕ) (d : Node) (fault : ValueFault F) → n < length nodes
    → (fault ≡ NoMemory) ⊎ (worked m (slice_index_or nodes n d) stack ≡ Err fault) → values_of m stack (drop n nodes) ≡ values_of m [] nodes
    → GivesValue {X = Value} (Err fault) (value_of m nodes)
unfolding value_of
value_stops m stack nodes n d fault room (inl e) now = inl (ap Err e)
value_stops m stack nodes n d fault room (inr is) now =
    let all = sym now ∙ values_stop m stack (slice_index_or nodes n d) (drop n nodes) (drop (n + 1) nodes) fault (nodes_here nodes n d room) is in
    inr (rw all refl)

pub last_value : {F : Type 0} (m : Meanings F) (stack rest : List Value) (value : Value) (nodes : List Node) (n : ℕ) → length nodes ≤ n
    → stack ≡ value ∷ rest → values_of m stack (drop n nodes) ≡ values_of m [] nodes → value_of m nodes ≡ Ok value
unfolding value_of values_of
last_value m stack rest value nodes n past is now =
    let none : drop n nodes ≡ [] = drop_all n nodes past in
    let all = sym (rw (none, is) at now) in rw all refl

pub no_value : {F : Type 0} (m : Meanings F) (stack : List Value) (nodes : List Node) (n : ℕ) → length nodes ≤ n
    → stack ≡ [] → values_of m stack (drop n nodes) ≡ values_of m [] nodes → value_of m nodes ≡ Err (Operator 0)
unfolding value_of values_of
no_value m stack nodes n past is now =
    let none : drop n nodes ≡ [] = drop_all n nodes past in
    let all = sym (rw (none, is) at now) in rw all refl
