-- A state that is asked for stays one by a step that is hidden.
use Rattle.std.proofs.Common.{◌≡◌, ℕ, zero, suc, ◌+◌, ◌<◌, ◌≤◌, List, [], ◌∷◌, ◌++◌, length, take, slice_get, slice_set, ap, sym, ◌∙◌, refl, subst}
use Rattle.std.specs.Prelude.{Bool, true, false, not, slice_index_or, Some}
use Rattle.std.proofs.lemmas.List.{take_all, take_more}
use Rattle.std.specs.List.{list_all}
use Rattle.std.proofs.lemmas.Option.{none-some, same_Some}
use Rattle.std.proofs.lemmas.Bool.{and_parts}
use Rattle.cheri_model.specs.runs.Machine.{MachineState}
use Rattle.cheri_model.specs.steps.Hart.{HartState}
use Rattle.conditions.specs.Holding.{holds}
use Rattle.conditions.proofs.HiddenLemmas.{hidden_keeps}
use Rattle.explore_sights.specs.Sights as sights
use Rattle.explore_sights.specs.declared.sights.Sight.TheVariants as sight
use Rattle.explore_sights.specs.Watches.{hides, is_met}
use Rattle.explore_sights.specs.declared.watches.Watch.{Watch}

-- one that was put is there, and the one of before can be put back
put_there : {X : Type 0} (xs : List X) (l : ℕ) (x y : X) → slice_get xs l ≡ Some x → slice_get (slice_set xs l y) l ≡ Some y
put_there [] l x y is = absurd (none-some x is)
put_there (z ∷ xs) zero x y is = refl
put_there (z ∷ xs) (suc l) x y is = put_there xs l x y is

put_back : {X : Type 0} (xs : List X) (l : ℕ) (x y : X) → slice_get xs l ≡ Some x → slice_set (slice_set xs l y) l x ≡ xs
put_back [] l x y is = absurd (none-some x is)
put_back (z ∷ xs) zero x y is = ap (λ w. w ∷ xs) (sym (same_Some z x is))
put_back (z ∷ xs) (suc l) x y is = ap (λ ws. z ∷ ws) (put_back xs l x y is)

-- the state with another hart in a place
abbrev with_hart : MachineState → ℕ → HartState → MachineState
with_hart state hart after = record state { harts = slice_set state.harts hart after }

-- a condition that doesn't hold goes on not to hold, where the step back doesn't end it
stays_false : (old new : Bool) → (new ≡ true → old ≡ true) → not old ≡ true → not new ≡ true
stays_false old false back is = refl
stays_false old true back is = absurd (cc (back refl))

keeps : (kind : Bool) (watch : Watch) (before after : HartState) (state : MachineState) (hart : ℕ) →
    watch.holds ≡ kind → hides watch before after ≡ true → slice_get state.harts hart ≡ Some before →
    is_met watch state ≡ true → is_met watch (with_hart state hart after) ≡ true
keeps true watch before after state hart kind hidden here met =
    let hides_it = rw kind at hidden in
    let is_it = rw kind at met in
    rw kind (hidden_keeps watch.condition before after state hart hides_it here is_it)
keeps false watch before after state hart kind hidden here met =
    let hides_it = rw kind at hidden in
    let is_it = rw kind at met in
    rw kind
    (stays_false (holds state watch.condition) (holds (with_hart state hart after) watch.condition)
    (λ now. subst (λ (hs : List HartState). holds (record state { harts = hs }) watch.condition ≡ true)
    (put_back state.harts hart before after here)
    (hidden_keeps watch.condition after before (with_hart state hart after) hart hides_it
    (put_there state.harts hart before after here) now)) is_it)

pub watch_keeps : (watch : Watch) (before after : HartState) (state : MachineState) (hart : ℕ) →
    hides watch before after ≡ true → slice_get state.harts hart ≡ Some before →
    is_met watch state ≡ true → is_met watch (with_hart state hart after) ≡ true
watch_keeps watch before after state hart = keeps watch.holds watch before after state hart refl

-- ---- one by one

all_append : {X : Type 0} (test : X → Bool) (xs : List X) (x : X) → list_all test xs ≡ true → test x ≡ true →
    list_all test (xs ++ x ∷ []) ≡ true
all_append test [] x all so = rw so refl
all_append test (y ∷ xs) x all so =
    let parts = and_parts (test y) (list_all test xs) all in
    rw (parts.0, all_append test xs x parts.1 so) refl

pub all_more : {X : Type 0} (test : X → Bool) (xs : List X) (i : ℕ) (d : X) → i < length xs → list_all test (take i xs) ≡ true →
    test (slice_index_or xs i d) ≡ true → list_all test (take (i + 1) xs) ≡ true
all_more test xs i d within all so =
    ap (list_all test) (take_more xs i d within) ∙ all_append test (take i xs) (slice_index_or xs i d) all so

pub all_of : {X : Type 0} (test : X → Bool) (xs : List X) (i : ℕ) → length xs ≤ i → list_all test (take i xs) ≡ true →
    list_all test xs ≡ true
all_of test xs i past all = ap (list_all test) (sym (take_all i xs past)) ∙ all

pub copy_more : {X : Type 0} (xs : List X) (i : ℕ) (d x : X) (old new : List X) → i < length xs → old ≡ take i xs →
    new ≡ old ++ x ∷ [] → x ≡ slice_index_or xs i d → new ≡ take (i + 1) xs
copy_more xs i d x old new within old_is new_is x_is = new_is ∙ rw (old_is, x_is) (sym (take_more xs i d within))

-- what is so of each is so of one
pub one_of_all : {X : Type 0} (test : X → Bool) (xs : List X) (k : ℕ) (x : X) → list_all test xs ≡ true →
    slice_get xs k ≡ Some x → test x ≡ true
one_of_all test [] k x all is = absurd (none-some x is)
one_of_all test (y ∷ ys) zero x all is =
    subst (λ z. test z ≡ true) (same_Some y x is) (and_parts (test y) (list_all test ys) all).0
one_of_all test (y ∷ ys) (suc k) x all is = one_of_all test ys k x (and_parts (test y) (list_all test ys) all).1 is

pub watches_keep : (watches : List Watch) (number : ℕ) (watch : Watch) (before after : HartState)
    (state : MachineState) (hart : ℕ) → sights.hides (sight.Watches watches) before after ≡ true →
    slice_get watches number ≡ Some watch → slice_get state.harts hart ≡ Some before →
    is_met watch state ≡ true → is_met watch (with_hart state hart after) ≡ true
unfolding sights.hides
watches_keep watches number watch before after state hart hidden is here met =
    watch_keeps watch before after state hart
    (one_of_all (λ w. hides w before after) watches number watch hidden is) here met
