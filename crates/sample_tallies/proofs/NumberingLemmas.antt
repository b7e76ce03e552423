-- What is kept beside numbers stays so.
use Rattle.std.proofs.Common.{◌≡◌, ℕ, ◌+◌, ◌<◌, List, [], ◌∷◌, ◌++◌, length, length-append, refl, ap, sym, ◌∙◌, subst, arith, inl, inr, ◌⊎◌}
use Rattle.std.specs.Prelude.{Option, Some, None, IsSome, IfSome, slice_get, slice_set}
use Rattle.std.proofs.lemmas.Bool.{cases_eq, cases_lt}
use Rattle.std.proofs.lemmas.List.{length-set}
use Rattle.std.proofs.lemmas.Option.{same_Some, none-some, slice_get_within}
use Rattle.cap_model.specs.values.CapValue.{CapValue}
use Rattle.sample_steps.specs.declared.writes.Change.{Change}
use Rattle.sample_runs.specs.Memories.{undone}
use Rattle.state_store.specs.Stores.{Stored, hart_at, memory_at, Keeps}
use Rattle.state_store.proofs.HartLemmas.{get_set_same, get_set_other}
use Rattle.state_store.proofs.ValueLemmas.{last_item, earlier_item}
use Rattle.state_store.proofs.NumberedLemmas.{some_of}
use Rattle.state_store.proofs.StoreLemmas.{hart_at_kept, memory_at_kept}
use Rattle.sample_tallies.specs.declared.numbering.KnownHart.{KnownHart}
use Rattle.sample_tallies.specs.declared.numbering.KnownMemory.{KnownMemory}
use Rattle.sample_tallies.specs.Known.{opening_of, IsNumbering, Adds, AddsMemory, IsKnown}

-- what is there is another name of this
pub some_is : {A : Type 0} (o : Option A) (a b : A) → IfSome o (λ x. x ≡ a) → a ≡ b → IfSome o (λ x. x ≡ b)
some_is {A} None a b is same = is
some_is {A} (Some x) a b is same = is ∙ same

pub opening_kept : (a b : Stored) (opening : Option ℕ) → Keeps a b
    → IfSome opening (λ number. IsSome (memory_at a number)) → opening_of b opening ≡ opening_of a opening
opening_kept a b None keeps begun = refl
opening_kept a b (Some number) keeps begun =
    let first = some_of (memory_at a number) begun in
    memory_at_kept a b keeps number first.0 first.1 ∙ sym first.1

begun_kept : (a b : Stored) (opening : Option ℕ) → Keeps a b → IfSome opening (λ number. IsSome (memory_at a number))
    → IfSome opening (λ number. IsSome (memory_at b number))
begun_kept a b None keeps begun = begun
begun_kept a b (Some number) keeps begun =
    let first = some_of (memory_at a number) begun in
    subst (λ (o : Option (List CapValue)). IsSome o) (sym (memory_at_kept a b keeps number first.0 first.1)) refl

-- the store has more
pub numbering_kept : (a b : Stored) (opening : Option ℕ) (harts : List KnownHart) (memories : List KnownMemory)
    → Keeps a b → IsNumbering a opening harts memories → IsNumbering b opening harts memories
numbering_kept a b opening harts memories keeps is = record {
  begun = begun_kept a b opening keeps is.begun;
  harts_are = λ k known at. hart_at_kept a b keeps known.number known.hart (is.harts_are k known at);
  memories_are = λ k known first at opens.
      memory_at_kept a b keeps known.number (undone known.changed.items first)
      (is.memories_are k known first at (sym (opening_kept a b opening keeps is.begun) ∙ opens));
}

-- what holds of each item holds of each where one is added, or put at a place
pub pushed_each : {A : Type 0} (P : A → Type 0) (xs : List A) (x : A)
    → ((k : ℕ) (y : A) → slice_get xs k ≡ Some y → P y) → P x
    → (k : ℕ) (y : A) → slice_get (xs ++ x ∷ []) k ≡ Some y → P y
pushed_each {A} P xs x each one k y at =
    let within : k < length xs + 1 =
    omega (arith, slice_get_within (xs ++ x ∷ []) k y at, length-append xs (x ∷ [])) in
    elim (cases_lt k (length xs)) [
      | inl low ↦ each k y (earlier_item xs x k y low at)
      | inr high ↦
          let last : k ≡ length xs = omega (arith, within, high) in
          let same : x ≡ y = same_Some x y (sym (last_item xs x) ∙ (ap (slice_get (xs ++ x ∷ [])) (sym last) ∙ at)) in
          subst P same one
    ]

pub set_each : {A : Type 0} (P : A → Type 0) (xs : List A) (i : ℕ) (x : A)
    → ((k : ℕ) (y : A) → slice_get xs k ≡ Some y → P y) → P x
    → (k : ℕ) (y : A) → slice_get (slice_set xs i x) k ≡ Some y → P y
set_each {A} P xs i x each one k y at = elim (cases_eq k i) [
  | inl here ↦
      let there : slice_get (slice_set xs i x) i ≡ Some y = ap (slice_get (slice_set xs i x)) (sym here) ∙ at in
      let within : i < length xs = omega (arith, slice_get_within (slice_set xs i x) i y there, length-set xs i x) in
      subst P (same_Some x y (sym (get_set_same xs i x within) ∙ there)) one
  | inr other ↦ each k y (sym (get_set_other xs i k x other) ∙ at)
]

pub adds_push : {A : Type 0} (old now more : List A) (x : A) → more ≡ now ++ x ∷ [] → Adds old x now → Adds old x more
adds_push {A} old now more x is so_far =
    subst (λ (ys : List A). Adds old x ys) (sym is)
    (pushed_each (λ (y : A). (y ≡ x) ⊎ ((j : ℕ) × (slice_get old j ≡ Some y))) now x so_far (inl refl))

pub adds_set : {A : Type 0} (old now : List A) (i : ℕ) (x : A) → Adds old x now → Adds old x (slice_set now i x)
adds_set {A} old now i x so_far =
    set_each (λ (y : A). (y ≡ x) ⊎ ((j : ℕ) × (slice_get old j ≡ Some y))) now i x so_far (inl refl)

abbrev IsOneOf : ℕ → List KnownMemory → KnownMemory → KnownMemory → Type 0
IsOneOf opening old known y =
    (y ≡ known) ⊎ ((y.number ≡ opening) × (y.changed.items ≡ [])) ⊎ ((j : ℕ) × (slice_get old j ≡ Some y))

pub memory_push : (opening : ℕ) (old now more : List KnownMemory) (known blank : KnownMemory)
    → more ≡ now ++ blank ∷ [] → blank.number ≡ opening → blank.changed.items ≡ []
    → AddsMemory opening old known now → AddsMemory opening old known more
memory_push opening old now more known blank is number none so_far =
    subst (λ (ys : List KnownMemory). AddsMemory opening old known ys) (sym is)
    (pushed_each (IsOneOf opening old known) now blank so_far (inr (inl (number, none))))

pub memory_set : (opening : ℕ) (old now : List KnownMemory) (i : ℕ) (known : KnownMemory)
    → AddsMemory opening old known now → AddsMemory opening old known (slice_set now i known)
memory_set opening old now i known so_far = set_each (IsOneOf opening old known) now i known so_far (inl refl)

-- a hart more is kept beside its number
pub hart_added : (store : Stored) (opening : Option ℕ) (harts more : List KnownHart) (memories : List KnownMemory)
    (known : KnownHart) → Adds harts known more → hart_at store known.number ≡ Some known.hart
    → IsNumbering store opening harts memories → IsNumbering store opening more memories
hart_added store opening harts more memories known adds there is = record {
  begun = is.begun;
  harts_are = λ k other at. elim (adds k other at) [
    | inl new ↦ subst (λ (h : KnownHart). hart_at store h.number ≡ Some h.hart) (sym new) there
    | inr old ↦ is.harts_are old.0 other old.1
  ];
  memories_are = is.memories_are;
}

-- a memory more is
pub memory_added : (store : Stored) (opening : Option ℕ) (number : ℕ) (first now : List CapValue)
    (harts : List KnownHart) (memories more : List KnownMemory) (known : KnownMemory)
    → AddsMemory number memories known more → memory_at store number ≡ Some first
    → opening_of store opening ≡ Some first → memory_at store known.number ≡ Some now
    → undone known.changed.items first ≡ now
    → IsNumbering store opening harts memories → IsNumbering store opening harts more
unfolding undone
memory_added store opening number first now harts memories more known adds opens named there leads is = record {
  begun = is.begun;
  harts_are = is.harts_are;
  memories_are = λ k other first' at opens'.
      let same : first ≡ first' = same_Some first first' (sym named ∙ opens') in
      elim (adds k other at) [
        | inl new ↦
            subst (λ (m : KnownMemory). memory_at store m.number ≡ Some (undone m.changed.items first')) (sym new)
            (there ∙ ap (λ (m : List CapValue). Some m) (sym leads)
            ∙ ap (λ (m : List CapValue). Some (undone known.changed.items m)) same)
        | inr rest ↦ elim rest [
          | inl blank ↦
              ap (memory_at store) blank.0 ∙ opens ∙ ap (λ (m : List CapValue). Some m) same
              ∙ ap (λ (cs : List Change). Some (undone cs first')) (sym blank.1)
          | inr old ↦ is.memories_are old.0 other first' old.1 opens'
        ]
      ];
}

-- the opening memory is what it was
pub opens_as : (a b : Stored) (opening : Option ℕ) (first : List CapValue) → Keeps a b
    → IfSome opening (λ number. IsSome (memory_at a number)) → opening_of a opening ≡ Some first
    → IfSome (opening_of b opening) (λ o. o ≡ first)
opens_as a b opening first keeps begun is =
    subst (λ (o : Option (List CapValue)). IfSome o (λ m. m ≡ first)) (sym (opening_kept a b opening keeps begun ∙ is)) refl

-- the opening memory is numbered
pub now_open : (store : Stored) (number : ℕ) (first : List CapValue) (harts : List KnownHart)
    (memories : List KnownMemory) → memory_at store number ≡ Some first → memories ≡ []
    → (before : Option ℕ) (past : List KnownMemory) → IsNumbering store before harts past
    → IsNumbering store (Some number) harts memories
now_open store number first harts memories is none _ _ before = record {
  begun = subst (λ (o : Option (List CapValue)). IsSome o) (sym is) refl;
  harts_are = before.harts_are;
  memories_are = λ k known other at opens.
      absurd (none-some known (sym (ap (λ (ms : List KnownMemory). slice_get ms k) none) ∙ at));
}

-- a memory with these changes is this one
pub known_is : (store : Stored) (opening : Option ℕ) (harts : List KnownHart) (memories : List KnownMemory)
    (changed : List Change) (number : ℕ) (first now : List CapValue) → IsNumbering store opening harts memories
    → IsKnown memories changed number → opening_of store opening ≡ Some first → undone changed first ≡ now
    → memory_at store number ≡ Some now
known_is store opening harts memories changed number first now is known opens leads =
    ap (memory_at store) (sym known.3) ∙ is.memories_are known.0 known.1 first known.2 opens
    ∙ ap (λ (cs : List Change). Some (undone cs first)) known.4
    ∙ ap (λ (m : List CapValue). Some m) leads
