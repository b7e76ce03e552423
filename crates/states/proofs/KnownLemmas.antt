-- What is so of steps that were computed, and of those at hand.
use Rattle.std.proofs.Common.{◌≡◌, ◌≢◌, ℕ, zero, suc, ◌+◌, ◌<◌, List, [], ◌∷◌, ◌++◌, length, arith, ap, sym, ◌∙◌, refl, subst, inl, inr, ◌⊎◌, length-append}
use Rattle.std.specs.Prelude.{Option, Some, None, IfSome, is_some, Result, Ok, Err, IfOk, slice_get, slice_set, slice_index_or, true, false}
use Rattle.std.proofs.lemmas.Bool.{cases_eq}
use Rattle.std.proofs.lemmas.Option.{none-some, same_Some, slice_get_within, slice_get-get_or}
use Rattle.interner.specs.Rows.{Rows, IsRow, IsInterned}
use Rattle.state_store.proofs.HartLemmas.{get_set_same, get_set_other}
use Rattle.states.specs.declared.locals.LocalStep.{LocalStep}
use Rattle.states.specs.declared.steps.KnownStep.{KnownStep}
use Rattle.states.specs.Steps.{IsKnown, AreSteps}

-- an item of a list with one more
pub item_cases : {A : Type 0} (xs : List A) (x : A) (i : ℕ) (y : A) → slice_get (xs ++ x ∷ []) i ≡ Some y →
    (slice_get xs i ≡ Some y) ⊎ ((i ≡ length xs) × (x ≡ y))
item_cases [] x zero y is = inr (refl, same_Some x y is)
item_cases [] x (suc i) y is = absurd (none-some y is)
item_cases (z ∷ zs) x zero y is = inl is
item_cases (z ∷ zs) x (suc i) y is = elim (item_cases zs x i y is) [
  | inl before ↦ inl before
  | inr last ↦ inr (ap suc last.0, last.1)
]

item_before : {A : Type 0} (xs ys : List A) (i : ℕ) (y : A) → slice_get xs i ≡ Some y → slice_get (xs ++ ys) i ≡ Some y
item_before [] ys i y is = absurd (none-some y is)
item_before (z ∷ zs) ys zero y is = is
item_before (z ∷ zs) ys (suc i) y is = item_before zs ys i y is

item_last : {A : Type 0} (xs : List A) (x : A) → slice_get (xs ++ x ∷ []) (length xs) ≡ Some x
item_last [] x = refl
item_last (y ∷ ys) x = item_last ys x

-- an item of a list in which one was set
set_cases : {A : Type 0} (xs : List A) (n i : ℕ) (x y : A) → n < length xs → slice_get (slice_set xs n x) i ≡ Some y →
    (slice_get xs i ≡ Some y) ⊎ (x ≡ y)
set_cases xs n i x y below is = elim (cases_eq i n) [
  | inl same ↦
      inr (same_Some x y (sym (get_set_same xs n x below) ∙ (sym (ap (slice_get (slice_set xs n x)) same) ∙ is)))
  | inr other ↦ inl (sym (get_set_other xs n i x other) ∙ is)
]

same_pair : (a b c d : ℕ) → a ∷ b ∷ [] ≡ c ∷ d ∷ [] → (a ≡ c) × (b ≡ d)
same_pair a b c d same = (
  same_Some a c (ap (λ (l : List ℕ). slice_get l 0) same),
  same_Some b d (ap (λ (l : List ℕ). slice_get l 1) same),
)

abbrev pub known : ℕ → ℕ → LocalStep → KnownStep
known hart value after = record { hart = hart; value = value; after = after }

-- a step by its own numbers
pub known_as : (steps : List KnownStep) (step : KnownStep) (hart value : ℕ) → IsKnown steps step → step.hart ≡ hart →
    step.value ≡ value → IsKnown steps (known hart value step.after)
known_as steps step hart value is first second =
    subst (λ (h : ℕ). IsKnown steps (known h value step.after)) first
    (subst (λ (v : ℕ). IsKnown steps (known step.hart v step.after)) second is)

module _ (keys : Rows) (steps recent : List KnownStep) (was : AreSteps keys steps recent) where
  -- each key has a step
  pub key_within : (number : ℕ) (key : List ℕ) → IsRow keys number key → number < length steps
  key_within number key is =
      let below = slice_get_within keys.rows number key is in
      let even = was.as_many in
      omega arith

  -- the step under a key's number is the key's
  pub known_under : (number hart value : ℕ) (step : KnownStep) → IsRow keys number (hart ∷ value ∷ []) →
      slice_get steps number ≡ Some step → IsKnown steps (known hart value step.after)
  known_under number hart value step is at =
      let same = same_pair step.hart step.value hart value
      (same_Some (step.hart ∷ step.value ∷ []) (hart ∷ value ∷ []) (sym (was.keys_are number step at) ∙ is)) in
      known_as steps step hart value (number, at) same.0 same.1

  -- each key has one
  pub known_of : (hart value : ℕ) (found : Option ℕ) → IfSome found (λ number. IsRow keys number (hart ∷ value ∷ [])) →
      is_some found ≡ true → (after : LocalStep) × IsKnown steps (known hart value after)
  known_of hart value None row some = absurd (cc)
  known_of hart value (Some number) row some =
      let none : KnownStep = known 0 0 (record { hart = 0; value = 0 }) in
      let step = slice_index_or steps number none in
      let at : slice_get steps number ≡ Some step =
      slice_get-get_or steps number none (key_within number (hart ∷ value ∷ []) row) in
      (step.after, known_under number hart value step row at)

  -- no key, no step
  pub none_known : (hart value : ℕ) → ((i : ℕ) → slice_get keys.rows i ≢ Some (hart ∷ value ∷ [])) → (after : LocalStep) →
      ¬ IsKnown steps (known hart value after)
  none_known hart value absent after is = absent is.0 (was.keys_are is.0 (known hart value after) is.1)

  -- another step at hand
  pub steps_at_hand : (place : ℕ) (step : KnownStep) → place < length recent → IsKnown steps step →
      AreSteps keys steps (slice_set recent place step)
  steps_at_hand place step below is = record {
    width = was.width;
    as_many = was.as_many;
    keys_are = was.keys_are;
    recent_are = λ k other at. elim (set_cases recent place k step other below at) [
      | inl before ↦ was.recent_are k other before
      | inr same ↦ subst (λ (x : KnownStep). IsKnown steps x) same is
    ];
  }

  -- more steps at hand
  pub steps_filled : (recent' : List KnownStep) (step : KnownStep) → IsKnown steps step →
      ((k : ℕ) (other : KnownStep) → slice_get recent' k ≡ Some other → (slice_get recent k ≡ Some other) ⊎ (step ≡ other)) →
      AreSteps keys steps recent'
  steps_filled recent' step is filled = record {
    width = was.width;
    as_many = was.as_many;
    keys_are = was.keys_are;
    recent_are = λ k other at. elim (filled k other at) [
      | inl before ↦ was.recent_are k other before
      | inr same ↦ subst (λ (x : KnownStep). IsKnown steps x) same is
    ];
  }

  -- a step that was not known became the last one
  pub steps_more : (keys' : Rows) (step : KnownStep) (n : ℕ) →
      ((i : ℕ) → slice_get keys.rows i ≢ Some (step.hart ∷ step.value ∷ [])) →
      IsInterned keys keys' (step.hart ∷ step.value ∷ []) n → AreSteps keys' (steps ++ step ∷ []) recent
  steps_more keys' step n absent interned = elim interned.1 [
    | inl same ↦ absurd (absent n (ap (λ (t : Rows). slice_get t.rows n) (sym same) ∙ interned.0))
    | inr added ↦
        let key : List ℕ = step.hart ∷ step.value ∷ [] in
        let rows : keys'.rows ≡ keys.rows ++ key ∷ [] = ap (λ (t : Rows). t.rows) added.0 in
        let count : length keys'.rows ≡ length keys.rows + 1 = ap length rows ∙ length-append keys.rows (key ∷ []) in
        let steps_count : length (steps ++ step ∷ []) ≡ length steps + 1 = length-append steps (step ∷ []) in
        let even = was.as_many in
        record {
          width = ap (λ (t : Rows). t.width) added.0 ∙ was.width;
          as_many = omega arith;
          keys_are = λ k other at. ap (λ (rs : List (List ℕ)). slice_get rs k) rows ∙ (elim (item_cases steps step k other at) [
            | inl before ↦ item_before keys.rows (key ∷ []) k (other.hart ∷ other.value ∷ []) (was.keys_are k other before)
            | inr last ↦
                ap (slice_get (keys.rows ++ key ∷ [])) (last.0 ∙ even)
                ∙ (item_last keys.rows key ∙ ap (λ (x : KnownStep). Some (x.hart ∷ x.value ∷ [])) last.1)
          ]);
          recent_are = λ k other at.
              let is = was.recent_are k other at in (is.0, item_before steps (step ∷ []) is.0 other is.1);
        }
  ]

-- the last step is known
pub last_known : (steps : List KnownStep) (step : KnownStep) → IsKnown (steps ++ step ∷ []) step
last_known steps step = (length steps, item_last steps step)

-- one more of the same fills the places at hand
pub filled_more : (old recent : List KnownStep) (step : KnownStep) →
    ((k : ℕ) (other : KnownStep) → slice_get recent k ≡ Some other → (slice_get old k ≡ Some other) ⊎ (step ≡ other)) →
    (k : ℕ) (other : KnownStep) → slice_get (recent ++ step ∷ []) k ≡ Some other →
    (slice_get old k ≡ Some other) ⊎ (step ≡ other)
filled_more old recent step filled k other at = elim (item_cases recent step k other at) [
  | inl before ↦ filled k other before
  | inr last ↦ inr last.1
]

pub none_of : (o : Option ℕ) → is_some o ≡ false → o ≡ None
none_of None none = refl
none_of (Some n) none = absurd (cc)

-- what is so in any case
pub always : {A E P : Type 0} (result : Result A E) → P → IfOk result (λ _. P)
always {A} {E} {P} (Ok x) p = p
always {A} {E} {P} (Err e) p = tt
