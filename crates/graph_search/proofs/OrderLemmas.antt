-- The order of walks, and walks with one more label at their end.
use Rattle.std.proofs.Common.{◌≡◌, ℕ, ◌<◌, List, [], ◌∷◌, ◌++◌, length, arith, ap, sym, ◌∙◌, refl, inl, inr, ◌⊎◌, length-append}
use Rattle.std.specs.Prelude.{Option, Some, None, option_and_then}
use Rattle.std.proofs.lemmas.Bool.{cases_lt}
use Rattle.graph_search.specs.Walks.{after, IsLess, IsBefore}

pub less_more : (ls ms : List ℕ) (l m : ℕ) → IsLess ls ms → IsLess (ls ++ l ∷ []) (ms ++ m ∷ [])
less_more [] ms l m less = absurd less
less_more (x ∷ ls) [] l m less = absurd less
less_more (x ∷ ls) (y ∷ ms) l m less = elim less [
  | inl below ↦ inl below
  | inr after ↦ inr (after.0, less_more ls ms l m after.1)
]

-- walks with one more label each
pub before_more : (ls ms : List ℕ) (l m : ℕ) → IsBefore ls ms → IsBefore (ls ++ l ∷ []) (ms ++ m ∷ [])
before_more ls ms l m before =
    let left = length-append ls (l ∷ []) in
    let right = length-append ms (m ∷ []) in
    elim before [
      | inl shorter ↦ inl (omega arith)
      | inr less ↦ let even = less.0 in inr (omega arith, less_more ls ms l m less.1)
    ]

less_last : (ls : List ℕ) (l m : ℕ) → l < m → IsLess (ls ++ l ∷ []) (ls ++ m ∷ [])
less_last [] l m below = inl below
less_last (x ∷ ls) l m below = inr (refl, less_last ls l m below)

pub before_last : (ls : List ℕ) (l m : ℕ) → l < m → IsBefore (ls ++ l ∷ []) (ls ++ m ∷ [])
before_last ls l m below =
    let left = length-append ls (l ∷ []) in
    let right = length-append ls (m ∷ []) in
    inr (omega arith, less_last ls l m below)

pub nothing_before : (ms : List ℕ) (m : ℕ) → IsBefore [] (ms ++ m ∷ [])
nothing_before ms m = let right = length-append ms (m ∷ []) in inl (omega arith)

less_trans : (ls ms ns : List ℕ) → IsLess ls ms → IsLess ms ns → IsLess ls ns
less_trans [] ms ns one two = absurd one
less_trans (x ∷ ls) [] ns one two = absurd one
less_trans (x ∷ ls) (y ∷ ms) [] one two = absurd two
less_trans (x ∷ ls) (y ∷ ms) (z ∷ ns) one two = elim one [
  | inl below ↦ elim two [
    | inl more ↦ inl (omega arith)
    | inr same ↦ let e = same.0 in inl (omega arith)
  ]
  | inr same ↦ elim two [
    | inl more ↦ let e = same.0 in inl (omega arith)
    | inr equal ↦ inr (same.0 ∙ equal.0, less_trans ls ms ns same.1 equal.1)
  ]
]

pub before_trans : (ls ms ns : List ℕ) → IsBefore ls ms → IsBefore ms ns → IsBefore ls ns
before_trans ls ms ns one two = elim one [
  | inl shorter ↦ elim two [
    | inl more ↦ inl (omega arith)
    | inr even ↦ let e = even.0 in inl (omega arith)
  ]
  | inr even ↦ elim two [
    | inl more ↦ let e = even.0 in inl (omega arith)
    | inr same ↦ inr (even.0 ∙ same.0, less_trans ls ms ns even.1 same.1)
  ]
]

less_irrefl : (ls : List ℕ) → ¬ IsLess ls ls
less_irrefl [] less = less
less_irrefl (x ∷ ls) less = elim less [
  | inl below ↦ omega arith
  | inr same ↦ less_irrefl ls same.1
]

pub before_irrefl : (ls : List ℕ) → ¬ IsBefore ls ls
before_irrefl ls before = elim before [
  | inl shorter ↦ omega arith
  | inr less ↦ less_irrefl ls less.1
]

less_cases : (ls ms : List ℕ) → length ls ≡ length ms → IsLess ls ms ⊎ ((ls ≡ ms) ⊎ IsLess ms ls)
less_cases [] [] even = inr (inl refl)
less_cases [] (y ∷ ms) even = absurd (omega arith)
less_cases (x ∷ ls) [] even = absurd (omega arith)
less_cases (x ∷ ls) (y ∷ ms) even = elim (cases_lt x y) [
  | inl below ↦ inl (inl below)
  | inr above ↦ elim (cases_lt y x) [
    | inl more ↦ inr (inr (inl more))
    | inr less ↦
        let same : x ≡ y = omega arith in
        let rest : length ls ≡ length ms = omega arith in
        elim (less_cases ls ms rest) [
          | inl before ↦ inl (inr (same, before))
          | inr other ↦ elim other [
            | inl equal ↦ inr (inl (ap (λ z. z ∷ ls) same ∙ ap (λ zs. y ∷ zs) equal))
            | inr after ↦ inr (inr (inr (sym same, after)))
          ]
        ]
  ]
]

pub before_cases : (ls ms : List ℕ) → IsBefore ls ms ⊎ ((ls ≡ ms) ⊎ IsBefore ms ls)
before_cases ls ms = elim (cases_lt (length ls) (length ms)) [
  | inl shorter ↦ inl (inl shorter)
  | inr long ↦ elim (cases_lt (length ms) (length ls)) [
    | inl longer ↦ inr (inr (inl longer))
    | inr short ↦
        let even : length ls ≡ length ms = omega arith in
        elim (less_cases ls ms even) [
          | inl less ↦ inl (inr (even, less))
          | inr other ↦ elim other [
            | inl equal ↦ inr (inl equal)
            | inr more ↦ inr (inr (inr (sym even, more)))
          ]
        ]
  ]
]

-- a walk with one more label
pub after_more : {S : Type 0} (next : S → ℕ → Option S) (s : S) (ls : List ℕ) (l : ℕ) →
    after next s (ls ++ l ∷ []) ≡ option_and_then (λ t. next t l) (after next s ls)
after_more {S} next s [] l = elim (next s l) as (λ (o : Option S). option_and_then (λ t. Some t) o ≡ o) [
  | None ↦ refl
  | Some t ↦ refl
]
after_more {S} next s (x ∷ ls) l =
    elim (next s x) as (λ (o : Option S). option_and_then (λ t. after next t (ls ++ l ∷ [])) o
    ≡ option_and_then (λ t. next t l) (option_and_then (λ t. after next t ls) o)) [
      | None ↦ refl
      | Some t ↦ after_more next t ls l
    ]
