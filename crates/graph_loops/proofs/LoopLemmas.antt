-- A loop stays within one number, where numbers never rise.
use Rattle.std.proofs.Common.{◌≡◌, ℕ, ◌<◌, ◌≤◌, List, [], ◌∷◌, arith, ap, sym, ◌∙◌, refl, inl, inr, ◌⊎◌, subst}
use Rattle.std.specs.Prelude.{Option, Some, None, Bool, true, false}
use Rattle.std.proofs.lemmas.Option.{option_and_then_some}
use Rattle.graph_search.specs.Walks.{after, IsWalk}
use Rattle.graph_search.specs.Searches.{IsEarlier}
use Rattle.graph_loops.specs.Loops.{Takes, IsLoop, IsFair}
use Rattle.graph_loops.specs.Scans.{IsScanned}

pub true_false : (b : Bool) → b ≡ true → b ≡ false → ⊥
true_false b yea nay = cc

module _ {S : Type 0} (next : S → ℕ → Option S) (at : ℕ → Option S) (number : ℕ → ℕ) (actors : ℕ)
    (moves runs : ℕ → ℕ → Bool) (count : ℕ) (h : IsScanned next at number actors moves runs count 0)
    (within : (i : ℕ) (s : S) → at i ≡ Some s → i < count)
    (distinct : (i j : ℕ) (s : S) → at i ≡ Some s → at j ≡ Some s → i ≡ j) where
  looked_at : (i l : ℕ) (s : S) → at i ≡ Some s → IsEarlier i l count 0
  looked_at i l s is = let below = within i s is in (omega arith, λ same. absurd (omega arith))

  -- numbers don't rise along a walk, and where they stay, so do those between
  along : (ls : List ℕ) (i j : ℕ) (s t : S) → at i ≡ Some s → at j ≡ Some t → IsWalk next s ls t →
      (number j ≤ number i)
      × (number j ≡ number i → (m : ℕ) → m < actors → Takes ls m → moves (number i) m ≡ true)
  along [] i j s t is js walk =
      let same : i ≡ j = distinct i j t (is ∙ walk) js in
      let e : number i ≡ number j = ap number same in
      (omega arith, λ equal m low takes. absurd takes)
  along (l ∷ ls) i j s t is js walk =
      option_and_then_some (λ (u : S). after next u ls) (next s l) t walk (λ u goes rest.
      let step = h.falls i l s u (looked_at i l s is) is goes in
      let tail = along ls step.0 j u t step.1 js rest in
      let first = step.2 in
      let second = tail.0 in (
        omega arith,
        λ equal m low takes.
            let here : number step.0 ≡ number i = omega arith in
            elim takes [
              | inl this ↦ subst (λ (k : ℕ). moves (number i) k ≡ true) this
                  (step.3 here (subst (λ (k : ℕ). k < actors) (sym this) low))
              | inr later ↦
                  let end : number j ≡ number step.0 = omega arith in
                  subst (λ (n : ℕ). moves n m ≡ true) here (tail.1 end m low later)
            ],
      ))

  -- the actors of a loop move within its number
  around : (i : ℕ) (s : S) (ls : List ℕ) → at i ≡ Some s → IsWalk next s ls s →
      (m : ℕ) → m < actors → Takes ls m → moves (number i) m ≡ true
  around i s ls is walk = (along ls i i s s is is walk).1 refl

  pub no_loop : ((n m : ℕ) → moves n m ≡ false) → (i : ℕ) (s : S) (ls : List ℕ) → at i ≡ Some s →
      ¬ IsLoop next actors s ls
  no_loop still i s ls is loop =
      true_false (moves (number i) loop.1.0) (around i s ls is loop.0 loop.1.0 loop.1.1 loop.1.2)
      (still (number i) loop.1.0)

  pub no_fair_loop : ((i : ℕ) → i < count → ((m : ℕ) → m < actors → moves (number i) m ≡ false)
      ⊎ ((m : ℕ) × (m < actors) × (runs (number i) m ≡ true) × (moves (number i) m ≡ false))) →
      (i : ℕ) (s : S) (ls : List ℕ) → at i ≡ Some s → IsLoop next actors s ls → ¬ IsFair next actors s ls
  no_fair_loop starved i s ls is loop fair = elim (starved i (within i s is)) [
    | inl still ↦
        true_false (moves (number i) loop.1.0) (around i s ls is loop.0 loop.1.0 loop.1.1 loop.1.2)
        (still loop.1.0 loop.1.1)
    | inr one ↦
        let split : (o : Option S) → next s one.0 ≡ o → ⊥ = λ o. elim o as (λ (o : Option S). next s one.0 ≡ o → ⊥) [
          | None ↦ λ none.
              true_false (runs (number i) one.0) one.2 (h.idle i one.0 s (looked_at i one.0 s is) one.1 is none)
          | Some t ↦ λ goes.
              true_false (moves (number i) one.0)
              (around i s ls is loop.0 one.0 one.1 (fair one.0 t one.1 goes)) one.3
        ] in
        split (next s one.0) refl
  ]
