-- One step of what is drawn before a run, and of the change points.
use Rattle.std.proofs.Common.{◌≡◌, ◌≢◌, ℕ, ◌+◌, ◌-◌, ◌<◌, ◌≤◌, suc, Bool, true, false, List, [], ◌∷◌, length, get_or, set, drop, eqb, cond, refl, sym, ap, ◌∙◌, arith}
use Rattle.std.proofs.lemmas.Bool.Decides.{nat_tests}
use Rattle.std.proofs.lemmas.List.{at_drop_more, at_drop_all}
use Rattle.std.specs.Prelude.{swap}
use Rattle.sample_draws.specs.Words.{drawn}
use Rattle.sample_draws.specs.Ranks.{shuffled, drawn_places, first, changed_ranks}

-- one exchange
shuffled-suc : (p place : ℕ) (ranks words : List ℕ) → place ≡ suc p
    → shuffled place ranks words
    ≡ shuffled p (swap ranks place (drawn (place + 1) words).0) (drawn (place + 1) words).1
unfolding shuffled
shuffled-suc p place ranks words e = rw e refl

pub shuffled-step : (place other : ℕ) (ranks words after : List ℕ) → 0 < place
    → (other, after) ≡ drawn (place + 1) words
    → shuffled place ranks words ≡ shuffled (place - 1) (swap ranks place other) after
shuffled-step place other ranks words after h d =
    let e : place ≡ suc (place - 1) = omega arith in
    shuffled-suc (place - 1) place ranks words e
    ∙ ap (λ (it : ℕ × List ℕ). shuffled (place - 1) (swap ranks place it.0) it.1) (sym d)

pub shuffled-end : (place : ℕ) (ranks words : List ℕ) → place ≡ 0
    → shuffled place ranks words ≡ (ranks, words)
unfolding shuffled
shuffled-end place ranks words e = rw e refl

-- one place
drawn_places-suc : (c count len : ℕ) (words : List ℕ) → count ≡ suc c
    → drawn_places count len words
    ≡ (
      (drawn len words).0 ∷ (drawn_places c len (drawn len words).1).0,
      (drawn_places c len (drawn len words).1).1,
    )
unfolding drawn_places
drawn_places-suc c count len words e = rw e refl

pub drawn_places-step : (count len place : ℕ) (words after : List ℕ) → 0 < count
    → (place, after) ≡ drawn len words
    → drawn_places count len words
    ≡ (place ∷ (drawn_places (count - 1) len after).0, (drawn_places (count - 1) len after).1)
drawn_places-step count len place words after h d =
    let e : count ≡ suc (count - 1) = omega arith in
    drawn_places-suc (count - 1) count len words e
    ∙ ap (λ (it : ℕ × List ℕ).
    let both : List ℕ × List ℕ = (it.0 ∷ (drawn_places (count - 1) len it.1).0, (drawn_places (count - 1) len it.1).1) in
    both) (sym d)

pub drawn_places-end : (count len : ℕ) (words : List ℕ) → count ≡ 0
    → drawn_places count len words ≡ ([], words)
unfolding drawn_places
drawn_places-end count len words e = rw e refl

-- one change point
changed_ranks-step : (steps harts : ℕ) (waiting : List Bool) (running : List ℕ) (number : ℕ)
    (places ranks : List ℕ) → number < length places
    → changed_ranks steps harts waiting running number (drop number places) ranks
    ≡ changed_ranks steps harts waiting running (number + 1) (drop (number + 1) places)
    (cond (eqb (get_or places number 0) steps)
    (set ranks (first ranks waiting running) (harts + number)) ranks)
unfolding changed_ranks
changed_ranks-step steps harts waiting running number places ranks h =
    at_drop_more (λ s. changed_ranks steps harts waiting running number s ranks) places number 0 h

pub changed_there : (steps harts : ℕ) (waiting : List Bool) (running : List ℕ) (number hart rank : ℕ)
    (places ranks after : List ℕ) → number < length places → get_or places number 0 ≡ steps
    → hart ≡ first ranks waiting running → rank ≡ harts + number → after ≡ set ranks hart rank
    → changed_ranks steps harts waiting running (number + 1) (drop (number + 1) places) after
    ≡ changed_ranks steps harts waiting running number (drop number places) ranks
changed_there steps harts waiting running number hart rank places ranks after h at is_first is_rank is =
    let e : eqb (get_or places number 0) steps ≡ true = grind (arith, nat_tests) in
    let f : after ≡ cond (eqb (get_or places number 0) steps)
    (set ranks (first ranks waiting running) (harts + number)) ranks = rw e (cc) in
    ap (λ r. changed_ranks steps harts waiting running (number + 1) (drop (number + 1) places) r) f
    ∙ sym (changed_ranks-step steps harts waiting running number places ranks h)

pub changed_elsewhere : (steps harts : ℕ) (waiting : List Bool) (running : List ℕ) (number : ℕ)
    (places ranks after : List ℕ) → number < length places → get_or places number 0 ≢ steps
    → after ≡ ranks
    → changed_ranks steps harts waiting running (number + 1) (drop (number + 1) places) after
    ≡ changed_ranks steps harts waiting running number (drop number places) ranks
changed_elsewhere steps harts waiting running number places ranks after h not_at is =
    let e : eqb (get_or places number 0) steps ≡ false = grind (arith, nat_tests) in
    let f : after ≡ cond (eqb (get_or places number 0) steps)
    (set ranks (first ranks waiting running) (harts + number)) ranks = rw e is in
    ap (λ r. changed_ranks steps harts waiting running (number + 1) (drop (number + 1) places) r) f
    ∙ sym (changed_ranks-step steps harts waiting running number places ranks h)

pub changed_ranks-end : (steps harts : ℕ) (waiting : List Bool) (running : List ℕ) (number : ℕ)
    (places ranks : List ℕ) → length places ≤ number
    → changed_ranks steps harts waiting running number (drop number places) ranks ≡ ranks
unfolding changed_ranks
changed_ranks-end steps harts waiting running number places ranks h =
    at_drop_all (λ s. changed_ranks steps harts waiting running number s ranks) places number h
