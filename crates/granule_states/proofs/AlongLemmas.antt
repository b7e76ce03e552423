-- The way of an actor to its rest, step by step.
use Rattle.std.proofs.Common.{◌≡◌, ℕ, suc, ◌+◌, ◌-◌, ◌<◌, ◌≤◌, arith, ap, sym, ◌∙◌}
use Rattle.std.specs.Prelude.{Option, Some, None, Bool, true, false, replicate}
use Rattle.own_granules.specs.Orders.{if_it_ends, way_labels}
use Rattle.own_granules.specs.Rests.{come, rest_one, steps_to_rest}
use Rattle.own_granules.proofs.WayLemmas.{come_on, come_none, come_stop, rest_none, rest_some, steps_on, steps_stop}

module _ {S : Type 0} (step : S → ℕ → S) (quiet : S → ℕ → Bool) (l most : ℕ) where
  abbrev way : ℕ → S → Option S
  way k s = come step quiet l k s

  abbrev steps : ℕ → S → ℕ
  steps k s = steps_to_rest step quiet l k s

  -- so many quiet steps lead from here to there, and what is left is the way from there
  pub record IsAlong (s : S) (k : ℕ) (t : S) : Type 0 where
    pub within : k ≤ most
    pub comes : way most s ≡ way (most - k) t
    pub counts : steps most s ≡ k + steps (most - k) t

  pub along_begun : (s : S) → IsAlong s 0 s
  along_begun s =
      let same : most ≡ most - 0 = omega arith in
      let count : steps (most - 0) s ≡ 0 + steps (most - 0) s = omega arith in
      record {
        within = omega arith;
        comes = ap (λ (k : ℕ). way k s) same;
        counts = ap (λ (k : ℕ). steps k s) same ∙ count;
      }

  pub along_more : (s t : S) (k : ℕ) → IsAlong s k t → k < most → quiet t l ≡ true → IsAlong s (k + 1) (step t l)
  along_more s t k was low holds =
      let left = most - (k + 1) in
      let same : most - k ≡ suc left = omega arith in
      let one : steps (suc left) t ≡ suc (steps left (step t l)) = steps_on step quiet l left t holds in
      let count : k + suc (steps left (step t l)) ≡ k + 1 + steps left (step t l) = omega arith in
      record {
        within = omega arith;
        comes = was.comes ∙ (ap (λ (n : ℕ). way n t) same ∙ come_on step quiet l left t holds);
        counts = was.counts ∙ (ap (λ (n : ℕ). k + steps n t) same ∙ (ap (λ (n : ℕ). k + n) one ∙ count));
      }

  -- the actor comes to its rest there
  pub along_ends : (s t : S) (k : ℕ) → IsAlong s k t → quiet t l ≡ false →
      (rest_one step quiet most l s ≡ t) × (replicate k l ≡ way_labels step quiet most l s)
  unfolding way_labels
  along_ends s t k was fails =
      let there : way most s ≡ Some t = was.comes ∙ come_stop step quiet l (most - k) t fails in
      let none : steps (most - k) t ≡ 0 = steps_stop step quiet l (most - k) t fails in
      let count : k + 0 ≡ k = omega arith in
      let all : steps most s ≡ k = was.counts ∙ (ap (λ (n : ℕ). k + n) none ∙ count) in
      let ends : if_it_ends (way most s) (steps most s) ≡ k =
      ap (λ (o : Option S). if_it_ends o (steps most s)) there ∙ all in
      (rest_some step quiet l most s t there, sym (ap (λ (n : ℕ). replicate n l) ends))

  -- the way is too long
  pub along_never : (s t : S) → IsAlong s most t → quiet t l ≡ true →
      (rest_one step quiet most l s ≡ s) × (replicate 0 l ≡ way_labels step quiet most l s)
  unfolding way_labels
  along_never s t was holds =
      let left : most - most ≡ 0 = omega arith in
      let none : way most s ≡ None =
      was.comes ∙ (ap (λ (k : ℕ). way k t) left ∙ come_none step quiet l t holds) in
      let ends : if_it_ends (way most s) (steps most s) ≡ 0 =
      ap (λ (o : Option S). if_it_ends o (steps most s)) none in
      (rest_none step quiet l most s none, sym (ap (λ (n : ℕ). replicate n l) ends))
