use Rattle.std.proofs.Common.{◌≡◌, ℕ, ◌++◌, ◌∷◌, [], List, length, append_assoc, append-nil, sym, ap, ◌∙◌, arith}
use Rattle.std.proofs.lemmas.List.{length_push}
use Rattle.sample_draws.specs.Ranks.{drawn_places}
use Rattle.sample_draws.proofs.RankLemmas.{drawn_places-step, drawn_places-end}
use Rattle.sample_draws.proofs.ranks.drawn_places.Goals as goal

-- one more place
taken : (so_far later whole : List ℕ) (place : ℕ) (more after : List ℕ) → more ≡ so_far ++ (place ∷ [])
    → so_far ++ later ≡ whole → later ≡ place ∷ after → more ++ after ≡ whole
taken so_far later whole place more after is all step =
    rw is (rw append_assoc (ap (λ s. so_far ++ s) (sym step) ∙ all))

pub loop-left-preserved : goal.loop-left-preserved
loop-left-preserved c =
    let step = drawn_places-step c.loop-left.left c.args.length c.draw.result c.loop-left.words c.draw.new.self
    (omega arith) c.draw.ensures.value in
    record {
      count = omega (arith, ap length c.push.ensures.items, length_push c.loop-left.places.items c.draw.result);
      places = taken c.loop-left.places.items _ _ c.draw.result _ _ c.push.ensures.items c.loop-left.invariant.places (ap (λ (p : List ℕ × List ℕ). p.0) step);
      words = sym (ap (λ (p : List ℕ × List ℕ). p.1) step) ∙ c.loop-left.invariant.words;
    }

pair_is : (p : List ℕ × List ℕ) (a b : List ℕ) → a ≡ p.0 → b ≡ p.1 → (a, b) ≡ p
pair_is p a b e f =
    let pair : List ℕ → List ℕ → List ℕ × List ℕ = λ x y. (x, y) in
    ap (λ x. pair x b) e ∙ ap (λ y. pair p.0 y) f

pub returns : goal.returns
returns c =
    let done = drawn_places-end c.loop-left.left c.args.length c.loop-left.words (omega arith) in
    let places : c.loop-left.places.items ≡ (drawn_places c.args.count c.args.length c.args.words.now).0 =
    sym (append-nil c.loop-left.places.items)
    ∙ ap (λ s. c.loop-left.places.items ++ s) (sym (ap (λ (p : List ℕ × List ℕ). p.0) done))
    ∙ c.loop-left.invariant.places in
    pair_is _ _ _ places (sym (ap (λ (p : List ℕ × List ℕ). p.1) done) ∙ c.loop-left.invariant.words)
