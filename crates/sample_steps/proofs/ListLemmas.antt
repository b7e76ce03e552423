-- The harts that run, one after another.
use Rattle.std.proofs.Common.{◌≡◌, ℕ, ◌+◌, ◌<◌, ◌≤◌, true, false, cond, List, [], ◌∷◌, ◌++◌, length, drop, get_or, refl, sym, ap, ◌∙◌, append_assoc, append-nil}
use Rattle.std.proofs.lemmas.List.{at_drop_more, at_drop_all}
use Rattle.cheri_model.specs.steps.Hart.{HartState}
use Rattle.cheri_model.specs.runs.Machine.{is_running}
use Rattle.sample_draws.specs.Orders.{running_from}

running_step : (harts : List HartState) (i : ℕ) (d : HartState) → i < length harts
    → running_from i (drop i harts)
    ≡ cond (is_running (get_or harts i d).status) (i ∷ running_from (i + 1) (drop (i + 1) harts))
    (running_from (i + 1) (drop (i + 1) harts))
unfolding running_from
running_step harts i d h = at_drop_more (running_from i) harts i d h

pub one_runs : (harts : List HartState) (i : ℕ) (d : HartState) (found more whole : List ℕ) → i < length harts
    → is_running (get_or harts i d).status ≡ true → more ≡ found ++ (i ∷ [])
    → found ++ running_from i (drop i harts) ≡ whole
    → more ++ running_from (i + 1) (drop (i + 1) harts) ≡ whole
one_runs harts i d found more whole h runs is all =
    let step : running_from i (drop i harts) ≡ i ∷ running_from (i + 1) (drop (i + 1) harts) =
    running_step harts i d h ∙ rw runs refl in
    rw is (rw append_assoc (ap (λ s. found ++ s) (sym step) ∙ all))

pub one_stopped : (harts : List HartState) (i : ℕ) (d : HartState) (found more whole : List ℕ) → i < length harts
    → is_running (get_or harts i d).status ≡ false → more ≡ found
    → found ++ running_from i (drop i harts) ≡ whole
    → more ++ running_from (i + 1) (drop (i + 1) harts) ≡ whole
one_stopped harts i d found more whole h stopped is all =
    let step : running_from i (drop i harts) ≡ running_from (i + 1) (drop (i + 1) harts) =
    running_step harts i d h ∙ rw stopped refl in
    rw is (ap (λ s. found ++ s) (sym step) ∙ all)

pub none_left : (harts : List HartState) (i : ℕ) (found whole : List ℕ) → length harts ≤ i
    → found ++ running_from i (drop i harts) ≡ whole → found ≡ whole
unfolding running_from
none_left harts i found whole h all =
    sym (append-nil found) ∙ ap (λ s. found ++ s) (sym (at_drop_all (running_from i) harts i h)) ∙ all
