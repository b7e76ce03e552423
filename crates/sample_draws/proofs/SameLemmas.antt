-- Comparing two lists of values place by place.
use Rattle.std.proofs.Common.{◌≡◌, ℕ, ◌+◌, ◌<◌, ◌≤◌, Bool, true, false, ◌&&◌, List, [], ◌∷◌, length, get_or, drop, sym, ap, ◌∙◌}
use Rattle.std.proofs.lemmas.Bool.{and_left}
use Rattle.std.proofs.lemmas.List.{at_drop_more, at_drop_all}
use Rattle.cap_model.specs.values.CapValue.{CapValue}
use Rattle.cheri_model.specs.steps.Hart.{null}
use Rattle.sample_draws.specs.Cycles.{same_value, same_values}

-- two lists from a place on: their values there, and what is after it
same_values-step : (vs ws : List CapValue) (n : ℕ) → n < length vs → n < length ws
    → same_values (drop n vs) (drop n ws)
    ≡ (same_value (get_or vs n null) (get_or ws n null) && same_values (drop (n + 1) vs) (drop (n + 1) ws))
unfolding same_values
same_values-step vs ws n h k =
    at_drop_more (λ s. same_values s (drop n ws)) vs n null h
    ∙ at_drop_more (λ s. same_values (get_or vs n null ∷ drop (n + 1) vs) s) ws n null k

pub same_values-end : (vs ws : List CapValue) (n : ℕ) → length vs ≤ n → length ws ≤ n
    → same_values (drop n vs) (drop n ws) ≡ true
unfolding same_values
same_values-end vs ws n h k =
    at_drop_all (λ s. same_values s (drop n ws)) vs n h ∙ at_drop_all (λ s. same_values [] s) ws n k

-- values that differ there
pub values_differ : (vs ws : List CapValue) (n : ℕ) (v w : CapValue) (whole : Bool) → n < length vs → n < length ws
    → v ≡ get_or vs n null → w ≡ get_or ws n null → same_value v w ≡ false
    → same_values (drop n vs) (drop n ws) ≡ whole → false ≡ whole
values_differ vs ws n v w whole h k is here differ all =
    let at : same_value (get_or vs n null) (get_or ws n null) ≡ false = cc in
    sym (and_left _ (same_values (drop (n + 1) vs) (drop (n + 1) ws)) at)
    ∙ sym (same_values-step vs ws n h k) ∙ all

-- values that are the same there
pub values_agree : (vs ws : List CapValue) (n : ℕ) (v w : CapValue) (whole : Bool) → n < length vs → n < length ws
    → v ≡ get_or vs n null → w ≡ get_or ws n null → same_value v w ≡ true
    → same_values (drop n vs) (drop n ws) ≡ whole → same_values (drop (n + 1) vs) (drop (n + 1) ws) ≡ whole
values_agree vs ws n v w whole h k is here agree all =
    let at : same_value (get_or vs n null) (get_or ws n null) ≡ true = cc in
    let both : (same_value (get_or vs n null) (get_or ws n null) && same_values (drop (n + 1) vs) (drop (n + 1) ws)) ≡ same_values (drop (n + 1) vs) (drop (n + 1) ws) =
    ap (λ b. b && same_values (drop (n + 1) vs) (drop (n + 1) ws)) at in
    sym both ∙ sym (same_values-step vs ws n h k) ∙ all
