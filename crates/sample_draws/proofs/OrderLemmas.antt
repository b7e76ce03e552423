-- A run, one operation after another.
use Rattle.std.proofs.Common.{◌≡◌, ℕ, ◌≤◌, zero, suc, Bool, true, false, cond, List, [], length, refl, sym, ◌∙◌, arith}
use Rattle.std.proofs.lemmas.Bool.{and_from, false≢true}
use Rattle.cheri_model.specs.declared.operation.Op.{Op}
use Rattle.cheri_model.specs.runs.Image.{ImageParts}
use Rattle.cheri_model.specs.runs.Machine.{MachineState, may_take, state_after_one}
use Rattle.cheri_model.specs.runs.Replay.{is_legal, state_after}
use Rattle.sample_draws.specs.Drawings.{DrawingParts, are_ranges}
use Rattle.sample_draws.specs.Draws.{chosen}
use Rattle.sample_draws.specs.Orders.{Moment, running_harts, is_over, next_moment, and_then, run_from}
use Rattle.sample_draws.proofs.ChoiceLemmas.{chosen_may}

legal_by : (image : ImageParts) (state : MachineState) (b : Bool) (moment : Moment) (op : Op) (rest : List Op × Moment)
    → (b ≡ false → may_take state op ≡ true) → (b ≡ false → is_legal image (state_after_one image state op) rest.0 ≡ true)
    → is_legal image state (cond b ([], moment) (and_then op rest)).0 ≡ true
unfolding is_legal
legal_by image state true moment op rest may legal = refl
legal_by image state false moment op rest may legal = and_from _ _ (may refl) (legal refl)

pub run_legal : (image : ImageParts) (drawing : DrawingParts) (left : ℕ) (moment : Moment)
    → are_ranges drawing.sweeps ≡ true
    → is_legal image moment.state (run_from image drawing left moment).0 ≡ true
unfolding run_from is_legal
run_legal image drawing zero moment are = refl
run_legal image drawing (suc left) moment are =
    let choice = chosen drawing.sweeps (running_harts moment.state) moment.draws in
    let next = next_moment image moment.state choice in
    legal_by image moment.state (is_over moment.state) moment choice.0 (run_from image drawing left next)
    (λ over. chosen_may moment.state drawing.sweeps moment.draws are over)
    (λ _. run_legal image drawing left next are)

leads_by : (image : ImageParts) (b : Bool) (moment : Moment) (op : Op) (rest : List Op × Moment)
    → rest.1.state ≡ state_after image (state_after_one image moment.state op) rest.0
    → (cond b ([], moment) (and_then op rest)).1.state
    ≡ state_after image moment.state (cond b ([], moment) (and_then op rest)).0
unfolding state_after
leads_by image true moment op rest leads = refl
leads_by image false moment op rest leads = leads

pub run_leads : (image : ImageParts) (drawing : DrawingParts) (left : ℕ) (moment : Moment)
    → (run_from image drawing left moment).1.state
    ≡ state_after image moment.state (run_from image drawing left moment).0
unfolding run_from state_after
run_leads image drawing zero moment = refl
run_leads image drawing (suc left) moment =
    let choice = chosen drawing.sweeps (running_harts moment.state) moment.draws in
    let next = next_moment image moment.state choice in
    leads_by image (is_over moment.state) moment choice.0 (run_from image drawing left next)
    (run_leads image drawing left next)

short_by : (b : Bool) (left : ℕ) (moment : Moment) (op : Op) (rest : List Op × Moment) → length rest.0 ≤ left
    → length (cond b ([], moment) (and_then op rest)).0 ≤ suc left
short_by true left moment op rest short = omega arith
short_by false left moment op rest short = omega arith

pub run_short : (image : ImageParts) (drawing : DrawingParts) (left : ℕ) (moment : Moment)
    → length (run_from image drawing left moment).0 ≤ left
unfolding run_from
run_short image drawing zero moment = omega arith
run_short image drawing (suc left) moment =
    let choice = chosen drawing.sweeps (running_harts moment.state) moment.draws in
    let next = next_moment image moment.state choice in
    short_by (is_over moment.state) left moment choice.0 (run_from image drawing left next)
    (run_short image drawing left next)

whole_by : (b : Bool) (left : ℕ) (moment : Moment) (op : Op) (rest : List Op × Moment) → is_over moment.state ≡ b
    → (is_over rest.1.state ≡ false → length rest.0 ≡ left)
    → is_over (cond b ([], moment) (and_then op rest)).1.state ≡ false
    → length (cond b ([], moment) (and_then op rest)).0 ≡ suc left
whole_by true left moment op rest is whole over = absurd (false≢true (sym over ∙ is))
whole_by false left moment op rest is whole over = let w = whole over in omega arith

pub run_whole : (image : ImageParts) (drawing : DrawingParts) (left : ℕ) (moment : Moment)
    → is_over (run_from image drawing left moment).1.state ≡ false
    → length (run_from image drawing left moment).0 ≡ left
unfolding run_from
run_whole image drawing zero moment over = refl
run_whole image drawing (suc left) moment over =
    let choice = chosen drawing.sweeps (running_harts moment.state) moment.draws in
    let next = next_moment image moment.state choice in
    whole_by (is_over moment.state) left moment choice.0 (run_from image drawing left next) refl
    (run_whole image drawing left next) over
