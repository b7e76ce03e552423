-- A run from its first operation to its last.
use Rattle.std.proofs.Common.{◌≡◌, ℕ, List, [], ◌∷◌, ◌++◌, length, sym, ap, ◌∙◌}
use Rattle.std.proofs.lemmas.List.{append-nil, append_assoc}
use Rattle.cheri_model.specs.declared.operation.Op.{Op}
use Rattle.cheri_model.specs.runs.Image.{ImageParts}
use Rattle.cheri_model.specs.runs.Machine.{MachineState, opening_state}
use Rattle.cheri_model.specs.runs.Authority.{IsLawfulState}
use Rattle.sample_draws.specs.Drawings.{DrawingParts}
use Rattle.sample_draws.specs.Orders.{Moment, first_moment, run_from, drawn_run, last_state}
use Rattle.sample_runs.specs.declared.runner.RunEnd.{RunEnd}
use Rattle.sample_runs.specs.declared.runner.RunEnd.TheVariants.{Hung}
use Rattle.sample_runs.specs.Runners.{steps_of}
use Rattle.sample_runs.specs.Runs.{end_in, run_end, run_length, StaysHung}
use Rattle.sample_runs.proofs.DrawLemmas.{first_steps}
use Rattle.sample_runs.proofs.EndLemmas.{end_hung}

pub run_left : (image seen : ImageParts) (drawing : DrawingParts) (run left : ℕ) (moment : Moment) → seen ≡ image
    → left ≡ drawing.length → moment ≡ first_moment image drawing run
    → run_from seen drawing left moment ≡ drawn_run image drawing run
unfolding drawn_run
run_left image seen drawing run left moment same all is =
    ap (λ i. run_from i drawing left moment) same ∙ ap (λ n. run_from image drawing n moment) all
    ∙ ap (run_from image drawing drawing.length) is

pub no_steps : (image : ImageParts) (drawing : DrawingParts) (run : ℕ) (moment : Moment)
    → moment ≡ first_moment image drawing run → steps_of moment.draws.priorities ≡ 0
no_steps image drawing run moment is =
    ap (λ (m : Moment). steps_of m.draws.priorities) is ∙ first_steps drawing (length image.harts) run

-- an order that has one operation more, and one that has all
pub one_more : (xs more before after all : List Op) (x : Op) → more ≡ xs ++ x ∷ [] → before ≡ x ∷ after
    → xs ++ before ≡ all → more ++ after ≡ all
one_more xs more before after all x more_is before_is is =
    ap (λ (zs : List Op). zs ++ after) more_is ∙ append_assoc xs (x ∷ []) after
    ∙ ap (λ (zs : List Op). xs ++ zs) (sym before_is) ∙ is

pub none_more : (xs rest all : List Op) → rest ≡ [] → xs ++ rest ≡ all → xs ≡ all
none_more xs rest all none is = sym (append-nil xs) ∙ ap (λ (zs : List Op). xs ++ zs) (sym none) ∙ is

-- how it ended, and how many operations it took
pub record IsRun (image : ImageParts) (drawing : DrawingParts) (run : ℕ) (state : MachineState) (end : RunEnd) (count : ℕ)
    : Type 0 where
  pub left : state ≡ last_state image drawing run
  pub ends : end ≡ run_end image drawing run
  pub long : count ≡ run_length image drawing run
  pub stays : end ≡ Hung → StaysHung image (last_state image drawing run)

pub is_run : (image seen : ImageParts) (drawing : DrawingParts) (run : ℕ) (all : List Op × Moment) (state : MachineState)
    (end : RunEnd) (count : ℕ) → all ≡ drawn_run image drawing run → state ≡ all.1.state → seen ≡ image
    → end ≡ end_in seen state → count ≡ length all.0 → IsLawfulState (opening_state image)
    → IsRun image drawing run state end count
unfolding run_end run_length
is_run image seen drawing run all state end count whole state_is same end_is count_is lawful =
    let left : state ≡ last_state image drawing run = state_is ∙ ap (λ (r : List Op × Moment). r.1.state) whole in
    let ends : end ≡ end_in image (last_state image drawing run) =
    end_is ∙ ap (λ i. end_in i state) same ∙ ap (end_in image) left in
    record {
      left = left;
      ends = ends;
      long = count_is ∙ ap (λ (r : List Op × Moment). length r.0) whole;
      stays = λ is. end_hung image drawing run lawful (sym ends ∙ is);
    }
