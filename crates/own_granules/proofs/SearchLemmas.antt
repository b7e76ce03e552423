-- A search by turns of which all that it met respects owners, beside the steps of the machine.
use Rattle.std.proofs.Common.{◌≡◌, ℕ, suc, ◌+◌, ◌*◌, ◌<◌, List, [], length, ap, sym, ◌∙◌, refl, subst}
use Rattle.std.specs.Prelude.{Option, Bool, true, option_map}
use Rattle.cheri_model.specs.runs.Image.{ImageParts}
use Rattle.cheri_model.specs.runs.ImageRules.{is_image}
use Rattle.cheri_model.specs.runs.Machine.{MachineState, opening_state, state_after_step}
use Rattle.cheri_model.specs.steps.Hart.{HartState}
use Rattle.graph_loops.specs.Loops.{IsFair, IsLoop, Takes, actor_count}
use Rattle.graph_merging.proofs.CountLemmas.{walks_bounded}
use Rattle.graph_merging.specs.Merging.{merged}
use Rattle.graph_search.specs.Walks.{IsReachable, IsWalk, after}
use Rattle.own_granules.specs.Granules.{is_quiet, respects_in}
use Rattle.own_granules.specs.Rests.{rest_after}
use Rattle.own_granules.specs.Turns.{AreOwned, is_state_of, respecting_next, respecting_rest, rest_of, start, turn}
use Rattle.own_granules.proofs.LoneLemmas.{IsAlone, is_alone}
use Rattle.own_granules.proofs.MetLemmas.{LosesNothing, loses_nothing}
use Rattle.own_granules.proofs.OwnLemmas.{opening_fits, own_merging, own_most, own_steps, blocked, quiet_edge, all_plain}
use Rattle.schedules.specs.declared.ranges.SweepRange.{SweepRange}
use Rattle.schedules.specs.Schedules.{next}

module _ (image : ImageParts) (sweeps : List SweepRange) (shared : ℕ → Bool) (owner : ℕ → Option ℕ)
    (hides : HartState → HartState → Bool) (most : ℕ)
    (is : is_image image ≡ true) (owned : AreOwned image sweeps shared owner hides most) where
  abbrev Reached : MachineState → Type 0
  Reached s = IsReachable (next image sweeps) (opening_state image) s

  abbrev turns : MachineState → ℕ → Option MachineState
  turns s l = turn image sweeps shared hides most s l

  abbrev Turned : MachineState → Type 0
  Turned r = IsReachable turns (start image sweeps shared hides most) r

  abbrev n : ℕ
  n = length image.harts

  abbrev rest : MachineState → MachineState
  rest s = rest_of image sweeps shared hides most s

  -- those by steps that respect owners
  abbrev own_turns : MachineState → ℕ → Option MachineState
  own_turns s l =
      merged (respecting_next image sweeps shared owner) (respecting_rest image sweeps shared owner hides most) s l

  start_fits : is_state_of image sweeps shared (opening_state image) ≡ true
  start_fits = opening_fits image sweeps shared is owned.kept

  -- turns after which all harts are at their rest
  abbrev whole_turns : MachineState → ℕ → Option MachineState
  whole_turns s l = merged (next image sweeps) rest s l

  alone : IsAlone (next image sweeps) turns whole_turns (state_after_step image) (is_quiet image sweeps shared hides)
      (respects_in image sweeps shared owner) n most (opening_state image)
  alone = is_alone (next image sweeps) (state_after_step image) (is_quiet image sweeps shared hides)
      (respects_in image sweeps shared owner) _ _ (is_state_of image sweeps shared) n most
      (all_plain image sweeps shared owner hides most)
      (opening_state image) start_fits owned.met

  whole : LosesNothing (next image sweeps) (respecting_next image sweeps shared owner) rest
      (respecting_rest image sweeps shared owner hides most) n (opening_state image)
  whole = loses_nothing (next image sweeps) (state_after_step image) (is_quiet image sweeps shared hides)
      (respects_in image sweeps shared owner) n most (is_state_of image sweeps shared)
      (own_steps image sweeps shared owner hides most) (own_merging image sweeps shared owner hides most)
      (blocked image sweeps shared owner hides most)
      (λ s l fit low holds. quiet_edge image sweeps shared owner hides most s l low holds)
      (opening_state image) start_fits alone.met

  turned_whole : (r : MachineState) → Turned r → IsReachable whole_turns (rest (opening_state image)) r
  turned_whole r turned =
      (turned.0, sym (alone.walks (rest (opening_state image)) turned.0 ([], refl)) ∙ turned.1)

  pub same_steps : (s : MachineState) (ls : List ℕ) → Reached s →
      after (next image sweeps) s ls ≡ after (respecting_next image sweeps shared owner) s ls
  same_steps = whole.walks

  pub same_rests : (s : MachineState) → Reached s → rest s ≡ respecting_rest image sweeps shared owner hides most s
  same_rests = whole.rests

  pub same_turns : (r : MachineState) (ls : List ℕ) → Turned r → after turns r ls
      ≡ after own_turns r ls
  same_turns r ls turned = alone.walks r ls turned ∙ whole.turns r ls (turned_whole r turned)

  pub turns_kept : (r : MachineState) → Turned r → Reached r
  turns_kept r turned = whole.kept r (turned_whole r turned)

  pub rests_found : (s : MachineState) → Reached s → Turned (rest s)
  rests_found s reached = alone.alone (rest s) (whole.found s reached)

  pub turn_loops : (r : MachineState) (ls : List ℕ) → Turned r → IsLoop turns n r ls →
      (ms : List ℕ) × IsLoop (next image sweeps) n r ms × ((m : ℕ) → Takes ls m → Takes ms m)
  turn_loops r ls turned loop =
      let same : IsLoop whole_turns n r ls = (sym (alone.walks r ls turned) ∙ loop.0, loop.1) in
      whole.turn_loops r ls (turned_whole r turned) same

  pub step_loops : (s : MachineState) (ls : List ℕ) → Reached s → IsLoop (next image sweeps) n s ls →
      (ms : List ℕ) × IsLoop turns n (rest s) ms × ((m : ℕ) → m < n → Takes ls m → Takes ms m)
  step_loops s ls reached loop =
      let found = whole.step_loops s ls reached loop in
      (found.0, (alone.walks (rest s) found.0 (rests_found s reached) ∙ found.1.0, found.1.1), found.2)

  pub step_fair : (s : MachineState) (ls ms : List ℕ) → Reached s → IsFair (next image sweeps) n s ls →
      ((m : ℕ) → m < n → Takes ls m → Takes ms m) → IsFair turns n (rest s) ms
  step_fair s ls ms reached fair all m t low goes =
      whole.step_fair s ls ms reached fair all m t low
      (sym (alone.edges (rest s) m (rests_found s reached)) ∙ goes)

  -- where walks by turns are short, those by steps are
  pub few_steps : (count : ℕ) (s : MachineState) (ls : List ℕ) →
      ((r : MachineState) (ms : List ℕ) → IsWalk turns (start image sweeps shared hides most) ms r →
      actor_count n ms < count) →
      IsWalk (next image sweeps) (opening_state image) ls s → actor_count n ls < suc (suc most) * count + n * suc most
  few_steps count s ls short walk =
      let o = opening_state image in
      walks_bounded (respecting_next image sweeps shared owner) n (is_state_of image sweeps shared)
      (respecting_rest image sweeps shared owner hides most) (own_steps image sweeps shared owner hides most)
      (own_merging image sweeps shared owner hides most) (suc most)
      (own_most image sweeps shared owner hides most) count o s ls
      start_fits
      (λ u ms own_walk.
      let from_start = subst (λ (x : MachineState). IsWalk own_turns x ms u) (sym (same_rests o ([], refl))) own_walk in
      short u ms (same_turns (rest o) ms ([], refl) ∙ from_start))
      (sym (same_steps o ls ([], refl)) ∙ walk)

-- an edge gives a turn, so what is fair among turns is fair among edges
pub turn_fair : (image : ImageParts) (sweeps : List SweepRange) (shared : ℕ → Bool)
    (hides : HartState → HartState → Bool) (most : ℕ)
    (r : MachineState) (ls ms : List ℕ) → IsFair (turn image sweeps shared hides most) (length image.harts) r ls →
    ((m : ℕ) → Takes ls m → Takes ms m) → IsFair (next image sweeps) (length image.harts) r ms
turn_fair image sweeps shared hides most r ls ms fair all m t low goes =
    let one = rest_after (state_after_step image) (is_quiet image sweeps shared hides) most (length image.harts) m in
    all m (fair m (one t) low (ap (option_map one) goes))
