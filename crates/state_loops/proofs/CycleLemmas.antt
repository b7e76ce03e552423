-- The order of a loop is what its turns add to the witness's.
use Rattle.std.proofs.Common.{◌≡◌, ℕ, ◌+◌, ◌≤◌, List, [], ◌∷◌, ◌++◌, length, drop, arith, ap, ◌∙◌}
use Rattle.std.proofs.Math.Seq.{drop-append_seam}
use Rattle.std.proofs.lemmas.List.{length-append}
use Rattle.cheri_model.specs.declared.operation.Op.{Op}
use Rattle.cheri_model.specs.runs.Image.{ImageParts}
use Rattle.cheri_model.specs.runs.Machine.{MachineState}
use Rattle.explore_turns.specs.Orders.{AreOfHarts, order_of_turns, turns_from}
use Rattle.explore_turns.proofs.OrderLemmas.{order_append}
use Rattle.schedules.specs.declared.ranges.SweepRange.{SweepRange}
use Rattle.schedules.specs.Schedules.{AreLabelsOf}
use Rattle.states.specs.Kept.{KeptParts, AreWitnessTurns}
use Rattle.states.proofs.KeptLemmas.{harts_of_labels}

labels_append : (image : ImageParts) (sweeps : List SweepRange) (ls ms : List ℕ) (first later : List Op) →
    AreLabelsOf image sweeps ls first → AreLabelsOf image sweeps ms later →
    AreLabelsOf image sweeps (ls ++ ms) (first ++ later)
labels_append image sweeps [] ms [] later are also = also
labels_append image sweeps [] ms (op ∷ first) later are also = absurd are
labels_append image sweeps (l ∷ ls) ms [] later are also = absurd are
labels_append image sweeps (l ∷ ls) ms (op ∷ first) later are also =
    (are.0, labels_append image sweeps ls ms first later are.1 also)

-- the turns of a state's witness, and later ones that begin there
pub record GoOn (kept : KeptParts) (s : MachineState) (first later : List Op) : Type 0 where
  pub first_of : AreOfHarts kept.image first
  pub all_of : AreOfHarts kept.image (first ++ later)
  pub longer : length (order_of_turns kept.image kept.sweeps kept.sight first)
      ≤ length (order_of_turns kept.image kept.sweeps kept.sight (first ++ later))
  pub cycle : drop (length (order_of_turns kept.image kept.sweeps kept.sight first))
      (order_of_turns kept.image kept.sweeps kept.sight (first ++ later))
      ≡ turns_from kept.image kept.sweeps kept.sight s later

pub turns_go_on : (kept : KeptParts) (s : MachineState) (first later : List Op) (labels : List ℕ) →
    AreWitnessTurns kept.image kept.sweeps kept.sight s first → AreLabelsOf kept.image kept.sweeps labels later →
    GoOn kept s first later
turns_go_on kept s first later labels turns are =
    let all = order_append kept.image kept.sweeps kept.sight turns.labels first later s turns.operations turns.least.0 in
    let before = order_of_turns kept.image kept.sweeps kept.sight first in
    let added = turns_from kept.image kept.sweeps kept.sight s later in
    let size : length (order_of_turns kept.image kept.sweeps kept.sight (first ++ later)) ≡ length before + length added =
    ap (λ (os : List Op). length os) all ∙ length-append before added in record {
      first_of = λ i hart at. harts_of_labels kept.image kept.sweeps turns.labels first turns.operations i hart at;
      all_of = λ i hart at. harts_of_labels kept.image kept.sweeps (turns.labels ++ labels) (first ++ later)
          (labels_append kept.image kept.sweeps turns.labels labels first later turns.operations are) i hart at;
      longer = omega (arith, size);
      cycle = ap (λ (os : List Op). drop (length before) os) all ∙ drop-append_seam before added;
    }
