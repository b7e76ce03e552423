-- The operation of a label.
use Rattle.std.proofs.Common.{◌≡◌, ℕ, ◌-◌, ◌<◌, ◌≤◌, List, length, arith, ap, sym, ◌∙◌}
use Rattle.std.specs.Prelude.{Some, IsSome, slice_get, option_map}
use Rattle.std.proofs.lemmas.Bool.Decides.{nat_tests}
use Rattle.cheri_model.specs.declared.operation.Op.{Op}
use Rattle.cheri_model.specs.declared.operation.Op.TheVariants as operation
use Rattle.cheri_model.specs.runs.Image.{ImageParts}
use Rattle.schedules.specs.declared.ranges.SweepRange.{SweepRange}
use Rattle.schedules.specs.Schedules.{operation_of_label, sweep_of}
use Rattle.state_store.proofs.NumberedLemmas.{some_of, map_some}

pub hart_label : (image : ImageParts) (sweeps : List SweepRange) (label : ℕ) → label < length image.harts →
    operation_of_label image sweeps label ≡ Some (operation.Step label)
unfolding operation_of_label
hart_label image sweeps label below = grind (arith, nat_tests)

opened : (image : ImageParts) (sweeps : List SweepRange) (label : ℕ) → length image.harts ≤ label →
    operation_of_label image sweeps label ≡ option_map sweep_of (slice_get sweeps (label - length image.harts))
unfolding operation_of_label
opened image sweeps label past = grind (arith, nat_tests)

pub sweep_label : (image : ImageParts) (sweeps : List SweepRange) (label : ℕ) → length image.harts ≤ label →
    IsSome (operation_of_label image sweeps label) →
    (range : SweepRange) × (slice_get sweeps (label - length image.harts) ≡ Some range)
    × (operation_of_label image sweeps label ≡ Some (sweep_of range))
sweep_label image sweeps label past some =
    let op = some_of (operation_of_label image sweeps label) some in
    let r = map_some sweep_of (slice_get sweeps (label - length image.harts)) op.0 (sym (opened image sweeps label past) ∙ op.1) in
    (r.0, r.1, op.1 ∙ ap (λ (o : Op). Some o) (sym r.2))
