use Rattle.std.proofs.Common.{◌≡◌, ◌≤◌, ℕ, length, arith, ap, sym, ◌∙◌, Some, List, ◌-◌}
use Rattle.std.specs.Prelude.{slice_index_or}
use Rattle.std.proofs.lemmas.Option.{slice_get_within, get_or_from_slice_get}
use Rattle.cheri_model.specs.declared.image.HartImage.{HartImage}
use Rattle.schedules.specs.declared.ranges.SweepRange.{SweepRange}
use Rattle.schedules.specs.Schedules.{sweep_of}
use Rattle.states.proofs.LabelLemmas.{sweep_label}
use Rattle.states.proofs.SizeLemmas.{sizes_of}
use Rattle.states.proofs.kept.operation_of_label.Goals as goal

pub overflow_cast-result : goal.overflow_cast-result
overflow_cast-result c =
    let few = (sizes_of c.args.image.now c.granules-granules.ensures.formed).harts_few in
    let count : length c.harts-harts.result.now ≡ length c.args.image.now.harts =
    ap (λ (l : List HartImage). length l) c.harts-harts.ensures in
    omega arith

pub bounds-sweeps-label : goal.bounds-sweeps-label
bounds-sweeps-label c =
    let count : length c.harts-harts.result.now ≡ length c.args.image.now.harts =
    ap (λ (l : List HartImage). length l) c.harts-harts.ensures in
    let end = c.if-label-harts.false in
    let past : length c.args.image.now.harts ≤ c.args.label = omega arith in
    let r = sweep_label c.args.image.now c.args.sweeps.now c.args.label past c.requires in
    let within = slice_get_within c.args.sweeps.now (c.args.label - length c.args.image.now.harts) r.0 r.1 in
    omega arith

pub returns : goal.returns
returns c =
    let count : length c.harts-harts.result.now ≡ length c.args.image.now.harts =
    ap (λ (l : List HartImage). length l) c.harts-harts.ensures in
    let end = c.if-label-harts.false in
    let past : length c.args.image.now.harts ≤ c.args.label = omega arith in
    let none : SweepRange = record { lo = 0; hi = 0 } in
    let r = sweep_label c.args.image.now c.args.sweeps.now c.args.label past c.requires in
    let same : slice_index_or c.args.sweeps.now (c.args.label - length c.harts-harts.result.now) none ≡ r.0 =
    ap (λ (n : ℕ). slice_index_or c.args.sweeps.now (c.args.label - n) none) count
    ∙ get_or_from_slice_get c.args.sweeps.now (c.args.label - length c.args.image.now.harts) r.0 none r.1 in
    r.2 ∙ ap (λ (x : SweepRange). Some (sweep_of x)) (sym same)
