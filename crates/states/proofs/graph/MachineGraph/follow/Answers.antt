use Rattle.std.proofs.Common.{◌≡◌, ◌≤◌, ◌<◌, ◌-◌, ℕ, List, length, arith, ap, sym, ◌∙◌, subst}
use Rattle.std.specs.Prelude.{Some, Option, option_map, Bool, slice_get}
use Rattle.std.proofs.lemmas.Option.{slice_get-get_or}
use Rattle.std.proofs.lemmas.Result.{IfOk-weaker}
use Rattle.cheri_model.specs.declared.image.HartImage.{HartImage}
use Rattle.cheri_model.specs.runs.Machine.{MachineState}
use Rattle.graph_search.specs.Graphs.{LeadsTo}
use Rattle.schedules.specs.declared.ranges.SweepRange.{SweepRange}
use Rattle.schedules.specs.Schedules.{taken, sweep_of}
use Rattle.states.specs.Graphs.{GraphParts, state_in, rest_in, turn_in}
use Rattle.states.proofs.SizeLemmas.{sizes_of}
use Rattle.states.proofs.GraphLemmas.{next_of_sweep}
use Rattle.states.proofs.graph.MachineGraph.follow.Goals as goal

pub overflow_cast-harts : goal.overflow_cast-harts
overflow_cast-harts c =
    let few = (sizes_of c.self.inside.image c.self.invariant.formed).harts_few in
    let count : length c.harts.result.now ≡ length c.self.inside.image.harts = ap (λ (l : List HartImage). length l) c.harts.ensures in
    omega arith

pub returns : goal.returns
returns c =
    let count : length c.harts.result.now ≡ length c.args.self.now.image.harts =
    ap (λ (l : List HartImage). length l) c.harts.ensures ∙ ap (λ (g : GraphParts). length g.image.harts) c.self.view_is in
    let sweeps : length c.self.inside.sweeps.items ≡ length c.args.self.now.sweeps =
    ap (λ (g : GraphParts). length g.sweeps) c.self.view_is in
    let past = c.if-label-harts.false in
    let labelled = c.requires.labelled in
    let beyond : length c.args.self.now.image.harts ≤ c.args.label = omega arith in
    let place : c.args.label - length c.harts.result.now < length c.self.inside.sweeps.items = omega arith in
    let at : slice_get c.args.self.now.sweeps (c.args.label - length c.args.self.now.image.harts) ≡ Some c.index-range.result.now =
    ap (λ (n : ℕ). slice_get c.args.self.now.sweeps (c.args.label - n)) (sym count)
    ∙ (ap (λ (g : GraphParts). slice_get g.sweeps (c.args.label - length c.harts.result.now)) (sym c.self.view_is)
    ∙ (slice_get-get_or c.self.inside.sweeps.items (c.args.label - length c.harts.result.now) c.index-range.result.now place
    ∙ ap (λ (r : SweepRange). Some r) (sym c.index-range.ensures))) in
    record {
      continues = c.sweep.ensures.continues;
      value = IfOk-weaker c.sweep.result
          (λ (leads : Bool). (s : MachineState) → state_in c.args.self.now c.args.node.now ≡ Some s →
          LeadsTo (state_in c.sweep.new.self) leads c.sweep.new.to
          (option_map (rest_in c.args.self.now) (taken c.args.self.now.image s (Some (sweep_of c.index-range.result.now)))))
          (λ (leads : Bool). (s : MachineState) → state_in c.args.self.now c.args.node.now ≡ Some s →
          LeadsTo (state_in c.sweep.new.self) leads c.sweep.new.to
          (turn_in c.args.self.now s c.args.label))
          (λ leads was s is. subst (λ (o : Option MachineState). LeadsTo (state_in c.sweep.new.self) leads c.sweep.new.to o)
          (sym (ap (option_map (rest_in c.args.self.now))
          (next_of_sweep c.args.self.now.image c.args.self.now.sweeps s c.args.label c.index-range.result.now beyond at)))
          (was s is))
          c.sweep.ensures.value;
    }
