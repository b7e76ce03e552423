use Rattle.std.proofs.Common.{◌≡◌, ◌<◌, length, refl, sym, ap, ◌∙◌, subst, arith}
use Rattle.std.specs.Prelude.{Option, IsSome}
use Rattle.cheri_model.specs.runs.Machine.{MachineState}
use Rattle.sample_tallies.specs.Tables.{Entry, with_entry}
use Rattle.sample_tallies.specs.SameStates.{same_state}
use Rattle.sample_tallies.proofs.EndLemmas.{end_at, other_end, loaded_size, entry_made}
use Rattle.sample_tallies.proofs.ends.Ends.see_all.Goals as goal
use Rattle.sample_tallies.proofs.ends.Ends.see_all.Goals.{After-load}

pub load-requires-clause-state : goal.load-requires-clause-state
load-requires-clause-state c =
    let count = c.len-number-end.ensures.count in
    let end = end_at c.args.others.now.table c.loop-number.number (omega arith) in
    subst (λ (o : Option MachineState). IsSome o) (sym (c.state.ensures.state end.0 end.1)) refl

-- the sizes of the end that was loaded
sizes : (c : After-load) → (length c.load.new.self.harts ≡ c.args.others.now.harts)
    × (length c.load.new.self.memory ≡ c.args.others.now.granules)
sizes c =
    let count = c.len-number-end.ensures.count in
    let end = end_at c.args.others.now.table c.loop-number.number (omega arith) in
    let means = c.state.ensures.state end.0 end.1 in
    loaded_size c.state.result.store.now c.state.result.row.now end.0.key c.load.new.self
    c.args.others.now.harts c.args.others.now.granules means (c.load.ensures end.0.key means) c.state.ensures.harts
    c.state.ensures.granules

pub see-requires-clause-harts : goal.see-requires-clause-harts
see-requires-clause-harts c =
    ap length c.harts.ensures ∙ (sizes (goal.at.see-requires-clause-harts c).After-load).0 ∙ c.requires.harts
    ∙ sym c.loop-number.invariant.harts

pub see-requires-clause-granules : goal.see-requires-clause-granules
see-requires-clause-granules c =
    ap length c.ram.ensures ∙ (sizes (goal.at.see-requires-clause-granules c).After-load).1 ∙ c.requires.granules
    ∙ sym c.loop-number.invariant.granules

pub returns-in_err-see-clause-blank_harts : goal.returns-in_err-see-clause-blank_harts
returns-in_err-see-clause-blank_harts c =
    (sizes (goal.at.returns-in_err-see-clause-blank_harts c).After-load).0 ∙ c.requires.harts

pub returns-in_err-see-clause-blank_granules : goal.returns-in_err-see-clause-blank_granules
returns-in_err-see-clause-blank_granules c =
    (sizes (goal.at.returns-in_err-see-clause-blank_granules c).After-load).1 ∙ c.requires.granules

pub loop-number-preserved : goal.loop-number-preserved
loop-number-preserved c =
    let count = c.len-number-end.ensures.count in
    let others = c.args.others.now.table in
    let n = c.loop-number.number in
    let below : n < length others = omega arith in
    let end = end_at others n below in
    let means = c.state.ensures.state end.0 end.1 in
    let loaded = c.load.ensures end.0.key means in
    let size = sizes (goal.at.loop-number-preserved c).After-load in
    let before = c.loop-number.self.table in
    let made = entry_made end.0 c.harts.result.now c.ram.result.now c.seen.result c.load.new.self c.harts.ensures
    c.ram.ensures loaded (c.seen.ensures end.0 end.1) in
    record {
      table = other_end others before c.see.new.self.table _ n end.0 below end.1
          (c.in_ok-see.ensures.table ∙ ap (λ (e : Entry MachineState). with_entry same_state before e) made)
          c.loop-number.invariant.table;
      harts = c.in_ok-see.ensures.same_harts ∙ c.loop-number.invariant.harts;
      granules = c.in_ok-see.ensures.same_granules ∙ c.loop-number.invariant.granules;
      opening = c.in_ok-see.ensures.same_opening ∙ c.loop-number.invariant.opening;
      blank_harts = size.0 ∙ c.requires.harts;
      blank_granules = size.1 ∙ c.requires.granules;
    }
