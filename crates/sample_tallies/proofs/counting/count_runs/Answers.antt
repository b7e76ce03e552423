use Rattle.std.proofs.Common.{◌≡◌, ◌+◌, length, refl, sym, ap, ◌∙◌, subst, arith, List}
use Rattle.std.specs.Prelude.{Option, IfSome}
use Rattle.cap_model.specs.values.CapValue.{CapValue}
use Rattle.cheri_model.specs.runs.Image.{ImageParts, opening_memory}
use Rattle.sample_runs.specs.Memories.{MemoryParts}
use Rattle.sample_tallies.proofs.NumberingLemmas.{some_is}
use Rattle.sample_tallies.proofs.TallyLemmas.{none_yet, few_harts, state_read, counted_more}
use Rattle.sample_tallies.proofs.counting.count_runs.Goals as goal

pub new-counted-requires : goal.new-counted-requires
new-counted-requires c =
    let same : length c.harts.result.now ≡ length c.args.image.now.harts = ap length c.harts.ensures in
    let few = few_harts c.args.image.now c.granules-granules.ensures.formed in
    omega arith

pub note-requires-clause-opening : goal.note-requires-clause-opening
note-requires-clause-opening c =
    let inv = c.loop-done.invariant in
    some_is c.loop-done.counted.opening (opening_memory c.args.image.now.ram c.args.image.now.granules) _ inv.opening
    (sym (ap (λ (m : MemoryParts). m.opening) c.memory-memory.ensures.memory ∙ c.memory-memory.ensures.opening
    ∙ ap (λ (i : ImageParts). opening_memory i.ram i.granules) (c.run.ensures.image ∙ inv.image)))

pub loop-done-init : goal.loop-done-init
loop-done-init c = record {
  image = c.in_ok-runner.ensures;
  sum = c.new-counted.ensures.sum ∙ sym (none_yet c.args.image.now c.args.drawing.now c.args.first);
  harts = c.new-counted.ensures.harts ∙ ap length c.harts.ensures;
  granules = c.new-counted.ensures.granules ∙ c.granule_count-granules.ensures.count
      ∙ ap length (c.opening.ensures.value ∙ ap (λ (m : MemoryParts). m.opening) c.memory.ensures.memory
      ∙ c.memory.ensures.opening
      ∙ ap (λ (i : ImageParts). opening_memory i.ram i.granules) c.in_ok-runner.ensures);
  opening = subst (λ (o : Option (List CapValue)). IfSome o
      (λ m. m ≡ opening_memory c.args.image.now.ram c.args.image.now.granules)) (sym c.new-counted.ensures.opening) tt;
}

pub loop-done-preserved : goal.loop-done-preserved
loop-done-preserved c =
    let inv = c.loop-done.invariant in
    let runner = c.run.new.self in
    let state = state_read runner c.harts-in-loop-done.result.now c.memory-memory.result.now.now _
    c.harts-in-loop-done.ensures.harts (ap (λ (m : MemoryParts). m.now) c.memory-memory.ensures.memory)
    c.in_ok-run.ensures.state in
    record {
      image = c.run.ensures.image ∙ inv.image;
      sum = counted_more c.args.image.now c.loop-done.runner.image c.args.drawing.now c.args.first c.loop-done.done
          (c.args.first + c.loop-done.done) c.in_ok-run.run'.length c.in_ok-run.run'.end
          (record { harts = c.harts-in-loop-done.result.now; memory = c.memory-memory.result.now.now }) c.loop-done.counted.sum
          c.note.new.self.sum inv.image refl inv.sum c.in_ok-note.ensures.sum c.in_ok-run.ensures.end
          c.in_ok-run.ensures.length state;
      harts = c.in_ok-note.ensures.same_harts ∙ inv.harts;
      granules = c.in_ok-note.ensures.same_granules ∙ inv.granules;
      opening = some_is c.note.new.self.opening c.memory-memory.result.now.opening _ c.in_ok-note.ensures.opening
          (ap (λ (m : MemoryParts). m.opening) c.memory-memory.ensures.memory ∙ c.memory-memory.ensures.opening
          ∙ ap (λ (i : ImageParts). opening_memory i.ram i.granules) (c.run.ensures.image ∙ inv.image));
    }
