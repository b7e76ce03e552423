use Rattle.std.proofs.Common.{Option, sym, ap, ◌∙◌, subst}
use Rattle.cheri_model.specs.runs.Image.{ImageParts}
use Rattle.cores.specs.Runs.{Stop}
use Rattle.found_texts.specs.Find.{IsRun}
use Rattle.found_texts.proofs.RunLemmas.{run_whole}
use Rattle.found_texts.proofs.running.ran.Goals as goal

pub returns-in-Ok-default-None : goal.returns-in-Ok-default-None
returns-in-Ok-default-None c =
    let core = c.in-Ok-default-None.core in
    subst (λ (i : ImageParts). IsRun i c.args.order.now core.state) c.in_ok-copy.ensures
    (run_whole c.in_ok-copy.field-0 c.args.order.now _ core
    (ap (λ (o : Option Stop). (core, o)) (sym c.in-Ok-default-None.field-0-1-is) ∙ c.in-Ok-default-None.ensures.run)
    c.in-Ok-default-None.ensures.core)
