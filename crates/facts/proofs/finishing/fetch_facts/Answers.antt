use Rattle.std.proofs.Common.{◌≡◌, ◌∙◌, ap}
use Rattle.std.specs.Prelude.{None}
use Rattle.cap_model.specs.results.Addresses.{address_of}
use Rattle.facts.specs.declared.step_facts.UpToTwo.TheVariants.{Zero}
use Rattle.facts.proofs.Stopped.{same_fetch_facts}
use Rattle.facts.proofs.finishing.fetch_facts.Goals as goal

pub returns : goal.returns
returns c hart stopped =
    let pc : c.addr.result ≡ address_of c.args.after.now.pcc = c.addr.ensures.integer ∙ ap (λ v. address_of v) c.pcc.ensures.value in
    same_fetch_facts c.args.number hart c.args.after.now c.args.outcome _ stopped
    (λ i. record {
      entry = record { hart = c.args.number; pc = pc i; outcome = c.args.outcome };
      fetched = None;
      reads = Zero;
      at = None;
      finds = None;
      traps = c.fetch_trap-facts.ensures i;
      leaves = None;
      sets = Zero;
      clears = None;
    })
