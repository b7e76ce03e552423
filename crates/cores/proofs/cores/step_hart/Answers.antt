-- What the step leaves and answers is the definition's.
use Rattle.std.proofs.Common.{sym, ap, ◌∙◌}
use Rattle.cap_model.specs.results.Addresses.{address_of}
use Rattle.cores.proofs.cores.step_hart.Goals as goal

pub returns : goal.returns
unfolding address_of
returns c = record {
  hart = sym (ap (λ s. s.hart) c.step-outcome.ensures.value);
  memory = sym (ap (λ s. s.memory) c.step-outcome.ensures.value);
  entry = λ i. record {
    hart = c.args.number;
    pc = (c.addr-pc.ensures.value ∙ ap address_of c.pcc.ensures.value) i;
    outcome = sym (ap (λ s. s.outcome) c.step-outcome.ensures.value) i;
  };
}
