use Rattle.std.proofs.Common.{refl, sym, ◌∙◌, subst}
use Rattle.std.proofs.lemmas.List.{get_or_default}
use Rattle.cheri_model.specs.runs.Machine.{no_hart}
use Rattle.cheri_model.specs.steps.Hart.{HartState}
use Rattle.explore_rights.specs.Held.{Holds, held_by}
use Rattle.hart_exchanges.proofs.HoldingLemmas.{itself}
use Rattle.alike_authority.proofs.exchanging.holder_of.Goals as goal

pub returns-then-holds : goal.returns-then-holds
returns-then-holds c = record {
  inside = c.requires.there;
  alike = itself c.args.groups.now c.args.hart c.args.hart refl;
  holds = subst (λ (h : HartState). Holds (held_by h) c.args.rights)
      (c.index-harts-hart.is ∙ get_or_default c.args.harts.now c.args.hart _ no_hart c.requires.there)
      (c.holds.ensures.0 c.if-holds.true);
}

pub returns-then-holds-2 : goal.returns-then-holds-2
returns-then-holds-2 c = record {
  inside = c.loop-other-test.true;
  alike = sym c.stands_for.ensures ∙ c.if-stands_for.true;
  holds = subst (λ (h : HartState). Holds (held_by h) c.args.rights)
      (c.index-harts-other.is ∙ get_or_default c.args.harts.now c.loop-other.other _ no_hart c.loop-other-test.true)
      (c.holds-then-stands_for.ensures.0 c.if-holds-2.true);
}
