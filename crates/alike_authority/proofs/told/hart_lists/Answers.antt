use Rattle.std.proofs.Common.{rules}
use Rattle.std.specs.Prelude.{ℕ, Vec}
use Rattle.std.specs.Global.{Global}
use Rattle.authority_texts.specs.declared.told.Told.{Told}
use Rattle.alike_authority.specs.AlikeAuthority.{IsHartList}
use Rattle.alike_authority.proofs.ListLemmas.{each_more, rows_meant}
use Rattle.alike_authority.proofs.told.hart_lists.Goals as goal

pub hart_authorities-requires-clause-meant : goal.hart_authorities-requires-clause-meant
hart_authorities-requires-clause-meant c =
    rows_meant c.args.survey.now c.len-count.ensures.survey _ _ c.rows-rows.ensures.states c.rows-rows.ensures.count

pub loop-hart-preserved : goal.loop-hart-preserved
loop-hart-preserved c = record {
  count = search rules;
  lists = each_more (λ (n : ℕ) (told : Vec Told Global). IsHartList c.args.survey.now n told.items) c.loop-hart.lists.items
      c.push.new.self.items c.in_ok-hart_list.field-0 c.loop-hart.hart c.in_ok-push.ensures.items c.loop-hart.invariant.count
      c.loop-hart.invariant.lists c.in_ok-hart_list.ensures;
}
