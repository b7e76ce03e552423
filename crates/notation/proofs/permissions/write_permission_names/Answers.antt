use Rattle.cap_model.specs.words.PermissionNames.{permission_table}
use Rattle.notation.proofs.NameLemmas.{name_step, name_end}
use Rattle.notation.proofs.permissions.write_permission_names.Goals as goal

pub loop-flag-preserved : goal.loop-flag-preserved
loop-flag-preserved c =
    name_step (λ f. (f.name.now, f.value.0)) c.flags-flag-items.result.now permission_table c.args.perms.0 c.loop-flag.flag-index _ _ _ _ _ _
    (c.flags-flag-items.ensures tt) c.loop-flag-test.true c.in_ok-begun.ensures c.loop-flag.invariant

pub returns : goal.returns
returns c =
    name_end (λ f. (f.name.now, f.value.0)) c.flags-flag-items.result.now c.args.perms.0 c.loop-flag.flag-index _ _ _ c.loop-flag-test.false
    c.loop-flag.invariant
