use Rattle.std.proofs.Common.{◌≡◌, Ok, Err, sym, ◌∙◌}
use Rattle.cap_model.specs.results.Fields.{set_flags}
use Rattle.cap_ops.proofs.BuiltAgain.{not_built, not_made, built}
use Rattle.cap_ops.proofs.cap.Cap.build.Goals as goal

pub returns-then-not-may_build : goal.returns-then-not-may_build
returns-then-not-may_build c =
    c.clear_tag.ensures ∙ sym (not_built c.args.self c.args.source (sym c.may_build.ensures.value ∙ c.if-not-may_build.true))

pub returns-in-Ok : goal.returns-in-Ok
returns-in-Ok c =
    let made = rw (c.from.ensures, c.bounds-base.ensures.base, c.bounds-base.ensures.top, c.addr.ensures.value, c.perm.ensures.value) at c.make.ensures in
    rw (c.from-in-Ok.ensures, c.flags.ensures) at c.set_flags.ensures
    ∙ sym (built c.args.self c.args.source c.may_build.ensures.authority c.may_build.ensures.source
    (sym c.may_build.ensures.value ∙ c.if-not-may_build.false) c.in-Ok.made (sym made ∙ c.in-Ok.is))

pub returns-in-Err : goal.returns-in-Err
returns-in-Err c =
    let made = rw (c.from.ensures, c.bounds-base.ensures.base, c.bounds-base.ensures.top, c.addr.ensures.value, c.perm.ensures.value) at c.make.ensures in
    c.clear_tag-in-Err.ensures
    ∙ sym (not_made c.args.self c.args.source c.may_build.ensures.authority c.may_build.ensures.source c.in-Err.field-0 (sym made ∙ c.in-Err.is))
