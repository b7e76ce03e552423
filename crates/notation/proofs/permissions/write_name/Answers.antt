use Rattle.std.proofs.Common.{◌∙◌, sym, string_bytes}
use Rattle.notation.proofs.NameLemmas.{name_skipped, name_written}
use Rattle.notation.proofs.permissions.write_name.Goals as goal

pub returns-then-not-contains : goal.returns-then-not-contains
returns-then-not-contains c = λ rest.
    name_skipped c.args.perms.0 (c.args.flag.now.name.now, c.args.flag.now.value.0) rest (string_bytes c.args.out.now) c.args.begun
    (sym (c.contains.ensures tt) ∙ c.if-not-contains.true)

pub returns : goal.returns
returns c = λ rest.
    name_written c.args.perms.0 (c.args.flag.now.name.now, c.args.flag.now.value.0) rest (string_bytes c.args.out.now) c.args.begun _
    (sym (c.contains.ensures tt) ∙ c.if-not-contains.false) (rw c.separator.ensures at c.in_ok-write.ensures.bytes)
