-- What is left of CBuildCap's table where no other line holds.
use Rattle.std.proofs.Common.{sym, ◌∙◌, ap, arith}
use Rattle.cap_model.specs.values.CapValue.{tag_of}
use Rattle.facts.proofs.Built.{buildable, top_at_most, no_line, last_line}
use Rattle.facts.proofs.losses.not_encodable.Goals as goal

pub outside_region-requires-clause-ordered : goal.outside_region-requires-clause-ordered
outside_region-requires-clause-ordered c =
    let is = buildable c.args.o.now c.requires in
    let ordered = is.ordered in
    omega (arith, ordered, c.bounds-base.ensures.base, c.bounds-base.ensures.top)

pub outside_region-requires-clause-within : goal.outside_region-requires-clause-within
outside_region-requires-clause-within c =
    let is = buildable c.args.o.now c.requires in
    let within = is.within in
    let top = top_at_most c.args.o.now.v c.bounds-source.ensures.lawful is.tagged in
    omega (arith, within, top, c.bounds-base.ensures.top)

pub returns-then-tag : goal.returns-then-tag
returns-then-tag c =
    no_line c.args.o.now c.bounds-source.ensures.lawful (ap (λ v. tag_of v) (sym c.build.ensures) ∙ sym c.tag.ensures.value ∙ c.if-tag.true)

pub returns : goal.returns
returns c =
    rw (c.outside_region.ensures, c.bounds-base.ensures.base, c.bounds-base.ensures.top, c.addr.ensures.integer)
    (last_line c.args.o.now c.bounds-source.ensures.lawful c.bounds-base.ensures.lawful c.requires (ap (λ v. tag_of v) (sym c.build.ensures) ∙ sym c.tag.ensures.value ∙ c.if-tag.false))
