use Rattle.tagged_mem.proofs.PackedTags.{tag_there, tag_other}
use Rattle.tagged_mem.proofs.packed.put_tag.Goals as goal

pub returns-clause-there : goal.returns-clause-there
returns-clause-there c = tag_there c.args.tags.now c.args.granule c.with_bit.result c.args.tag c.requires c.with_bit.ensures.there

pub returns-clause-others : goal.returns-clause-others
returns-clause-others c = λ k apart. tag_other c.args.tags.now c.args.granule c.with_bit.result k c.requires apart c.with_bit.ensures.others
