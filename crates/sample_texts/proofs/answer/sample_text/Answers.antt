use Rattle.std.proofs.Common.{◌∙◌}
use Rattle.sample_texts.specs.SampleParts.{sampled_of}
use Rattle.sample_texts.proofs.JsonLemmas.{whole_is}
use Rattle.sample_texts.proofs.answer.sample_text.Goals as goal

pub returns : goal.returns
returns c =
    let e = simp c.new-out.ensures.bytes at c.in_ok-write_answer.ensures in
    e ∙ whole_is c.args.format (sampled_of c.args.sampled)
