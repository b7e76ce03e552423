use Rattle.std.proofs.Common.{refl}
use Rattle.sample_texts.proofs.ListLemmas.{mapped_step, mapped_end}
use Rattle.serde_json.specs.Data.{string}
use Rattle.report_lines.specs.JsonText.{item_text}
use Rattle.sample_texts.proofs.members.write_names.Goals as goal

pub loop-place-preserved : goal.loop-place-preserved
loop-place-preserved c =
    mapped_step (λ name. name.now) (item_text string) c.args.names.now c.loop-place.place _ _ _ _ _ c.loop-place-test.true refl
    c.in_ok-write_name.ensures c.loop-place.invariant

pub returns : goal.returns
returns c = mapped_end (λ name. name.now) (item_text string) c.args.names.now c.loop-place.place _ _ c.loop-place-test.false c.loop-place.invariant
