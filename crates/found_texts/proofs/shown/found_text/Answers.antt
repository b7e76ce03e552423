use Rattle.std.proofs.Common.{◌∙◌, sym}
use Rattle.found_texts.proofs.FoundLemmas.{found_whole, in_three}
use Rattle.found_texts.proofs.shown.found_text.Goals as goal

pub returns : goal.returns
returns c =
    in_three _ _ _ _ _ _ _ c.new-out.ensures.bytes c.in_ok-write_head.ensures c.in_ok-write_state.ensures
    (rw c.tail.ensures at c.in_ok-push_str.ensures.bytes)
    ∙ sym (found_whole c.args.format c.args.left_out c.args.image.now c.args.order.now c.args.state.now)
