use Rattle.outcome_texts.proofs.HeadLemmas.{head_written}
use Rattle.outcome_texts.proofs.heads.write_head_lines.Goals as goal

pub returns : goal.returns
returns c =
    head_written c.write_count_line.result c.args.head.reduced c.args.head.complete c.args.head.image.now c.args.head.states
    c.args.head.endless.now c.args.outcomes _ _ _ _ _ _ _ _ _ c.first_line.ensures c.reduced_line.ensures
    c.in_ok-push_str.ensures.bytes c.in_ok-write_image_line.ensures c.in_ok-push_str-2.ensures.bytes c.in_ok-write_states_line.ensures
    c.in_ok-write_endless_line.ensures c.write_count_line.ensures
