use Rattle.std.proofs.Common.{◌∙◌}
use Rattle.sinks.proofs.SinkLemmas.{takes_none}
use Rattle.explanations.proofs.Parts.{parts_begin, parts_stop, parts_end}
use Rattle.explained_page.proofs.LookLemmas.{core_parts}
use Rattle.explained_page.proofs.look.put_look.Goals as goal

pub returns-in_err-out-clause-prefix : goal.returns-in_err-out-clause-prefix
returns-in_err-out-clause-prefix g c = (_, takes_none _ _)

pub returns-in_err-write_head-clause-prefix : goal.returns-in_err-write_head-clause-prefix
returns-in_err-write_head-clause-prefix g c = (_, takes_none _ _)

pub returns-in_err-put_selected-clause-prefix : goal.returns-in_err-put_selected-clause-prefix
returns-in_err-put_selected-clause-prefix g c =
    parts_begin _ _ _ _ _ _ _ (core_parts _ _ _ _ _ _ _ c.view-view.ensures.entries c.min-taken.ensures)
    (rw c.in_ok-out.ensures.bytes at c.in_ok-write_head.ensures) c.put_selected.ensures.prefix

pub returns-in_err-follower-clause-prefix : goal.returns-in_err-follower-clause-prefix
returns-in_err-follower-clause-prefix g c =
    parts_begin _ _ _ _ _ _ _ (core_parts _ _ _ _ _ _ _ c.view-view.ensures.entries c.min-taken.ensures)
    (rw c.in_ok-out.ensures.bytes at c.in_ok-write_head.ensures) (_, c.in_ok-put_selected.ensures.whole)

pub returns-in_err-write_end-clause-prefix : goal.returns-in_err-write_end-clause-prefix
returns-in_err-write_end-clause-prefix g c =
    parts_begin _ _ _ _ _ _ _ (core_parts _ _ _ _ _ _ _ c.view-view.ensures.entries c.min-taken.ensures)
    (rw c.in_ok-out.ensures.bytes at c.in_ok-write_head.ensures) (_, c.in_ok-put_selected.ensures.whole)

pub returns-in_err-put_whole-clause-prefix : goal.returns-in_err-put_whole-clause-prefix
returns-in_err-put_whole-clause-prefix g c =
    parts_stop _ _ _ _ _ _ _ _ _ _ (core_parts _ _ _ _ _ _ _ c.view-view.ensures.entries c.min-taken.ensures)
    (rw c.in_ok-out.ensures.bytes at c.in_ok-write_head.ensures) c.in_ok-put_selected.ensures.whole
    (c.as_bytes.ensures.value ∙ (rw (c.in_ok-follower.ensures.state, c.in_ok-follower.ensures.origins) at c.in_ok-write_end.ensures))
    c.put_whole.ensures.prefix

pub returns-clause-whole : goal.returns-clause-whole
returns-clause-whole g c =
    parts_end _ _ _ _ _ _ _ _ _ _ (core_parts _ _ _ _ _ _ _ c.view-view.ensures.entries c.min-taken.ensures)
    (rw c.in_ok-out.ensures.bytes at c.in_ok-write_head.ensures) c.in_ok-put_selected.ensures.whole
    (c.as_bytes.ensures.value ∙ (rw (c.in_ok-follower.ensures.state, c.in_ok-follower.ensures.origins) at c.in_ok-write_end.ensures))
    c.in_ok-put_whole.ensures.whole

pub returns-clause-prefix : goal.returns-clause-prefix
returns-clause-prefix g c =
    parts_stop _ _ _ _ _ _ _ _ _ _ (core_parts _ _ _ _ _ _ _ c.view-view.ensures.entries c.min-taken.ensures)
    (rw c.in_ok-out.ensures.bytes at c.in_ok-write_head.ensures) c.in_ok-put_selected.ensures.whole
    (c.as_bytes.ensures.value ∙ (rw (c.in_ok-follower.ensures.state, c.in_ok-follower.ensures.origins) at c.in_ok-write_end.ensures))
    c.put_whole.ensures.prefix
