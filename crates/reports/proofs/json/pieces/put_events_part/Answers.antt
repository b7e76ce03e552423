use Rattle.std.proofs.Common.{refl}
use Rattle.reports.proofs.JsonParts.{head_begun, part_taken, part_begun}
use Rattle.reports.proofs.json.pieces.put_events_part.Goals as goal

pub returns-in_err-push_str-clause-prefix : goal.returns-in_err-push_str-clause-prefix
returns-in_err-push_str-clause-prefix g c = head_begun _ _

pub returns-clause-whole : goal.returns-clause-whole
returns-clause-whole g c = part_taken _ _ _ _ _ _ _ _ _ c.in_ok-push_str.ensures.bytes refl c.put_events.ensures.whole

pub returns-clause-prefix : goal.returns-clause-prefix
returns-clause-prefix g c = part_begun _ _ _ _ _ _ _ c.in_ok-push_str.ensures.bytes refl c.put_events.ensures.prefix
