use Rattle.sample_merges.proofs.SpanLaws.{spans_unique}
use Rattle.sample_merges.proofs.laws.runs_have_one_list_of_spans.Goals as goal

pub returns : goal.returns
returns c one other a b same = spans_unique 0 0 one other a b same
