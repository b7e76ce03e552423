use Rattle.explore_line.specs.Samples.{merge_asked_by, sample_asked_by}
use Rattle.explore_program.specs.Merges.{IsMerged}
use Rattle.explore_program.specs.Samples.{IsSampled}
use Rattle.explore_program.proofs.SampleLemmas.{put_fails, put_whole}
use Rattle.explore_program.proofs.program.answer_request.Goals as goal

pub returns-in-Sample-clause-printed : goal.returns-in-Sample-clause-printed
returns-in-Sample-clause-printed g c =
    rw c.in-Sample.is
    (put_whole (IsSampled (g.F.Files.bytes_of c.args.files.now) (sample_asked_by c.in-Sample.request)) c.sample-made.result c.put_made.result
    _ _ c.sample-made.ensures c.put_made.ensures.put)

pub returns-in-Sample-clause-failed : goal.returns-in-Sample-clause-failed
returns-in-Sample-clause-failed g c =
    rw c.in-Sample.is
    (put_fails (IsSampled (g.F.Files.bytes_of c.args.files.now) (sample_asked_by c.in-Sample.request)) c.sample-made.result c.put_made.result
    _ _ c.sample-made.ensures c.put_made.ensures.put)

pub returns-in-Merge-clause-printed : goal.returns-in-Merge-clause-printed
returns-in-Merge-clause-printed g c =
    rw c.in-Merge.is
    (put_whole (IsMerged (g.F.Files.bytes_of c.args.files.now) (merge_asked_by c.in-Merge.request)) c.merge-made.result c.put_made-in-Merge.result
    _ _ c.merge-made.ensures c.put_made-in-Merge.ensures.put)

pub returns-in-Merge-clause-failed : goal.returns-in-Merge-clause-failed
returns-in-Merge-clause-failed g c =
    rw c.in-Merge.is
    (put_fails (IsMerged (g.F.Files.bytes_of c.args.files.now) (merge_asked_by c.in-Merge.request)) c.merge-made.result c.put_made-in-Merge.result
    _ _ c.merge-made.ensures c.put_made-in-Merge.ensures.put)

pub returns-in-Search-clause-failed : goal.returns-in-Search-clause-failed
returns-in-Search-clause-failed g c = rw c.in-Search.is c.answer_search.ensures.failed
