use Rattle.std.proofs.Common.{map, List, ℕ, Bor}
use Rattle.sample_merges.proofs.MergeLemmas.{first_spans, merged_first}
use Rattle.sample_merges.proofs.merging.merge_lines.Goals as goal

pub merge_rest-requires-clause-first : goal.merge_rest-requires-clause-first
merge_rest-requires-clause-first c =
    let texts = map (λ (line : Bor (List ℕ)). line.now) c.args.lines.now in
    merged_first c.args.listing.now texts c.in_ok-first.first
    (first_spans c.args.listing.now texts c.in_ok-first.first c.in_ok-first.ensures.read) c.in_ok-first.ensures.read
