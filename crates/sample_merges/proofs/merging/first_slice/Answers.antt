use Rattle.std.proofs.Common.{◌≡◌, ◌∷◌, ◌∙◌, ap, sym, subst, map, rules, List, ℕ, Bor}
use Rattle.sample_slices.specs.declared.fault.SliceError.{SliceError}
use Rattle.sample_merges.specs.Merged.{FirstRefused}
use Rattle.sample_merges.specs.Steps.{refused_at, refused_line}
use Rattle.sample_merges.proofs.MergeLemmas.{refused_first}
use Rattle.sample_merges.proofs.merging.first_slice.Goals as goal

pub returns-in-Err-clause-read : goal.returns-in-Err-clause-read
returns-in-Err-clause-read c =
    let texts = map (λ (line : Bor (List ℕ)). line.now) c.args.lines.now in
    let parts : c.args.lines.now ≡ c.in-Some.line.now ∷ c.in-Some.field-0-1.now = search rules in
    let gives : c.from.result ≡ refused_line c.in-Err.fault = search rules in
    subst (λ (e : SliceError). FirstRefused c.args.listing.now texts e) (sym (c.at.ensures ∙ ap (refused_at 1) gives))
    (refused_first c.args.listing.now texts (map (λ (line : Bor (List ℕ)). line.now) c.in-Some.field-0-1.now) c.in-Some.line.now.now
    c.in-Err.fault (ap (map (λ (line : Bor (List ℕ)). line.now)) parts) c.in-Err.ensures.read)
