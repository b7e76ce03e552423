use Rattle.std.proofs.Common.{◌∙◌, ◌≤◌, length, sym, subst, map, List, ℕ, Bor, arith}
use Rattle.sample_slices.specs.declared.fault.SliceError.{SliceError}
use Rattle.sample_merges.specs.Merged.{FirstRefused}
use Rattle.sample_merges.proofs.MergeLemmas.{merged_all, merged_line, refused_after}
use Rattle.sample_merges.proofs.merging.merge_rest.Goals as goal

pub returns-in-Err-clause-refused : goal.returns-in-Err-clause-refused
returns-in-Err-clause-refused c =
    let texts = map (λ (line : Bor (List ℕ)). line.now) c.args.lines.now in
    subst (λ (e : SliceError). FirstRefused c.args.listing.now texts e) (sym c.at.ensures)
    (refused_after c.args.listing.now texts c.loop-place.place c.line_at.result.now c.loop-place.whole c.in-Err.refused c.line_at.ensures
    c.loop-place.invariant.merged c.in-Err.ensures.added)

pub loop-place-preserved : goal.loop-place-preserved
loop-place-preserved c =
    let texts = map (λ (line : Bor (List ℕ)). line.now) c.args.lines.now in
    let inv = c.loop-place.invariant in
    record {
      merged = merged_line c.args.listing.now texts c.loop-place.place c.line_at.result.now c.loop-place.whole c.in-Ok.both c.line_at.ensures
          inv.merged c.in-Ok.ensures.added;
      fits = c.in-Ok.ensures.fits;
      harts = c.in-Ok.ensures.blank_harts ∙ (inv.fits.harts ∙ sym c.in-Ok.ensures.fits.harts);
      granules = c.in-Ok.ensures.blank_granules ∙ (inv.fits.granules ∙ sym c.in-Ok.ensures.fits.granules);
    }

pub returns-clause-merged : goal.returns-clause-merged
returns-clause-merged c =
    let past : length c.args.lines.now ≤ c.loop-place.place = omega (arith, c.loop-place-test.false) in
    merged_all c.args.listing.now c.args.lines.now c.loop-place.place c.loop-place.whole past c.loop-place.invariant.merged
