use Rattle.std.proofs.Common.{◌≡◌, length, map, take}
use Rattle.sample_slices.specs.Slices.{Fits}
use Rattle.sample_merges.specs.Merged.{AreMerged}
use Rattle.sample_merges.proofs.merging.merge_rest.Given as goal

-- the lines so far are good, and this is their sum
abbrev pub invariant-loop-place : goal.invariant-loop-place
invariant-loop-place l = record {
  merged : AreMerged l.listing (take l.place (map (λ line. line.now) l.lines)) l.whole;
  fits : Fits l.listing l.whole;
  harts : length l.blank.harts ≡ l.whole.harts;
  granules : length l.blank.memory ≡ l.whole.granules;
}
