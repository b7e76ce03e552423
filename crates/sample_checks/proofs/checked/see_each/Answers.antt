use Rattle.std.proofs.Common.{◌≡◌, ◌<◌, List, length, get_or, sym, ap, ◌∙◌, arith}
use Rattle.std.specs.Prelude.{Option, None, slice_set}
use Rattle.std.proofs.lemmas.List.{map-id, get_or_default}
use Rattle.sample_tallies.specs.declared.seen.Seen.{Seen}
use Rattle.sample_tallies.specs.Tables.{either}
use Rattle.sample_checks.specs.Checks.{either_each}
use Rattle.sample_checks.proofs.DecidedLemmas.{seen_so_far, seen_more, seen_none, seen_all, seen_long}
use Rattle.sample_checks.proofs.checked.see_each.Goals as goal

pub loop-place-init : goal.loop-place-init
loop-place-init c = seen_none (λ (x : Option Seen). x) c.args.others.now c.args.decided.now

pub loop-place-preserved : goal.loop-place-preserved
loop-place-preserved c =
    let others = c.args.others.now in
    let old = c.args.decided.now in
    let now = c.loop-place.decided in
    let place = c.loop-place.place in
    let same : length old ≡ length others = sym c.requires in
    let so_far = seen_so_far (λ (x : Option Seen). x) others old place in
    let inside : place < length others = omega arith in
    let within : place < length so_far =
    omega (arith, seen_long (λ (x : Option Seen). x) others old place same, inside) in
    let more = get_or others place None in
    let was = get_or now place None in
    let before = ap (λ (d : List (Option Seen)). get_or d place None) c.loop-place.invariant
    ∙ get_or_default so_far place None was within in
    ap (slice_set now place) c.in_ok-decided.ensures
    ∙ ap (λ (d : List (Option Seen)). slice_set d place (either was more)) c.loop-place.invariant
    ∙ seen_more (λ (x : Option Seen). x) others old place more was same inside (get_or_default others place None more inside)
    before

pub returns : goal.returns
returns c = record {
  seen = c.loop-place.invariant
      ∙ seen_all (λ (x : Option Seen). x) c.args.others.now c.args.decided.now c.loop-place.place (omega (arith, c.requires))
      (omega (arith))
      ∙ ap (either_each c.args.decided.now) (map-id c.args.others.now);
}
