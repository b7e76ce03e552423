use Rattle.std.proofs.Common.{◌≡◌, ◌<◌, ℕ, List, length, get_or, refl, ap, ◌∙◌, arith}
use Rattle.std.specs.Prelude.{Option, None, slice_set}
use Rattle.std.proofs.lemmas.List.{get_or_default}
use Rattle.cheri_model.specs.runs.Image.{ImageParts}
use Rattle.explore_properties.specs.declared.claims.Claim.{Claim}
use Rattle.sample_tallies.specs.declared.seen.Seen.{Seen}
use Rattle.sample_tallies.specs.Tables.{either}
use Rattle.sample_checks.specs.Deciding.{decided_after}
use Rattle.sample_checks.specs.Checks.{seen_if}
use Rattle.sample_checks.proofs.DecidedLemmas.{says, seen_so_far, seen_more, seen_none, seen_long}
use Rattle.sample_checks.proofs.counting.see_run.Goals as goal

pub loop-place-init : goal.loop-place-init
loop-place-init c = record {
  image = refl;
  decided = seen_none (says c.args.machine.now.image c.args.order.now c.args.run) c.args.properties.now c.args.decided.now;
}

pub loop-place-preserved : goal.loop-place-preserved
loop-place-preserved c =
    let image = c.args.machine.now.image in
    let order = c.args.order.now in
    let run = c.args.run in
    let properties = c.args.properties.now in
    let old = c.args.decided.now in
    let now = c.loop-place.decided in
    let place = c.loop-place.place in
    let property = c.index-properties-place.result in
    let f = says image order run in
    let so_far = seen_so_far f properties old place in
    let inside : place < length properties = omega arith in
    let within : place < length so_far =
    omega (arith, seen_long f properties old place c.requires.as_many, inside) in
    let was = get_or now place None in
    let before = ap (λ (d : List (Option Seen)). get_or d place None) c.loop-place.invariant.decided
    ∙ get_or_default so_far place None was within in
    let is : c.seen_if.result ≡ f property = c.seen_if.ensures
    ∙ ap (λ (a : Option ℕ). seen_if a run)
    (c.in_ok-after.ensures.value
    ∙ ap (λ (i : ImageParts). decided_after i c.claim.result.now order) c.loop-place.invariant.image
    ∙ ap (λ (k : Claim). decided_after image k order) c.claim.ensures) in
    record {
      image = c.decided_after.ensures.image ∙ c.loop-place.invariant.image;
      decided = ap (slice_set now place) (c.in_ok-decided.ensures ∙ ap (either was) is)
          ∙ ap (λ (d : List (Option Seen)). slice_set d place (either was (f property))) c.loop-place.invariant.decided
          ∙ seen_more f properties old place property was c.requires.as_many inside c.index-properties-place.is before;
    }
