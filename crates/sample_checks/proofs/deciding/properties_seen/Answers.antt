use Rattle.std.proofs.Common.{◌≡◌, ◌<◌, map, length, get_or, refl, ap, ◌∙◌, arith}
use Rattle.std.specs.Prelude.{None}
use Rattle.std.proofs.lemmas.List.{get_or_default}
use Rattle.cheri_model.specs.runs.Image.{ImageParts}
use Rattle.sample_checks.specs.Told.{told_of, told_in, property_of, parts_of}
use Rattle.sample_checks.proofs.DecidedLemmas.{tell_none, tell_more, shown_more, told_more}
use Rattle.sample_checks.proofs.deciding.properties_seen.Goals as goal

pub loop-place-init : goal.loop-place-init
loop-place-init c =
    let a = c.args in
    record {
      image = c.in_ok-runner.ensures;
      properties = ap (map property_of) c.new-all.ensures.items;
      told = ap (map told_in) c.new-all.ensures.items
          ∙ tell_none a.image.now a.drawing.now a.properties.now a.decided.now;
    }

pub loop-place-preserved : goal.loop-place-preserved
loop-place-preserved c =
    let image = c.args.image.now in
    let drawing = c.args.drawing.now in
    let properties = c.args.properties.now in
    let decided = c.args.decided.now in
    let place = c.loop-place.place in
    let all = c.loop-place.all.items in
    let property = c.index-properties-place.result in
    let seen = get_or decided place None in
    let inv = c.loop-place.invariant in
    let here : place < length properties = omega arith in
    let there : place < length decided = omega (arith, c.requires.as_many, here) in
    let is : parts_of c.in_ok-decided.decided ≡ told_of image drawing property seen = c.in_ok-decided.ensures.told
    ∙ ap (λ (i : ImageParts). told_of i drawing property seen) inv.image in
    record {
      image = c.told.ensures.image ∙ inv.image;
      properties = shown_more all c.push.new.self.items _ properties place property c.in_ok-push.ensures.items refl here
          c.index-properties-place.is inv.properties;
      told = told_more all c.push.new.self.items _ (told_of image drawing property seen) _ _ c.in_ok-push.ensures.items is
          inv.told (tell_more image drawing properties decided place property seen here there c.index-properties-place.is
          (get_or_default decided place None seen there));
    }
