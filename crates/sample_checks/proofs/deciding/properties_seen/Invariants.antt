-- what is told of the properties so far
use Rattle.std.proofs.Common.{◌≡◌, map, take}
use Rattle.sample_checks.specs.Told.{tell_all, told_in, property_of}
use Rattle.sample_checks.proofs.deciding.properties_seen.Given as goal

abbrev pub invariant-loop-place : goal.invariant-loop-place
invariant-loop-place l = record {
  image : l.runner.image ≡ l.image;
  properties : map property_of l.all.items ≡ take l.place l.properties;
  told : map told_in l.all.items
      ≡ tell_all l.image l.drawing (take l.place l.properties) (take l.place l.decided);
}
