-- none so far is violated
use Rattle.std.proofs.Common.{◌≡◌, drop}
use Rattle.sample_texts.specs.PropertyTexts.{sample_ending}
use Rattle.sample_texts.proofs.properties.sample_ending.Given as goal

abbrev pub invariant-loop-told : goal.invariant-loop-told
invariant-loop-told l = sample_ending (drop l.told-index l.properties) ≡ sample_ending l.properties
