use Rattle.std.proofs.Common.{refl}
use Rattle.named_harts.proofs.StackLemmas.{counted_tells}
use Rattle.named_harts.proofs.named.Part.counted.Goals as goal

pub returns : goal.returns
returns c formula comparison number tells =
    counted_tells c.args.self.now _ formula comparison number refl refl tells
