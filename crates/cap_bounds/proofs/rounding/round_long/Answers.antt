-- In either branch the exponent of the widened range is the rounding's, so its ends are the rounding's too.
use Rattle.std.proofs.Common.{◌≡◌, ◌+◌, ◌-◌, ◌^◌, ◌<◌, ◌≤◌, ◌∙◌, arith}
use Rattle.std.proofs.lemmas.Nat.{one_shl}
use Rattle.cap_model.specs.bounds.Numbers.{round_down, round_up}
use Rattle.cap_bounds.proofs.RoundedParts.{tight_exponent, next_exponent, widened_base, widened_top}
use Rattle.cap_bounds.proofs.rounding.round_long.Goals as goal

pub returns-then-tight-from : goal.returns-then-tight-from
returns-then-tight-from c =
    let tight = c.widen-tight.result in
    let same_e = c.widen-tight.ensures.e in
    let low : tight.base ≡ round_down (2 ^ (tight.e + 3)) c.args.base = rw same_e c.widen-tight.ensures.base in
    let high : tight.top ≡ round_up (2 ^ (tight.e + 3)) (c.args.base + c.args.len) = rw same_e c.widen-tight.ensures.top in
    let fits : tight.top - tight.base < 2 ^ (tight.e + 13) = omega (arith, one_shl (tight.e + 13) 128 (omega arith)) in
    let found = tight_exponent _ _ tight.e tight.base tight.top c.requires.long c.requires.length (same_e ∙ c.exponent_of.ensures.value) low high fits in
    record {
      e = found;
      base = widened_base _ _ tight.e tight.base c.requires.long found low;
      top = widened_top _ _ tight.e tight.top c.requires.long found high;
    }

pub returns-else-tight-from : goal.returns-else-tight-from
returns-else-tight-from c =
    let tight = c.widen-tight.result in
    let same_e = c.widen-tight.ensures.e in
    let low : tight.base ≡ round_down (2 ^ (tight.e + 3)) c.args.base = rw same_e c.widen-tight.ensures.base in
    let high : tight.top ≡ round_up (2 ^ (tight.e + 3)) (c.args.base + c.args.len) = rw same_e c.widen-tight.ensures.top in
    let too_long : 2 ^ (tight.e + 13) ≤ tight.top - tight.base = omega (arith, one_shl (tight.e + 13) 128 (omega arith)) in
    let found = next_exponent _ _ tight.e tight.base tight.top c.requires.long c.requires.length (same_e ∙ c.exponent_of.ensures.value) low high too_long in
    record {
      e = c.widen.ensures.e ∙ found;
      base = widened_base _ _ (tight.e + 1) c.widen.result.base c.requires.long found c.widen.ensures.base;
      top = widened_top _ _ (tight.e + 1) c.widen.result.top c.requires.long found c.widen.ensures.top;
    }
