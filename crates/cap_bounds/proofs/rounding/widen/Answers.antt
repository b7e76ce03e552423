-- Both masks are 2^(e+3) - 1.
use Rattle.std.proofs.Common.{◌≡◌, ◌+◌, ◌-◌, ◌*◌, ◌%◌, ◌^◌, arith}
use Rattle.std.proofs.lemmas.Nat.{one_shl, pow_below}
use Rattle.cap_bounds.proofs.Masks.{masked_down}
use Rattle.cap_bounds.proofs.rounding.widen.Goals as goal

pub returns-clause-base : goal.returns-clause-base
returns-clause-base c =
    let bits = c.args.e + 3 in
    let mask : 1 * 2 ^ bits % 2 ^ 64 - 1 ≡ 2 ^ bits - 1 = omega (arith, one_shl bits 64 (omega arith)) in
    masked_down 64 bits _ c.args.base (omega arith) (omega arith) mask

pub returns-clause-top : goal.returns-clause-top
returns-clause-top c =
    let bits = c.args.e + 3 in
    let mask : c.from-3.result ≡ 2 ^ bits - 1 = omega (arith, one_shl bits 64 (omega arith)) in
    let sum : c.from.result + c.args.len + c.from-2.result ≡ c.args.base + c.args.len + (2 ^ bits - 1) = omega (arith, one_shl bits 64 (omega arith)) in
    rw sum (masked_down 128 bits c.from-3.result _ (omega arith) (omega (arith, pow_below bits 57 (omega arith))) mask)
