use Rattle.std.proofs.Common.{◌≡◌, ◌≤◌, ◌++◌, ◌∙◌, sym, ap, length, drop, slice_index, arith}
use Rattle.std.proofs.lemmas.Bool.Decides.{nat_tests}
use Rattle.asm_tokens.specs.Strings.{meant_byte, string_bytes, string_of}
use Rattle.asm_tokens.proofs.StringLemmas.{byte_more, bytes_end, bytes_stop}
use Rattle.asm_tokens.proofs.strings.push_string.Goals as goal

pub loop-rest-init : goal.loop-rest-init
unfolding string_of
loop-rest-init c = ap (λ l. c.args.out.now.items ++ string_bytes 0 l) c.between_quotes-rest.ensures

pub loop-rest-preserved : goal.loop-rest-preserved
loop-rest-preserved c =
    let rest = c.loop-rest.rest.now in
    let escape = c.in-Some.escape in
    let some : 1 ≤ length rest = grind (arith, nat_tests, c.is_empty.ensures, c.loop-rest-test.true) in
    let first = c.skipped-after.ensures in
    let byte = sym c.in-Some.is ∙ c.meant_byte.ensures.value ∙ ap (meant_byte (slice_index rest 0)) first in
    let within : escape.length ≤ length (drop 1 rest) = omega (arith, c.in-Some.ensures.within, ap length first) in
    byte_more _ _ escape rest _ _ some within (c.skipped-rest.ensures ∙ ap (drop escape.length) first) byte c.in_ok-push-in-Some.ensures.items c.loop-rest.invariant

pub returns-in-None : goal.returns-in-None
returns-in-None c =
    let rest = c.loop-rest.rest.now in
    let some : 1 ≤ length rest = grind (arith, nat_tests, c.is_empty.ensures, c.loop-rest-test.true) in
    let byte = sym c.in-None.is ∙ c.meant_byte.ensures.value ∙ ap (meant_byte (slice_index rest 0)) c.skipped-after.ensures in
    bytes_stop _ rest _ some byte c.loop-rest.invariant

pub returns : goal.returns
returns c =
    let none : length c.loop-rest.rest.now ≡ 0 = grind (arith, nat_tests, c.is_empty.ensures, c.loop-rest-test.false) in
    bytes_end _ c.loop-rest.rest.now _ none c.loop-rest.invariant
