use Rattle.std.proofs.Common.{◌≡◌, ◌≤◌, ◌∙◌, refl, sym, ap, length, drop, slice_index, length-drop, arith}
use Rattle.std.proofs.lemmas.Bool.Decides.{nat_tests}
use Rattle.asm_tokens.specs.Strings.{string_byte}
use Rattle.asm_tokens.proofs.StringLemmas.{ends_here, closed_here, bad_here, open_here, goes_on}
use Rattle.asm_tokens.proofs.strings.string_end.Goals as goal

pub returns-in-Quote-clause-value : goal.returns-in-Quote-clause-value
returns-in-Quote-clause-value c =
    let some : 1 ≤ length c.loop-rest.rest.now = grind (arith, nat_tests, c.is_empty.ensures, c.loop-rest-test.true) in
    let byte = sym c.in-Quote.is ∙ c.string_byte.ensures.value ∙ ap (string_byte (slice_index c.loop-rest.rest.now 0)) c.skipped-after.ensures in
    closed_here _ ∙ ends_here _ c.loop-rest.rest.now _ _ _ some byte refl c.loop-rest.invariant.end

pub returns-in-Newline-clause-value : goal.returns-in-Newline-clause-value
returns-in-Newline-clause-value c =
    let some : 1 ≤ length c.loop-rest.rest.now = grind (arith, nat_tests, c.is_empty.ensures, c.loop-rest-test.true) in
    let byte = sym c.in-Newline.is ∙ c.string_byte.ensures.value ∙ ap (string_byte (slice_index c.loop-rest.rest.now 0)) c.skipped-after.ensures in
    ends_here _ c.loop-rest.rest.now _ _ _ some byte refl c.loop-rest.invariant.end

pub returns-in-Bad-clause-value : goal.returns-in-Bad-clause-value
returns-in-Bad-clause-value c =
    let some : 1 ≤ length c.loop-rest.rest.now = grind (arith, nat_tests, c.is_empty.ensures, c.loop-rest-test.true) in
    let byte = sym c.in-Bad.is ∙ c.string_byte.ensures.value ∙ ap (string_byte (slice_index c.loop-rest.rest.now 0)) c.skipped-after.ensures in
    bad_here _ ∙ ends_here _ c.loop-rest.rest.now _ _ _ some byte refl c.loop-rest.invariant.end

pub loop-rest-preserved : goal.loop-rest-preserved
loop-rest-preserved c =
    let rest = c.loop-rest.rest.now in
    let skip = c.in-Inside.skip in
    let some : 1 ≤ length rest = grind (arith, nat_tests, c.is_empty.ensures, c.loop-rest-test.true) in
    let first = c.skipped-after.ensures in
    let byte = sym c.in-Inside.is ∙ c.string_byte.ensures.value ∙ ap (string_byte (slice_index rest 0)) first in
    let left = c.skipped-rest.ensures ∙ ap (drop skip) first in
    let within : skip ≤ length (drop 1 rest) = omega (arith, c.in-Inside.ensures.within, ap length first) in
    record {
      within = omega (arith, ap length left, length-drop skip (drop 1 rest), length-drop 1 rest, c.loop-rest.invariant.within);
      end = goes_on _ skip rest _ _ some c.loop-rest.invariant.within within left byte c.loop-rest.invariant.end;
    }

pub returns-clause-value : goal.returns-clause-value
returns-clause-value c =
    let none : length c.loop-rest.rest.now ≡ 0 = grind (arith, nat_tests, c.is_empty.ensures, c.loop-rest-test.false) in
    open_here _ c.loop-rest.rest.now _ none c.loop-rest.invariant.end
