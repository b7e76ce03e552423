use Rattle.std.proofs.Common.{◌≡◌, ◌+◌, ◌≤◌, ◌∙◌, true, List, length, take, map, refl, sym, ap, inr, length-drop, arith}
use Rattle.std.proofs.lemmas.List.{length-take}
use Rattle.std.proofs.lemmas.Bool.Decides.{nat_tests}
use Rattle.asm_tokens.specs.declared.place.Place.{Place}
use Rattle.asm_tokens.specs.declared.token.Token.{Token}
use Rattle.asm_tokens.specs.Places.{place_after}
use Rattle.asm_tokens.specs.Tokens.{with_front, tokens_from, tokens_of, token_parts}
use Rattle.asm_tokens.proofs.PlaceLemmas.{place_grows}
use Rattle.asm_tokens.proofs.TokenLemmas.{front_none, blank_passed, token_passed, bad_byte, tokens_end}
use Rattle.asm_tokens.proofs.tokens.read_tokens.Goals as goal

pub loop-rest-init : goal.loop-rest-init
unfolding tokens_of
loop-rest-init c =
    let begins = c.start.ensures in
    record {
      line = omega (arith, ap (λ (p : Place). p.line) begins);
      column = omega (arith, ap (λ (p : Place). p.column) begins);
      tokens = ap (λ (items : List Token). with_front (map token_parts items) (tokens_from 0 c.start.result true c.args.text.now)) c.new-tokens.ensures.items
          ∙ front_none _ ∙ ap (λ (p : Place). tokens_from 0 p true c.args.text.now) begins;
    }

pub loop-rest-preserved-in-Blank : goal.loop-rest-preserved-in-Blank
loop-rest-preserved-in-Blank c =
    let cursor = c.loop-rest.cursor in
    let rest = cursor.rest.now in
    let more = c.in-Blank.more in
    let some : 1 ≤ length rest = grind (arith, nat_tests, c.is_empty.ensures, c.loop-rest-test.true) in
    let within : more + 1 ≤ length rest = omega (arith, c.in-Blank.ensures.within) in
    let is = sym c.in-Blank.is ∙ c.lexeme_of.ensures.value in
    let grows = place_grows cursor.place (take (more + 1) rest) in
    let after = c.after-cursor.ensures in
    record {
      line = omega (arith, ap (λ (p : Place). p.line) after.place, grows.0, length-take (more + 1) rest, ap length after.rest, length-drop (more + 1) rest, c.loop-rest.invariant.line);
      column = omega (arith, ap (λ (p : Place). p.column) after.place, grows.1, length-take (more + 1) rest, ap length after.rest, length-drop (more + 1) rest, c.loop-rest.invariant.column);
      tokens = blank_passed _ cursor.place _ cursor.opens _ rest _ more _ within is after.place after.opens after.rest c.loop-rest.invariant.tokens;
    }

pub loop-rest-preserved : goal.loop-rest-preserved
loop-rest-preserved c =
    let cursor = c.loop-rest.cursor in
    let rest = cursor.rest.now in
    let more = c.in-Token.more in
    let some : 1 ≤ length rest = grind (arith, nat_tests, c.is_empty.ensures, c.loop-rest-test.true) in
    let within : more + 1 ≤ length rest = omega (arith, c.in-Token.ensures.within) in
    let is = sym c.in-Token.is ∙ c.lexeme_of.ensures.value in
    let grows = place_grows cursor.place (take (more + 1) rest) in
    let after = c.after-cursor-in-Token.ensures in
    record {
      line = omega (arith, ap (λ (p : Place). p.line) after.place, grows.0, length-take (more + 1) rest, ap length after.rest, length-drop (more + 1) rest, c.loop-rest.invariant.line);
      column = omega (arith, ap (λ (p : Place). p.column) after.place, grows.1, length-take (more + 1) rest, ap length after.rest, length-drop (more + 1) rest, c.loop-rest.invariant.column);
      tokens = token_passed _ _ _ _ cursor.opens _ rest _ more _ c.in_ok-push-in-Token.ensures.items within is c.taken-text.ensures after.place after.opens after.rest c.loop-rest.invariant.tokens;
    }

pub returns-in-Bad : goal.returns-in-Bad
returns-in-Bad c =
    let cursor = c.loop-rest.cursor in
    let some : 1 ≤ length cursor.rest.now = grind (arith, nat_tests, c.is_empty.ensures, c.loop-rest-test.true) in
    let is = sym c.in-Bad.is ∙ c.lexeme_of.ensures.value in
    let at = c.after-place.ensures ∙ ap (place_after cursor.place) c.taken-front.ensures in
    inr (bad_byte _ cursor.place _ cursor.opens cursor.rest.now c.in-Bad.more _ some is at c.loop-rest.invariant.tokens)

pub returns : goal.returns
returns c =
    let none : length c.loop-rest.cursor.rest.now ≡ 0 = grind (arith, nat_tests, c.is_empty.ensures, c.loop-rest-test.false) in
    tokens_end _ _ _ c.loop-rest.cursor.opens c.loop-rest.cursor.rest.now _ c.in_ok-push.ensures.items none refl c.loop-rest.invariant.tokens
