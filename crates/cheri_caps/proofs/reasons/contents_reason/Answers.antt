-- The lines on a word's bounds beside the source's.
use Rattle.std.proofs.Common.{◌≡◌, true, false, arith, rules}
use Rattle.std.specs.Prelude.{nat_lt}
use Rattle.std.proofs.lemmas.Bool.Decides.{nat_tests}
use Rattle.cap_model.specs.results.Readings.{base_of, top_of}
use Rattle.cap_model.specs.results.Reasons.{reasons}
use Rattle.cheri_caps.proofs.ReasonLemmas.{table_lines}
use Rattle.cheri_caps.proofs.reasons.contents_reason.Goals as goal

pub returns-then-base-least : goal.returns-then-base-least
unfolding reasons
returns-then-base-least c =
    let line : nat_lt (base_of c.args.w) (base_of c.args.v) ≡ true =
    grind (arith, nat_tests, c.requires.base, c.bounds-least.ensures.base, c.if-base-least.true) in
    search (rules, table_lines)

pub returns-then-limit-top : goal.returns-then-limit-top
unfolding reasons
returns-then-limit-top c =
    let above : nat_lt (base_of c.args.w) (base_of c.args.v) ≡ false =
    grind (arith, nat_tests, c.requires.base, c.bounds-least.ensures.base, c.if-base-least.false) in
    let line : nat_lt (top_of c.args.v) (top_of c.args.w) ≡ true =
    grind (arith, nat_tests, c.requires.top, c.bounds-least.ensures.top, c.if-limit-top.true) in
    search (rules, table_lines)

pub returns-then-top-from : goal.returns-then-top-from
unfolding reasons
returns-then-top-from c =
    let above : nat_lt (base_of c.args.w) (base_of c.args.v) ≡ false =
    grind (arith, nat_tests, c.requires.base, c.bounds-least.ensures.base, c.if-base-least.false) in
    let below : nat_lt (top_of c.args.v) (top_of c.args.w) ≡ false =
    grind (arith, nat_tests, c.requires.top, c.bounds-least.ensures.top, c.if-limit-top.false) in
    let line : nat_lt (top_of c.args.w) (base_of c.args.w) ≡ true =
    grind (arith, nat_tests, c.requires.base, c.requires.top, c.from.ensures, c.if-top-from.true) in
    search (rules, table_lines)
