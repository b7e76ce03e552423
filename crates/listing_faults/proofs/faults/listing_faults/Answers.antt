use Rattle.std.proofs.Common.{◌≡◌, ◌∙◌, sym, ap, ℕ, ◌+◌, ◌-◌, suc, arith, List}
use Rattle.std.proofs.lemmas.List.{with_items_is}
use Rattle.std.specs.Borrow.{Bor}
use Rattle.grammar.specs.Tokens.{texts}
use Rattle.listings.specs.Meaning.{listing_meaning}
use Rattle.listing_faults.specs.Faults.{faults_of, line_fault}
use Rattle.listing_faults.specs.Lines.{text_of, without}
use Rattle.listing_faults.proofs.FaultLemmas.{ended, one_more, none_left}
use Rattle.listing_faults.proofs.faults.listing_faults.Goals as goal

pub returns-in_default : goal.returns-in_default
returns-in_default c =
    let below = c.loop-test.true in
    let some : 100 - c.loop.counter ≡ suc (100 - (c.loop.counter + 1)) = omega (arith, below) in
    let found = c.in_ok-fault.ensures ∙ ap (λ (ls : List (Bor (List ℕ))). line_fault (listing_meaning (text_of (texts ls)))) c.as_slice.ensures.value in
    ended c.loop.faults.items (faults_of c.args.text.now) (100 - c.loop.counter) _ c.loop.last (texts c.loop.lines.items) some
    (sym c.in_default.is ∙ found) c.loop.invariant

pub loop-preserved : goal.loop-preserved
loop-preserved c =
    let below = c.loop-test.true in
    let some : 100 - c.loop.counter ≡ suc (100 - (c.loop.counter + 1)) = omega (arith, below) in
    let found = c.in_ok-fault.ensures ∙ ap (λ (ls : List (Bor (List ℕ))). line_fault (listing_meaning (text_of (texts ls)))) c.as_slice.ensures.value in
    let same = with_items_is c.loop.lines c.leave_out.new.lines (c.leave_out.auto.lines ∙ c.as_mut_slice.ensures.len) in
    let taken = ap texts same ∙ (c.leave_out.ensures
    ∙ ap (λ (ls : List (Bor (List ℕ))). without c.loop.last c.in-Some.fault.line (texts ls)) c.as_mut_slice.ensures.value) in
    one_more c.loop.faults.items c.tell.new.faults.items (faults_of c.args.text.now) (100 - c.loop.counter) (100 - (c.loop.counter + 1)) c.loop.last
    (texts c.loop.lines.items) _ c.in-Some.fault some (sym c.in-Some.is ∙ found) c.in_ok-tell.ensures taken
    c.loop.invariant

pub returns : goal.returns
returns c =
    let past = c.loop-test.false in
    none_left c.loop.faults.items (faults_of c.args.text.now) (100 - c.loop.counter) c.loop.last (texts c.loop.lines.items) (omega (arith, past))
    c.loop.invariant
