use Rattle.std.proofs.Common.{◌≡◌, ℕ, ◌<◌, ◌≤◌, List, length, ap, ◌∙◌, subst, arith}
use Rattle.interner.specs.Rows.{IsInterned}
use Rattle.outcomes.specs.Items.{codes_of}
use Rattle.outcomes.specs.declared.items.ItemValue.{ItemValue}
use Rattle.outcomes.proofs.CodeLemmas.{codes_size}
use Rattle.sample_texts.proofs.SeeLemmas.{seen_put, seen_first}
use Rattle.sample_texts.proofs.table.see.Goals as goal

pub insert-requires : goal.insert-requires
insert-requires c =
    ap length c.as_slice-2.ensures.value
    ∙ (ap length c.in_ok-code.ensures
    ∙ (ap (λ (vs : List ItemValue). length (codes_of vs)) c.as_slice.ensures.value
    ∙ (codes_size c.args.row.values.items ∙ c.requires.width)))

pub returns-then-number-len-clause-numbered : goal.returns-then-number-len-clause-numbered
returns-then-number-len-clause-numbered c =
    let coded : c.as_slice-2.result.now ≡ codes_of c.args.row.values.items =
    c.as_slice-2.ensures.value ∙ (c.in_ok-code.ensures ∙ ap codes_of c.as_slice.ensures.value) in
    let interned = subst (λ (l : List ℕ). IsInterned c.args.codes.now c.insert.new.self l c.in_ok-found.found) coded
    c.in_ok-found.ensures.interned in
    let below : c.in_ok-found.found < length c.args.rows.now.items = omega (arith, c.if-number-len.true, c.len.ensures) in
    (seen_put c.args.codes.now c.insert.new.self c.args.rows.now.items c.args.row c.index_mut.result.now c.index.result.now
    c.in_ok-seen.seen c.in_ok-found.found c.requires.numbered c.len-count.ensures.distinct interned below c.index_mut.ensures.value
    c.index.ensures c.in_ok-seen.ensures).numbered

pub returns-then-number-len-clause-rows : goal.returns-then-number-len-clause-rows
returns-then-number-len-clause-rows c =
    let coded : c.as_slice-2.result.now ≡ codes_of c.args.row.values.items =
    c.as_slice-2.ensures.value ∙ (c.in_ok-code.ensures ∙ ap codes_of c.as_slice.ensures.value) in
    let interned = subst (λ (l : List ℕ). IsInterned c.args.codes.now c.insert.new.self l c.in_ok-found.found) coded
    c.in_ok-found.ensures.interned in
    let below : c.in_ok-found.found < length c.args.rows.now.items = omega (arith, c.if-number-len.true, c.len.ensures) in
    (seen_put c.args.codes.now c.insert.new.self c.args.rows.now.items c.args.row c.index_mut.result.now c.index.result.now
    c.in_ok-seen.seen c.in_ok-found.found c.requires.numbered c.len-count.ensures.distinct interned below c.index_mut.ensures.value
    c.index.ensures c.in_ok-seen.ensures).rows_are

pub returns-clause-numbered : goal.returns-clause-numbered
returns-clause-numbered c =
    let coded : c.as_slice-2.result.now ≡ codes_of c.args.row.values.items =
    c.as_slice-2.ensures.value ∙ (c.in_ok-code.ensures ∙ ap codes_of c.as_slice.ensures.value) in
    let interned = subst (λ (l : List ℕ). IsInterned c.args.codes.now c.insert.new.self l c.in_ok-found.found) coded
    c.in_ok-found.ensures.interned in
    let past : length c.args.rows.now.items ≤ c.in_ok-found.found = omega (arith, c.if-number-len.false, c.len.ensures) in
    (seen_first c.args.codes.now c.insert.new.self c.args.rows.now.items c.push.new.self.items c.args.row c.in_ok-found.found
    c.requires.numbered c.len-count.ensures.distinct interned past c.in_ok-push.ensures.items).numbered

pub returns-clause-rows : goal.returns-clause-rows
returns-clause-rows c =
    let coded : c.as_slice-2.result.now ≡ codes_of c.args.row.values.items =
    c.as_slice-2.ensures.value ∙ (c.in_ok-code.ensures ∙ ap codes_of c.as_slice.ensures.value) in
    let interned = subst (λ (l : List ℕ). IsInterned c.args.codes.now c.insert.new.self l c.in_ok-found.found) coded
    c.in_ok-found.ensures.interned in
    let past : length c.args.rows.now.items ≤ c.in_ok-found.found = omega (arith, c.if-number-len.false, c.len.ensures) in
    (seen_first c.args.codes.now c.insert.new.self c.args.rows.now.items c.push.new.self.items c.args.row c.in_ok-found.found
    c.requires.numbered c.len-count.ensures.distinct interned past c.in_ok-push.ensures.items).rows_are
