use Rattle.std.proofs.Common.{◌≡◌, ◌<◌, [], ◌∷◌, length, arith, sym, ◌∙◌}
use Rattle.std.specs.Prelude.{slice_index}
use Rattle.std.proofs.lemmas.Bool.{eqb-true}
use Rattle.interner.specs.Slots.{link_in}
use Rattle.interner.proofs.WordLemmas.{word_linked, word_tagged, word_there}
use Rattle.interner.proofs.word_slots.is_named.Goals as goal

pub returns-then-tag_in-tag-clause-other : goal.returns-then-tag_in-tag-clause-other
returns-then-tag_in-tag-clause-other c _ same =
    let n = c.requires.named in
    c.if-tag_in-tag.true (c.tag_in.ensures
    ∙ word_tagged c.args.words.now (c.args.word ∷ []) c.args.slot n.0 n.2 n.3 same ∙ sym c.requires.tag)

pub number_in-requires : goal.number_in-requires
number_in-requires c =
    let n = c.requires.named in
    let link = word_linked c.args.words.now c.args.slot n.0 n.2 n.3 in
    omega arith

pub bounds-words-number_in : goal.bounds-words-number_in
bounds-words-number_in c =
    let n = c.requires.named in
    let link = word_linked c.args.words.now c.args.slot n.0 n.2 n.3 in
    let number = c.number_in.ensures in
    let below = n.1 in
    omega arith

pub returns-clause-same : goal.returns-clause-same
returns-clause-same c = λ found.
    let n = c.requires.named in
    let link = word_linked c.args.words.now c.args.slot n.0 n.2 n.3 in
    let number = c.number_in.ensures in
    let there = n.1 in
    let below : c.number_in.result < length c.args.words.now = omega arith in
    let same : slice_index c.args.words.now c.number_in.result ≡ c.args.word = eqb-true (slice_index c.args.words.now c.number_in.result) c.args.word found in
    word_there c.args.words.now (link_in c.args.slot) c.number_in.result c.args.word below number same
