use Rattle.std.proofs.Common.{◌∙◌, sym, refl}
use Rattle.std.proofs.lemmas.Map.Text.{hash_map_updates_str}
use Rattle.asm_symbols.specs.Names.{names_of, defined}
use Rattle.asm_symbols.proofs.NameLemmas.{put_in, kept_in, none_where}
use Rattle.asm_symbols.proofs.names.Names.define.Goals as goal

pub returns-then-contains_key-clause-names : goal.returns-then-contains_key-clause-names
unfolding names_of defined
returns-then-contains_key-clause-names c = λ i q.
    kept_in (names_of c.args.self.now) c.args.name.now q c.args.number _ refl (sym c.contains_key.ensures ∙ c.if-contains_key.true) i

pub returns-clause-names : goal.returns-clause-names
unfolding names_of defined
returns-clause-names c = λ i q.
    (hash_map_updates_str c.args.name.now c.args.self.now.numbers c.insert.new.self _ c.in_ok-insert.ensures.updates q
    ∙ put_in (names_of c.args.self.now) c.args.name.now q c.args.number _ refl (none_where _ (sym c.contains_key.ensures ∙ c.if-contains_key.false))) i
