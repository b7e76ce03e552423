use Rattle.std.proofs.Common.{◌∙◌, sym, refl}
use Rattle.std.proofs.lemmas.Map.Text.{hash_map_updates_str}
use Rattle.grammar.specs.LabelMap.{named_in}
use Rattle.grammar.proofs.LabelLemmas.{put_in, none_where}
use Rattle.grammar.proofs.labels.define.Goals as goal

pub returns : goal.returns
returns c = λ q.
    hash_map_updates_str c.args.name.now c.args.labels.now c.insert.new.self _ c.in_ok-insert.ensures.updates q
    ∙ put_in (named_in c.args.labels.now) c.args.name.now q c.args.place _ refl (none_where _ (sym c.contains_key.ensures ∙ c.if-contains_key.false))
