use Rattle.std.proofs.Common.{refl}
use Rattle.std.proofs.lemmas.Map.Text.{hash_map_updates_str}
use Rattle.asm_symbols.specs.Names.{names_of, replaced}
use Rattle.asm_symbols.proofs.names.Names.put.Goals as goal

pub returns : goal.returns
unfolding names_of replaced
returns c = λ i q.
    hash_map_updates_str c.args.name.now c.args.self.now.numbers c.insert.new.self _ c.in_ok-insert.ensures.updates q i
