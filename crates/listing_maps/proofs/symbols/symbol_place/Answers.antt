use Rattle.std.proofs.Common.{sym, ◌∙◌, ◌+◌}
use Rattle.std.proofs.lemmas.List.{take_rest}
use Rattle.listing_maps.proofs.SymbolLemmas.{another_place, one_place}
use Rattle.listing_maps.proofs.symbols.symbol_place.Goals as goal

pub returns-then-is_any_at : goal.returns-then-is_any_at
returns-then-is_any_at c =
    another_place c.args.name.now c.args.sources.now c.in_ok-first.first c.in_ok-first.ensures.is
    (rw (take_rest c.args.sources.now (c.in_ok-first.first + 1)) at (sym c.if-is_any_at.true ∙ c.is_any_at.ensures))

pub returns-else-is_any_at : goal.returns-else-is_any_at
returns-else-is_any_at c =
    one_place c.args.name.now c.args.sources.now c.in_ok-first.first c.in_ok-first.ensures.is
    (rw (take_rest c.args.sources.now (c.in_ok-first.first + 1)) at (sym c.if-is_any_at.false ∙ c.is_any_at.ensures))
