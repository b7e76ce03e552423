use Rattle.std.proofs.Common.{◌∙◌}
use Rattle.std.proofs.lemmas.List.{with_items_is}
use Rattle.shown_states.proofs.loaded.Loaded.load.Goals as goal

pub returns : goal.returns
returns c s is =
    let same = with_items_is c.self.inside.harts c.load_harts.new.harts (c.load_harts.auto.harts ∙ c.as_mut_slice.ensures.len) in
    let harts = same ∙ c.load_harts.ensures s is in
    let memory = c.load_ram.ensures s is in
    λ i. record { harts = harts i; memory = memory i }
