use Rattle.std.proofs.Common.{◌<◌, ℕ, length, ap, sym, ◌∙◌, subst, List}
use Rattle.std.specs.Prelude.{Option, Some, slice_get}
use Rattle.std.proofs.lemmas.Option.{none-some}
use Rattle.cheri_model.specs.declared.image.HartImage.{HartImage}
use Rattle.states.proofs.SizeLemmas.{sizes_of}
use Rattle.owned_search.proofs.graph.OwnedGraph.new.Goals as goal

pub bounds-harts-0 : goal.bounds-harts-0
bounds-harts-0 c =
    subst (λ (l : List HartImage). 0 < length l) (sym c.harts.ensures)
    (sizes_of c.image-image.result.now c.granules-granules.ensures.formed).harts_some

pub invariant_of-result : goal.invariant_of-result
invariant_of-result c = record {
  numbers = λ id after at.
      absurd (none-some (Some after) (sym (ap (λ (l : List (Option ℕ)). slice_get l id) c.new.ensures.items) ∙ at));
}
