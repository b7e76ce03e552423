-- The harts that items name, one item after another.
use Rattle.std.proofs.Common.{◌≡◌, ℕ, ◌+◌, ◌<◌, ◌≤◌, length, List, take, sym, ap, ◌∙◌}
use Rattle.std.specs.Prelude.{Bool, ◌||◌, slice_index_or}
use Rattle.std.specs.List.{list_any}
use Rattle.std.proofs.lemmas.List.{take_all}
use Rattle.std.proofs.lemmas.List.Folds.{list_any_more}
use Rattle.conditions.specs.declared.parts.Shown.{Shown}
use Rattle.named_harts.specs.NamedHarts.{has, IsSetOf}
use Rattle.named_items.specs.NamedItems.{item_names, items_name}

pub more_named : (list : List Shown) (i : ℕ) (d item : Shown) (old new : List Bool) → i < length list →
    item ≡ slice_index_or list i d → IsSetOf (λ hart. list_any (λ one. item_names one hart) (take i list)) old →
    IsSetOf (λ hart. has old hart || item_names item hart) new →
    IsSetOf (λ hart. list_any (λ one. item_names one hart) (take (i + 1) list)) new
more_named list i d item old new within is so more hart inside =
    more hart inside
    ∙ (ap (λ (b : Bool). b || item_names item hart) (so hart inside)
    ∙ (ap (λ (s : Shown). list_any (λ one. item_names one hart) (take i list) || item_names s hart) is
    ∙ sym (list_any_more (λ one. item_names one hart) list i d within)))

pub all_named : (list : List Shown) (i : ℕ) (set : List Bool) → length list ≤ i →
    IsSetOf (λ hart. list_any (λ one. item_names one hart) (take i list)) set → IsSetOf (items_name list) set
unfolding items_name
all_named list i set past so hart inside =
    so hart inside ∙ ap (λ (items : List Shown). list_any (λ one. item_names one hart) items) (take_all i list past)
