-- The harts that properties name, one property after another.
use Rattle.std.proofs.Common.{◌≡◌, ℕ, ◌+◌, ◌<◌, ◌≤◌, length, List, take, sym, ap, ◌∙◌}
use Rattle.std.specs.Prelude.{Bool, ◌||◌, slice_index_or}
use Rattle.std.specs.List.{list_any}
use Rattle.std.proofs.lemmas.List.{take_all}
use Rattle.std.proofs.lemmas.List.Folds.{list_any_at, list_any_more}
use Rattle.explore_properties.specs.Properties.{PropertyParts}
use Rattle.hart_symmetry.specs.Named.{NamedStay}
use Rattle.named_harts.specs.NamedHarts.{has, IsSetOf}
use Rattle.forgotten_checks.specs.Asked.{claim_names, properties_name}

abbrev names : PropertyParts → ℕ → Bool
names property hart = claim_names property.claim hart

pub more_named : (list : List PropertyParts) (i : ℕ) (d item : PropertyParts) (old new : List Bool) → i < length list →
    item ≡ slice_index_or list i d → IsSetOf (λ hart. list_any (λ property. names property hart) (take i list)) old →
    IsSetOf (λ hart. has old hart || names item hart) new →
    IsSetOf (λ hart. list_any (λ property. names property hart) (take (i + 1) list)) new
more_named list i d item old new within is so more hart inside =
    more hart inside
    ∙ (ap (λ (b : Bool). b || names item hart) (so hart inside)
    ∙ (ap (λ (p : PropertyParts). list_any (λ property. names property hart) (take i list) || names p hart) is
    ∙ sym (list_any_more (λ property. names property hart) list i d within)))

pub all_named : (list : List PropertyParts) (i : ℕ) (set : List Bool) → length list ≤ i →
    IsSetOf (λ hart. list_any (λ property. names property hart) (take i list)) set → IsSetOf (properties_name list) set
unfolding properties_name
all_named list i set past so hart inside =
    so hart inside ∙ ap (λ (ps : List PropertyParts). list_any (λ property. names property hart) ps) (take_all i list past)

-- of a property of the list
pub claim_named : (stays : ℕ → Bool) (list : List PropertyParts) (i : ℕ) (d : PropertyParts) →
    NamedStay stays (properties_name list) → i < length list → NamedStay stays (claim_names (slice_index_or list i d).claim)
unfolding properties_name
claim_named stays list i d named within hart names_it =
    named hart (list_any_at (λ property. claim_names property.claim hart) list i d within names_it)
