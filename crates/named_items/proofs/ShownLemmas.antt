-- What items show of states whose harts stand in another order.
use Rattle.std.proofs.Common.{◌≡◌, ℕ, List, get_or, refl, ap, ◌∙◌}
use Rattle.std.specs.Prelude.{Bool, ◌==◌, All}
use Rattle.std.proofs.lemmas.Bool.{eq-eqb}
use Rattle.std.proofs.lemmas.List.Folds.{list_any_at}
use Rattle.asked_registers.specs.Asked.{ShowsSame}
use Rattle.cap_model.specs.values.CapValue.{CapValue}
use Rattle.cheri_model.specs.runs.Machine.{MachineState, hart_at}
use Rattle.cheri_model.specs.steps.Hart.{HartState, register}
use Rattle.cheri_model.specs.steps.Memory.{bytes_of, load_capability, load_data}
use Rattle.conditions.specs.declared.parts.Holder.{Holder}
use Rattle.conditions.specs.declared.parts.Holder.TheVariants as holder
use Rattle.conditions.specs.declared.parts.Place.TheVariants as place
use Rattle.conditions.specs.declared.parts.Shown.{Shown}
use Rattle.conditions.specs.declared.parts.Shown.TheVariants as shown
use Rattle.conditions.specs.Values.{field_value, number_at, value_in}
use Rattle.hart_symmetry.specs.Named.{NamedStay, holder_names}
use Rattle.hart_symmetry.specs.Renaming.{IsRenamed, IsRenaming}
use Rattle.named_items.specs.NamedItems.{item_names, items_name}

module _ (stays : ℕ → Bool) (p : ℕ → ℕ) (s t : MachineState) (r : IsRenamed stays p s t) where
  hart_same : (i : ℕ) → NamedStay stays (λ hart. hart == i) → hart_at t i ≡ hart_at s i
  hart_same i named = r.harts i ∙ ap (hart_at s) (r.staying i (named i (eq-eqb i i refl)))

  value_same : (held : Holder) → NamedStay stays (holder_names held) → value_in held t ≡ value_in held s
  unfolding value_in holder_names
  value_same (holder.Register hart reg) named = ap (λ (h : HartState). register h reg) (hart_same hart named)
  value_same (holder.Pcc hart) named = ap (λ (h : HartState). h.pcc) (hart_same hart named)
  value_same (holder.Granule addr) named = ap (λ (m : List CapValue). load_capability m addr) r.memory

  shows_same : (item : Shown) → NamedStay stays (item_names item) → ShowsSame t s item
  unfolding ShowsSame item_names number_at
  shows_same (shown.Number (place.Value held read)) named = ap (field_value read) (value_same held named)
  shows_same (shown.Number (place.Data addr width)) named = ap (λ (m : List CapValue). load_data m addr (bytes_of width)) r.memory
  shows_same (shown.Status hart) named = ap (λ (h : HartState). h.status) (hart_same hart named)

pub items_same : (stays : ℕ → Bool) (items : List Shown) → NamedStay stays (items_name items) → (one other : MachineState) →
    IsRenaming stays one other → All (ShowsSame other one) items
unfolding items_name
items_same stays items named one other r number default inside =
    let item = get_or items number default in
    shows_same stays r.0 one other r.1 item
    (λ hart names. named hart (list_any_at (λ other. item_names other hart) items number default inside names))
