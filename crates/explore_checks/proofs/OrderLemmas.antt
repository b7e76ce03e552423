-- The orders that violate properties, one by one.
use Rattle.std.proofs.Common.{◌≡◌, ℕ, ◌+◌, ◌<◌, ◌≤◌, List, [], ◌∷◌, ◌++◌, length, drop, refl, sym, ap, ◌∙◌, add-one, drop-cons, append_assoc, append-nil}
use Rattle.std.specs.Prelude.{slice_index_or, Vec}
use Rattle.std.specs.Global.{Global}
use Rattle.std.proofs.Math.ListN.{drop_of_length-le}
use Rattle.cheri_model.specs.declared.operation.Op.{Op}
use Rattle.explore_checks.specs.Checks.{order_against, orders_against}
use Rattle.explore_verdicts.specs.declared.verdict.PropertyVerdict.{PropertyVerdict}
use Rattle.order_texts.specs.OrderTexts.{orders_of}

orders_append : (before after : List (Vec Op Global)) → orders_of (before ++ after) ≡ orders_of before ++ orders_of after
orders_append [] after = refl
orders_append (order ∷ before) after = ap (λ os. order.items ∷ os) (orders_append before after)

pub pushed_order : (before after : List (Vec Op Global)) (order : Vec Op Global) → after ≡ before ++ order ∷ [] →
    orders_of after ≡ orders_of before ++ order.items ∷ []
pushed_order before after order is = ap orders_of is ∙ orders_append before (order ∷ [])

pub no_order : (orders : List (List Op)) → orders ≡ orders ++ []
no_order orders = sym (append-nil orders)

module _ (list : List PropertyVerdict) (i : ℕ) (d : PropertyVerdict) (within : i < length list) where
  left : drop i list ≡ slice_index_or list i d ∷ drop (i + 1) list
  left = rw add-one (drop-cons list i d within)

  -- those that are left are the next one's and the others'
  next : orders_against (drop i list) ≡ order_against (slice_index_or list i d).verdict ++ orders_against (drop (i + 1) list)
  unfolding orders_against
  next = ap orders_against left

  pub order_step : (old new all : List (List Op)) → new ≡ old ++ order_against (slice_index_or list i d).verdict →
      old ++ orders_against (drop i list) ≡ all → new ++ orders_against (drop (i + 1) list) ≡ all
  order_step old new all is so =
      ap (λ os. os ++ orders_against (drop (i + 1) list)) is
      ∙ append_assoc old (order_against (slice_index_or list i d).verdict) (orders_against (drop (i + 1) list))
      ∙ ap (λ os. old ++ os) (sym next) ∙ so

pub order_end : (list : List PropertyVerdict) (i : ℕ) (orders all : List (List Op)) → length list ≤ i →
    orders ++ orders_against (drop i list) ≡ all → orders ≡ all
unfolding orders_against
order_end list i orders all past so =
    sym (append-nil orders) ∙ ap (λ vs. orders ++ orders_against vs) (sym (drop_of_length-le list past)) ∙ so
