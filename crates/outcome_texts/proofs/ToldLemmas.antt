-- Outcomes and rows with their orders, one more at a time.
use Rattle.std.proofs.Common.{◌≡◌, ℕ, zero, suc, ◌+◌, ◌<◌, List, [], ◌∷◌, ◌++◌, length, take, arith, refl, subst, sym}
use Rattle.std.proofs.lemmas.List.{take_more}
use Rattle.std.specs.Prelude.{Some, slice_get, slice_index_or}
use Rattle.conditions.specs.declared.parts.Shown.{Shown}
use Rattle.outcomes.specs.declared.rows.Row.{Row}
use Rattle.outcome_texts.specs.declared.told.Outcome.{Outcome}
use Rattle.outcome_texts.specs.declared.told.ShownRow.{ShownRow}
use Rattle.outcome_texts.specs.Told.{AreBelow, AreRowsBelow, AreOutcomesBelow, AreOutcomesTold, AreRowsTold, IsOutcomeTold, IsRowTold}
use Rattle.states.specs.Kept.{KeptParts}

-- one of the list is below
pub below_at : (end : ℕ) (xs : List ℕ) (i d : ℕ) → AreBelow end xs → i < length xs → slice_index_or xs i d < end
below_at end [] i d below within = omega arith
below_at end (x ∷ xs) zero d below within = below.0
below_at end (x ∷ xs) (suc i) d below within = below_at end xs i d below.1 (omega arith)

pub row_below_at : (end : ℕ) (rs : List Row) (i : ℕ) (d : Row) → AreRowsBelow end rs → i < length rs
    → (slice_index_or rs i d).first < end
row_below_at end [] i d below within = omega arith
row_below_at end (r ∷ rs) zero d below within = below.0
row_below_at end (r ∷ rs) (suc i) d below within = row_below_at end rs i d below.1 (omega arith)

pub outcome_below_at : (end : ℕ) (ts : List Outcome) (i : ℕ) (d : Outcome) → AreOutcomesBelow end ts → i < length ts
    → (slice_index_or ts i d).state < end
outcome_below_at end [] i d below within = omega arith
outcome_below_at end (t ∷ ts) zero d below within = below.0
outcome_below_at end (t ∷ ts) (suc i) d below within = outcome_below_at end ts i d below.1 (omega arith)

-- all are below where each is
pub all_below : (end : ℕ) (xs : List ℕ) → ((k n : ℕ) → slice_get xs k ≡ Some n → n < end) → AreBelow end xs
all_below end [] each = tt
all_below end (x ∷ xs) each = (each 0 x refl, all_below end xs (λ k n at. each (suc k) n at))

pub all_rows_below : (end : ℕ) (rs : List Row) → ((k : ℕ) (r : Row) → slice_get rs k ≡ Some r → r.first < end) → AreRowsBelow end rs
all_rows_below end [] each = tt
all_rows_below end (x ∷ rs) each = (each 0 x refl, all_rows_below end rs (λ k r at. each (suc k) r at))

pub told_below : (kept : KeptParts) (end : ℕ) (ns : List ℕ) (ts : List Outcome) → AreBelow end ns → AreOutcomesTold kept ns ts
    → AreOutcomesBelow end ts
told_below kept end [] [] below told = tt
told_below kept end [] (t ∷ ts) below told = absurd told
told_below kept end (n ∷ ns) [] below told = absurd told
told_below kept end (n ∷ ns) (t ∷ ts) below told =
    (subst (λ (m : ℕ). m < end) (sym told.0.state) below.0, told_below kept end ns ts below.1 told.1)

-- one more was told
pub outcome_more : (kept : KeptParts) (ns : List ℕ) (ts : List Outcome) (n : ℕ) (t : Outcome)
    → AreOutcomesTold kept ns ts → IsOutcomeTold kept n t → AreOutcomesTold kept (ns ++ n ∷ []) (ts ++ t ∷ [])
outcome_more kept [] [] n t are is = (is, tt)
outcome_more kept [] (y ∷ ts) n t are is = absurd are
outcome_more kept (x ∷ ns) [] n t are is = absurd are
outcome_more kept (x ∷ ns) (y ∷ ts) n t are is = (are.0, outcome_more kept ns ts n t are.1 is)

pub row_more : (kept : KeptParts) (shown : List Shown) (rs : List Row) (ts : List ShownRow) (r : Row) (t : ShownRow)
    → AreRowsTold kept shown rs ts → IsRowTold kept shown r t → AreRowsTold kept shown (rs ++ r ∷ []) (ts ++ t ∷ [])
row_more kept shown [] [] r t are is = (is, tt)
row_more kept shown [] (y ∷ ts) r t are is = absurd are
row_more kept shown (x ∷ rs) [] r t are is = absurd are
row_more kept shown (x ∷ rs) (y ∷ ts) r t are is = (are.0, row_more kept shown rs ts r t are.1 is)

pub ruleset told = (below_at, row_below_at, outcome_below_at, outcome_more, row_more)

-- the one at a place was told
pub outcome_step : (kept : KeptParts) (list : List ℕ) (i d : ℕ) (ts new : List Outcome) (t : Outcome) → i < length list
    → new ≡ ts ++ t ∷ [] → AreOutcomesTold kept (take i list) ts → IsOutcomeTold kept (slice_index_or list i d) t
    → AreOutcomesTold kept (take (i + 1) list) new
outcome_step kept list i d ts new t within pushed are is =
    subst (λ (xs : List ℕ). AreOutcomesTold kept xs new) (sym (take_more list i d within))
    (subst (λ (us : List Outcome). AreOutcomesTold kept (take i list ++ slice_index_or list i d ∷ []) us) (sym pushed)
    (outcome_more kept (take i list) ts (slice_index_or list i d) t are is))

pub row_step : (kept : KeptParts) (shown : List Shown) (list : List Row) (i : ℕ) (d : Row) (ts new : List ShownRow) (t : ShownRow)
    → i < length list → new ≡ ts ++ t ∷ [] → AreRowsTold kept shown (take i list) ts → IsRowTold kept shown (slice_index_or list i d) t
    → AreRowsTold kept shown (take (i + 1) list) new
row_step kept shown list i d ts new t within pushed are is =
    subst (λ (xs : List Row). AreRowsTold kept shown xs new) (sym (take_more list i d within))
    (subst (λ (us : List ShownRow). AreRowsTold kept shown (take i list ++ slice_index_or list i d ∷ []) us) (sym pushed)
    (row_more kept shown (take i list) ts (slice_index_or list i d) t are is))
