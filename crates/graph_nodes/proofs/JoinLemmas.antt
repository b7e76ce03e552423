-- Rows that are added one after another.
use Rattle.std.proofs.Common.{◌≡◌, ◌≢◌, ℕ, ◌<◌, ◌≤◌, List, [], ◌∷◌, ◌++◌, length, Option, Some, None, Bool, true, false, arith, ap, sym, ◌∙◌, refl, subst, inl, inr, lt-ltb, le-ltb, length-append}
use Rattle.std.specs.Prelude.{slice_get, nat_lt}
use Rattle.std.proofs.lemmas.Option.{slice_get_within}
use Rattle.interner.specs.Rows.{Rows, IsDistinct, IsInterned}
use Rattle.graph_nodes.specs.Joined.{AreJoined}
use Rattle.graph_nodes.proofs.GetLemmas.{get_left}

pub none_joined : (old : List (List ℕ)) → AreJoined [] [] old old
unfolding AreJoined
none_joined old = refl

pub not_joined : (old : List (List ℕ)) → AreJoined (None ∷ []) (false ∷ []) old old
unfolding AreJoined
not_joined old = (refl, refl)

-- one target more
pub joined_more : (targets : List (Option (List ℕ))) (flags : List Bool) (target : Option (List ℕ)) (flag : Bool)
    (old mid new : List (List ℕ)) → AreJoined targets flags old mid → AreJoined (target ∷ []) (flag ∷ []) mid new →
    AreJoined (targets ++ target ∷ []) (flags ++ flag ∷ []) old new
unfolding AreJoined
joined_more [] [] target flag old mid new are one =
    subst (λ (m : List (List ℕ)). AreJoined (target ∷ []) (flag ∷ []) m new) are one
joined_more [] (f ∷ flags) target flag old mid new are one = absurd are
joined_more (None ∷ targets) [] target flag old mid new are one = absurd are
joined_more (Some row ∷ targets) [] target flag old mid new are one = absurd are
joined_more (None ∷ targets) (f ∷ flags) target flag old mid new (old_one, rest) one =
    (old_one, joined_more targets flags target flag old mid new rest one)
joined_more (Some row ∷ targets) (true ∷ flags) target flag old mid new (absent, rest) one =
    (absent, joined_more targets flags target flag (old ++ row ∷ []) mid new rest one)
joined_more (Some row ∷ targets) (false ∷ flags) target flag old mid new (there, rest) one =
    (there, joined_more targets flags target flag old mid new rest one)

-- a row that was interned is new just where there are more rows then
pub one_joined : (old new : Rows) (row : List ℕ) (number before after : ℕ) → IsInterned old new row number →
    IsDistinct new → before ≡ length old.rows → after ≡ length new.rows →
    AreJoined (Some row ∷ []) (nat_lt before after ∷ []) old.rows new.rows
unfolding AreJoined
one_joined old new row number before after (here, inl same) distinct count more =
    let rows : new.rows ≡ old.rows = ap (λ (r : Rows). r.rows) same in
    let all : after ≤ before = omega (arith, count, more, ap length rows) in
    let e = le-ltb before after all in
    rw e ((number, ap (λ (r : List (List ℕ)). slice_get r number) (sym rows) ∙ here), rows)
one_joined old new row number before after (here, inr (grown, last)) distinct count more =
    let rows : new.rows ≡ old.rows ++ row ∷ [] = ap (λ (r : Rows). r.rows) grown in
    let few : before < after = omega (arith, count, more, ap length rows, length-append old.rows (row ∷ [])) in
    let e = lt-ltb before after few in
    let absent : (i : ℕ) → slice_get old.rows i ≢ Some row = λ i is.
    let there : slice_get new.rows i ≡ Some row =
    ap (λ (r : List (List ℕ)). slice_get r i) rows ∙ get_left old.rows (row ∷ []) i row is in
    let at : i ≡ number = distinct i number row there here in
    absurd (omega (arith, slice_get_within old.rows i row is, last, at)) in
    rw e (absent, rows)
