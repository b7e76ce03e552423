-- One name more of a permission set.
use Rattle.std.proofs.Common.{◌≡◌, ℕ, ◌+◌, ◌<◌, ◌≤◌, ◌==◌, Bool, true, false, cond, List, [], ◌∷◌, ◌++◌, length, drop, map, get_or, refl, ◌∙◌, append_assoc, drop-cons, add-one}
use Rattle.std.specs.Prelude.{bit_and, codes}
use Rattle.std.proofs.Math.ListN.{drop_of_length-le}
use Rattle.std.proofs.lemmas.List.{append-nil}
use Rattle.notation.specs.Permissions.{joined_text}

module _ (perms : ℕ) (row : List ℕ × ℕ) (rest : List (List ℕ × ℕ)) (before : List ℕ) where
  -- a name that the set has not, and one that it has
  pub name_skipped : (begun : Bool) → (bit_and perms row.1 == row.1) ≡ false → before ++ joined_text begun perms rest ≡ before ++ joined_text begun perms (row ∷ rest)
  unfolding joined_text
  name_skipped begun e = rw e refl

  pub name_written : (begun : Bool) (after : List ℕ) → (bit_and perms row.1 == row.1) ≡ true → after ≡ before ++ (cond begun (codes "+") [] ++ row.0)
      → after ++ joined_text true perms rest ≡ before ++ joined_text begun perms (row ∷ rest)
  unfolding joined_text
  name_written begun after e h = rw (e, h, append_assoc, append_assoc) refl

-- the rows from a place on, of a table that is shown as rows
pub name_step : {X : Type 0} (shows : X → List ℕ × ℕ) (items : List X) (table : List (List ℕ × ℕ)) (perms place : ℕ) (d : X) (begun next : Bool) (before after all : List ℕ)
    → map shows items ≡ table → place < length items
    → ((rest : List (List ℕ × ℕ)) → after ++ joined_text next perms rest ≡ before ++ joined_text begun perms (shows (get_or items place d) ∷ rest))
    → before ++ joined_text begun perms (map shows (drop place items)) ≡ all
    → after ++ joined_text next perms (map shows (drop (place + 1) items)) ≡ all
name_step shows items table perms place d begun next before after all shown room step whole =
    let here : drop place items ≡ get_or items place d ∷ drop (place + 1) items = rw add-one (drop-cons items place d room) in
    step (map shows (drop (place + 1) items)) ∙ (rw here at whole)

pub name_end : {X : Type 0} (shows : X → List ℕ × ℕ) (items : List X) (perms place : ℕ) (begun : Bool) (before all : List ℕ)
    → length items ≤ place → before ++ joined_text begun perms (map shows (drop place items)) ≡ all → before ≡ all
unfolding joined_text
name_end shows items perms place begun before all ended whole =
    let none : drop place items ≡ [] = drop_of_length-le items ended in
    rw append-nil at (rw none at whole)
