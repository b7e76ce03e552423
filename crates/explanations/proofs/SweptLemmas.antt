-- The places that a sweep cleared, one by one.
use Rattle.std.proofs.Common.{◌≡◌, ℕ, ◌+◌, ◌<◌, ◌≤◌, List, [], ◌∷◌, ◌++◌, length, drop, get_or, append_assoc, append-nil, drop-cons, add-one}
use Rattle.std.proofs.Math.ListN.{drop_of_length-le}
use Rattle.serde_json.specs.Data.{Members}
use Rattle.origins.specs.declared.place.Place.{Place}
use Rattle.explanations.specs.FactLines.{swept_line, swept_lines}
use Rattle.explanations.specs.FactData.{put_swept}

module _ (places : List Place) (at : ℕ) (d place : Place) (room : at < length places) (is : place ≡ get_or places at d) where
  next : drop at places ≡ place ∷ drop (at + 1) places
  next = rw is (rw add-one (drop-cons places at d room))

  -- one line more
  pub line_more : (before after all : List ℕ) → after ≡ before ++ swept_line place
      → before ++ swept_lines (drop at places) ≡ all → after ++ swept_lines (drop (at + 1) places) ≡ all
  unfolding swept_lines
  line_more before after all written whole = rw (written, append_assoc) (rw next at whole)

  -- one member more
  pub member_more : (before after all : Members) → after ≡ put_swept (place ∷ []) before
      → put_swept (drop at places) before ≡ all → put_swept (drop (at + 1) places) after ≡ all
  unfolding put_swept
  member_more before after all put_now whole = rw put_now (rw next at whole)

pub lines_end : (places : List Place) (at : ℕ) (before all : List ℕ) → length places ≤ at
    → before ++ swept_lines (drop at places) ≡ all → before ≡ all
unfolding swept_lines
lines_end places at before all ended whole =
    let none : drop at places ≡ [] = drop_of_length-le places ended in
    rw append-nil at (rw none at whole)

pub members_end : (places : List Place) (at : ℕ) (before all : Members) → length places ≤ at
    → put_swept (drop at places) before ≡ all → before ≡ all
unfolding put_swept
members_end places at before all ended whole =
    let none : drop at places ≡ [] = drop_of_length-le places ended in
    rw none at whole
