-- Rows that a part takes in.
use Rattle.std.proofs.Common.{◌≡◌, ℕ, ◌+◌, ◌*◌, ◌≤◌, List, [], ◌∷◌, ◌++◌, length, arith, ap, ◌∙◌, refl}
use Rattle.std.specs.Prelude.{slice_get}
use Rattle.interner.specs.Rows.{IsDistinct, row_at}
use Rattle.graph_nodes.specs.Parts.{Grows, IsAt}
use Rattle.interner.proofs.RowLemmas.{row_ends, row_at-append}
use Rattle.graph_nodes.specs.Tasks.{IsReady, IsSent, IsFound}
use Rattle.graph_nodes.specs.declared.parts.Part.{Part}
use Rattle.graph_nodes.specs.declared.tasks.Task.{Task}
use Rattle.graph_nodes.proofs.GetLemmas.{get_left, get_last}

pub grows_none : (part : Part) → IsDistinct part.kept → Grows part part
grows_none part distinct = record {
  same_width = refl;
  distinct = distinct;
  more = λ i row is. is;
  room = omega arith;
  numbered = λ i n is. is;
  no_others = λ i n is. is;
}

pub grows_both : (old mid new : Part) → Grows old mid → Grows mid new → Grows old new
grows_both old mid new first second = record {
  same_width = second.same_width ∙ first.same_width;
  distinct = second.distinct;
  more = λ i row is. second.more i row (first.more i row is);
  room = omega (arith, first.room, second.room);
  numbered = λ i n is. second.numbered i n (first.numbered i n is);
  no_others = λ i n is. first.no_others i n (second.no_others i n is);
}

pub at_later : (old new : Part) (place : ℕ) (row : List ℕ) → Grows old new → IsAt old place row → IsAt new place row
at_later old new place row grows at = record {
  there = grows.more place row at.there;
  noted = omega (arith, grows.room, at.noted);
}

pub found_later : (old new : Task) (place k : ℕ) (row : List ℕ) → Grows old.part new.part →
    new.places.items ≡ old.places.items ++ place ∷ [] → IsFound old k row → IsFound new k row
found_later old new place k row grows more found = record {
  place = found.place;
  noted = ap (λ (ps : List ℕ). slice_get ps k) more ∙ get_left old.places.items (place ∷ []) k found.place found.noted;
  at = at_later old.part new.part found.place row grows found.at;
}

pub found_last : (new : Task) (places : List ℕ) (place k : ℕ) (row : List ℕ) → k ≡ length places →
    new.places.items ≡ places ++ place ∷ [] → IsAt new.part place row → IsFound new k row
found_last new places place k row last more at = record {
  place = place;
  noted = ap (λ (ps : List ℕ). slice_get ps k) more ∙ ap (λ j. slice_get (places ++ place ∷ []) j) last ∙ get_last places place;
  at = at;
}

-- rows that are sent after it don't change a row
pub sent_later : (task after : Task) (row other : List ℕ) (k : ℕ) → IsReady task → after.part ≡ task.part →
    after.rows.items ≡ task.rows.items ++ row → after.count ≡ task.count + 1 → IsSent task k other → IsSent after k other
sent_later task after row other k ready part rows count sent =
    let ends : (k + 1) * task.part.kept.width ≤ length task.rows.items =
    rw ready.whole (row_ends k task.count task.part.kept.width sent.below) in
    record {
      below = omega (arith, count, sent.below);
      same = ap (λ (p : Part). row_at p.kept.width after.rows.items k) part
          ∙ ap (λ (r : List ℕ). row_at task.part.kept.width r k) rows
          ∙ row_at-append task.part.kept.width task.rows.items row k ends
          ∙ sent.same;
    }
