-- Walks in any graph after each of whose edges states forget, where what they forget makes no
-- difference to edges.
use Rattle.std.proofs.Common.{◌≡◌, ℕ, List, [], ◌∷◌, refl, sym, ap, ◌∙◌}
use Rattle.std.specs.Prelude.{Option, Some, None, option_map, option_and_then}
use Rattle.std.proofs.lemmas.Option.{none-some, same_Some}
use Rattle.graph_merging.specs.Merging.{merged}
use Rattle.graph_search.specs.Walks.{after, IsReachable, IsWalk}

pub mapped : {A B : Type 0} (f : A → B) (o : Option A) (y : B) → option_map f o ≡ Some y →
    (x : A) × (o ≡ Some x) × (f x ≡ y)
mapped {A} {B} f None y is = absurd (none-some y is)
mapped {A} {B} f (Some x) y is = (x, refl, same_Some (f x) y is)

-- a function that takes what is alike to what is alike does so where there is something
pub maps_alike : {S : Type 0} (forget f : S → S) →
    ((s t : S) → forget s ≡ forget t → forget (f s) ≡ forget (f t)) → (o p : Option S) →
    option_map forget o ≡ option_map forget p →
    option_map forget (option_map f o) ≡ option_map forget (option_map f p)
maps_alike forget f alike None None same = refl
maps_alike forget f alike None (Some t) same = absurd (none-some (forget t) same)
maps_alike forget f alike (Some s) None same = absurd (none-some (forget s) (sym same))
maps_alike {S} forget f alike (Some s) (Some t) same =
    ap (λ (x : S). Some x) (alike s t (same_Some (forget s) (forget t) same))

module _ {S : Type 0} (goes : S → ℕ → Option S) (forget : S → S)
    (edges : (s : S) (l : ℕ) → merged goes forget (forget s) l ≡ merged goes forget s l) where
  abbrev lost_goes : S → ℕ → Option S
  lost_goes s l = merged goes forget s l

  walk_on : (ls : List ℕ) (o : Option S) →
      ((t : S) → after lost_goes (forget t) ls ≡ option_map forget (after goes t ls)) →
      option_and_then (λ t. after lost_goes t ls) (option_map forget o)
      ≡ option_map forget (option_and_then (λ t. after goes t ls) o)
  walk_on ls None later = refl
  walk_on ls (Some t) later = later t

  pub walk_forgets : (s : S) (ls : List ℕ) → after (merged goes forget) (forget s) ls ≡ option_map forget (after goes s ls)
  walk_forgets s [] = refl
  walk_forgets s (l ∷ ls) =
      ap (option_and_then (λ t. after lost_goes t ls)) (edges s l)
      ∙ walk_on ls (goes s l) (λ t. walk_forgets t ls)

  pub reached_forgets : (o s : S) → IsReachable goes o s → IsReachable (merged goes forget) (forget o) (forget s)
  reached_forgets o s reached =
      (reached.0, walk_forgets o reached.0 ∙ ap (option_map forget) reached.1)

  -- such a walk leads to what the state forgets to be to which the edges lead
  pub walk_found : (o r : S) (ls : List ℕ) → IsWalk (merged goes forget) (forget o) ls r →
      (s : S) × IsWalk goes o ls s × (forget s ≡ r)
  walk_found o r ls walk = mapped forget (after goes o ls) r (sym (walk_forgets o ls) ∙ walk)
