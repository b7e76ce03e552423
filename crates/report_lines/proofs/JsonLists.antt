-- The text of a list in JSON is that of its items, between brackets; and a text between brackets, as a sink takes it.
use Rattle.std.proofs.Common.{◌≡◌, ℕ, ◌+◌, nat_lt, true, List, [], ◌∷◌, ◌++◌, Option, map, refl, ap, ◌∙◌, append_assoc, arith}
use Rattle.std.proofs.lemmas.Bool.{lt-ltb}
use Rattle.serde_json.specs.Data.{Data, array}
use Rattle.serde_json.specs.View.{items_of}
use Rattle.serde_json.specs.Written.{compact_text, items_text}
use Rattle.report_lines.specs.JsonText.{item_text}
use Rattle.report_lines.specs.Texts.{numbered}
use Rattle.sinks.specs.Sinks.{TakesAllBut, TakesPrefix}
use Rattle.sinks.proofs.SinkLemmas.{begins_on}

items_are : {X : Type 0} (data_of : X → Data) (number : ℕ) (xs : List X)
    → items_text (nat_lt 0 number) (items_of (map data_of xs)) ≡ numbered (item_text data_of) number xs ++ 93 ∷ []
unfolding numbered item_text
items_are data_of number [] = refl
items_are data_of number (x ∷ rest) =
    let some : nat_lt 0 (number + 1) ≡ true = lt-ltb 0 (number + 1) (omega arith) in
    let others = rw some at (items_are data_of (number + 1) rest) in
    rw others (simp append_assoc)

pub list_text : {X : Type 0} (data_of : X → Data) (xs : List X)
    → compact_text (array (items_of (map data_of xs))) ≡ 91 ∷ (numbered (item_text data_of) 0 xs ++ 93 ∷ [])
list_text data_of xs = ap (λ (l : List ℕ). 91 ∷ l) (items_are data_of 0 xs)

-- a text between brackets is kept after `out`: its opening one first, and its closing one at the end
same_text : (out head text whole : List ℕ) (opening closing : ℕ)
    → head ≡ out ++ opening ∷ [] → whole ≡ opening ∷ (text ++ closing ∷ []) → (head ++ text) ++ closing ∷ [] ≡ out ++ whole
same_text out head text whole opening closing opened is = rw (opened, is) (simp append_assoc)

pub closed_takes : (before now : Option (List ℕ)) (out head kept still text whole : List ℕ) (opening closing : ℕ)
    → head ≡ out ++ opening ∷ [] → still ≡ kept ++ closing ∷ [] → whole ≡ opening ∷ (text ++ closing ∷ [])
    → TakesAllBut before now kept (head ++ text) → TakesAllBut before now still (out ++ whole)
closed_takes before now out head kept still text whole opening closing opened closed is so_far = record {
  taken = so_far.taken;
  grown = so_far.grown;
  parts =
      let joined : so_far.taken ++ (kept ++ closing ∷ []) ≡ (head ++ text) ++ closing ∷ [] = rw (← append_assoc, so_far.parts) refl in
      rw closed (joined ∙ same_text out head text whole opening closing opened is);
}

pub closed_begins : (before now : Option (List ℕ)) (out head text whole : List ℕ) (opening closing : ℕ)
    → head ≡ out ++ opening ∷ [] → whole ≡ opening ∷ (text ++ closing ∷ [])
    → TakesPrefix before now (head ++ text) → TakesPrefix before now (out ++ whole)
closed_begins before now out head text whole opening closing opened is begun =
    rw (same_text out head text whole opening closing opened is) at (begins_on before now (head ++ text) (closing ∷ []) begun)
