-- Entries by their places.
use Rattle.std.proofs.Common.{◌≡◌, ℕ, zero, suc, ◌<◌, Bool, true, false, List, [], ◌∷◌, ◌++◌, length, refl, ap, sym, ◌∙◌, arith}
use Rattle.std.specs.Prelude.{Some, slice_get, slice_set}
use Rattle.std.proofs.lemmas.Option.{none-some, same_Some}
use Rattle.sample_tallies.specs.declared.seen.Seen.{Seen}
use Rattle.sample_tallies.specs.Tables.{Entry, with_entry, table_of}
use Rattle.sample_tallies.proofs.TableLemmas.{grown, at_hit, at_miss}

-- the first entry of a key stands at a place
pub seen_at : {K : Type 0} (same : K → K → Bool) (t : List (Entry K)) (n : ℕ) (e m : Entry K) → slice_get t n ≡ Some e
    → same e.key m.key ≡ true
    → ((i : ℕ) (d : Entry K) → i < n → slice_get t i ≡ Some d → same d.key m.key ≡ false)
    → with_entry same t m ≡ slice_set t n (grown e m)
seen_at {K} same [] n e m at hit others = absurd (none-some e at)
seen_at {K} same (x ∷ xs) zero e m at hit others =
    let here : x ≡ e = same_Some x e at in
    at_hit same x m xs (ap (λ (d : Entry K). same d.key m.key) here ∙ hit) ∙ ap (λ (d : Entry K). grown d m ∷ xs) here
seen_at {K} same (x ∷ xs) (suc n) e m at hit others =
    at_miss same x m xs (others zero x (omega arith) refl)
    ∙ ap (λ (t : List (Entry K)). x ∷ t) (seen_at same xs n e m at hit
    (λ i d below there. others (suc i) d (omega arith) there))

-- a key has no entry
pub seen_new : {K : Type 0} (same : K → K → Bool) (t : List (Entry K)) (m : Entry K)
    → ((i : ℕ) (d : Entry K) → slice_get t i ≡ Some d → same d.key m.key ≡ false)
    → with_entry same t m ≡ t ++ m ∷ []
unfolding with_entry
seen_new {K} same [] m others = refl
seen_new {K} same (x ∷ xs) m others =
    at_miss same x m xs (others zero x refl)
    ∙ ap (λ (t : List (Entry K)). x ∷ t) (seen_new same xs m (λ i d there. others (suc i) d there))

-- an entry of a table, by its key and by what was seen of it
pub table_get : {K : Type 0} (keys : List K) (seen : List Seen) (n : ℕ) (k : K) (s : Seen)
    → slice_get keys n ≡ Some k → slice_get seen n ≡ Some s
    → slice_get (table_of keys seen) n ≡ Some (record { key = k; seen = s })
unfolding table_of
table_get {K} [] seen n k s key at = absurd (none-some k key)
table_get {K} (x ∷ xs) [] n k s key at = absurd (none-some s at)
table_get {K} (x ∷ xs) (y ∷ ys) zero k s key at =
    ap (λ (x : K). Some (record { key = x; seen = y })) (same_Some x k key)
    ∙ ap (λ (y : Seen). Some (record { key = k; seen = y })) (same_Some y s at)
table_get {K} (x ∷ xs) (y ∷ ys) (suc n) k s key at = table_get xs ys n k s key at

pub table_key : {K : Type 0} (keys : List K) (seen : List Seen) (n : ℕ) (e : Entry K)
    → slice_get (table_of keys seen) n ≡ Some e → slice_get keys n ≡ Some e.key
unfolding table_of
table_key {K} [] seen n e at = absurd (none-some e at)
table_key {K} (x ∷ xs) [] n e at = absurd (none-some e at)
table_key {K} (x ∷ xs) (y ∷ ys) zero e at =
    ap (λ (e : Entry K). Some e.key) (same_Some (record { key = x; seen = y }) e at)
table_key {K} (x ∷ xs) (y ∷ ys) (suc n) e at = table_key xs ys n e at

pub table_seen : {K : Type 0} (keys : List K) (seen : List Seen) (n : ℕ) (e : Entry K)
    → slice_get (table_of keys seen) n ≡ Some e → slice_get seen n ≡ Some e.seen
unfolding table_of
table_seen {K} [] seen n e at = absurd (none-some e at)
table_seen {K} (x ∷ xs) [] n e at = absurd (none-some e at)
table_seen {K} (x ∷ xs) (y ∷ ys) zero e at =
    ap (λ (e : Entry K). Some e.seen) (same_Some (record { key = x; seen = y }) e at)
table_seen {K} (x ∷ xs) (y ∷ ys) (suc n) e at = table_seen xs ys n e at

pub table_long : {K : Type 0} (keys : List K) (seen : List Seen) → length seen ≡ length keys
    → length (table_of keys seen) ≡ length keys
unfolding table_of
table_long {K} [] seen even = refl
table_long {K} (x ∷ xs) [] even = even
table_long {K} (x ∷ xs) (y ∷ ys) even =
    let rest : length ys ≡ length xs = omega arith in ap suc (table_long xs ys rest)

-- what was seen at a place is another
pub table_set : {K : Type 0} (keys : List K) (seen : List Seen) (n : ℕ) (k : K) (s : Seen) → slice_get keys n ≡ Some k
    → slice_set (table_of keys seen) n (record { key = k; seen = s }) ≡ table_of keys (slice_set seen n s)
unfolding table_of
table_set {K} [] seen n k s key = absurd (none-some k key)
table_set {K} (x ∷ xs) [] n k s key = refl
table_set {K} (x ∷ xs) (y ∷ ys) zero k s key =
    ap (λ (k : K). record { key = k; seen = s } ∷ table_of xs ys) (sym (same_Some x k key))
table_set {K} (x ∷ xs) (y ∷ ys) (suc n) k s key =
    ap (λ (t : List (Entry K)). record { key = x; seen = y } ∷ t) (table_set xs ys n k s key)

-- a key more
pub table_more : {K : Type 0} (keys : List K) (seen : List Seen) (k : K) (s : Seen) → length seen ≡ length keys
    → table_of keys seen ++ record { key = k; seen = s } ∷ [] ≡ table_of (keys ++ k ∷ []) (seen ++ s ∷ [])
unfolding table_of
table_more {K} [] [] k s even = refl
table_more {K} [] (y ∷ ys) k s even = absurd (omega arith)
table_more {K} (x ∷ xs) [] k s even = absurd (omega arith)
table_more {K} (x ∷ xs) (y ∷ ys) k s even =
    let rest : length ys ≡ length xs = omega arith in
    ap (λ (t : List (Entry K)). record { key = x; seen = y } ∷ t) (table_more xs ys k s rest)
