-- Sums of tables.
use Rattle.std.proofs.Common.{◌≡◌, ℕ, ◌+◌, min, Bool, true, false, List, [], ◌∷◌, refl, ap, sym, ◌∙◌, arith, inl, inr}
use Rattle.std.specs.Prelude.{Option, Some, None, if◌then◌else◌}
use Rattle.std.proofs.lemmas.Bool.{cases_Bool}
use Rattle.std.proofs.Math.Nat.{min_comm}
use Rattle.sample_tallies.specs.declared.seen.Seen.{Seen}
use Rattle.sample_tallies.specs.Tables.{Entry, both, either, with_entry, with_entries, seen_of}
use Rattle.sample_tallies.proofs.SameLemmas.{IsSame}

least_of_three : (a b c : ℕ) → min (min a b) c ≡ min a (min b c)
least_of_three a b c = omega arith

pub both_assoc : (a b c : Seen) → both (both a b) c ≡ both a (both b c)
both_assoc a b c =
    let runs : a.runs + b.runs + c.runs ≡ a.runs + (b.runs + c.runs) = omega arith in
    let first = least_of_three a.first b.first c.first in
    cc

pub both_comm : (a b : Seen) → both a b ≡ both b a
both_comm a b =
    let runs : a.runs + b.runs ≡ b.runs + a.runs = omega arith in
    let first = min_comm a.first b.first in
    cc

pub either_none : (a : Option Seen) → either a None ≡ a
either_none None = refl
either_none (Some a) = refl

pub either_assoc : (a b c : Option Seen) → either (either a b) c ≡ either a (either b c)
either_assoc None b c = refl
either_assoc (Some a) None c = refl
either_assoc (Some a) (Some b) None = refl
either_assoc (Some a) (Some b) (Some c) = ap (λ (s : Seen). Some s) (both_assoc a b c)

pub either_comm : (a b : Option Seen) → either a b ≡ either b a
either_comm None b = sym (either_none b)
either_comm (Some a) None = refl
either_comm (Some a) (Some b) = ap (λ (s : Seen). Some s) (both_comm a b)

-- an entry that grew
abbrev pub grown : {K : Type 0} → Entry K → Entry K → Entry K
grown e m = record e { seen = both e.seen m.seen }

pub at_hit : {K : Type 0} (same : K → K → Bool) (e m : Entry K) (es : List (Entry K)) → same e.key m.key ≡ true
    → with_entry same (e ∷ es) m ≡ grown e m ∷ es
unfolding with_entry
at_hit {K} same e m es h = ap (λ (b : Bool). if b then grown e m ∷ es else e ∷ with_entry same es m) h

pub at_miss : {K : Type 0} (same : K → K → Bool) (e m : Entry K) (es : List (Entry K)) → same e.key m.key ≡ false
    → with_entry same (e ∷ es) m ≡ e ∷ with_entry same es m
unfolding with_entry
at_miss {K} same e m es h = ap (λ (b : Bool). if b then grown e m ∷ es else e ∷ with_entry same es m) h

-- a key is there
unfoldable has : {K : Type 0} → (K → K → Bool) → K → List (Entry K) → Bool
has same key [] = false
has same key (e ∷ es) = if same e.key key then true else has same key es

has_hit : {K : Type 0} (same : K → K → Bool) (k : K) (e : Entry K) (es : List (Entry K)) → same e.key k ≡ true
    → has same k (e ∷ es) ≡ true
unfolding has
has_hit {K} same k e es h = ap (λ (b : Bool). if b then true else has same k es) h

has_miss : {K : Type 0} (same : K → K → Bool) (k : K) (e : Entry K) (es : List (Entry K)) → same e.key k ≡ false
    → has same k (e ∷ es) ≡ has same k es
unfolding has
has_miss {K} same k e es h = ap (λ (b : Bool). if b then true else has same k es) h

-- what was there stays
has_more : {K : Type 0} (same : K → K → Bool) (k : K) (t : List (Entry K)) (m : Entry K) → has same k t ≡ true
    → has same k (with_entry same t m) ≡ true
unfolding has
has_more {K} same k [] m h = absurd (cc)
has_more {K} same k (e ∷ es) m h = elim (cases_Bool (same e.key m.key)) [
  | inl hit ↦ elim (cases_Bool (same e.key k)) [
    | inl here ↦ ap (has same k) (at_hit same e m es hit) ∙ has_hit same k (grown e m) es here
    | inr other ↦ ap (has same k) (at_hit same e m es hit) ∙ has_miss same k (grown e m) es other
        ∙ sym (has_miss same k e es other) ∙ h
  ]
  | inr miss ↦ elim (cases_Bool (same e.key k)) [
    | inl here ↦ ap (has same k) (at_miss same e m es miss) ∙ has_hit same k e (with_entry same es m) here
    | inr other ↦ ap (has same k) (at_miss same e m es miss) ∙ has_miss same k e (with_entry same es m) other
        ∙ has_more same k es m (sym (has_miss same k e es other) ∙ h)
  ]
]

-- what was added is there
has_new : {K : Type 0} (same : K → K → Bool) (t : List (Entry K)) (m : Entry K) → same m.key m.key ≡ true
    → has same m.key (with_entry same t m) ≡ true
unfolding has with_entry
has_new {K} same [] m itself = has_hit same m.key m [] itself
has_new {K} same (e ∷ es) m itself = elim (cases_Bool (same e.key m.key)) [
  | inl hit ↦ ap (has same m.key) (at_hit same e m es hit) ∙ has_hit same m.key (grown e m) es hit
  | inr miss ↦ ap (has same m.key) (at_miss same e m es miss) ∙ has_miss same m.key e (with_entry same es m) miss
      ∙ has_new same es m itself
]

-- where a key is there, another one may come sooner or later
exchanged : {K : Type 0} (same : K → K → Bool) (t : List (Entry K)) (x m : Entry K) → has same m.key t ≡ true
    → with_entry same (with_entry same t x) m ≡ with_entry same (with_entry same t m) x
unfolding has
exchanged {K} same [] x m h = absurd (cc)
exchanged {K} same (e ∷ es) x m h = elim (cases_Bool (same e.key m.key)) [
  | inl hit ↦ elim (cases_Bool (same e.key x.key)) [
    | inl also ↦
        let seen : both (both e.seen x.seen) m.seen ≡ both (both e.seen m.seen) x.seen =
        both_assoc e.seen x.seen m.seen ∙ ap (both e.seen) (both_comm x.seen m.seen)
        ∙ sym (both_assoc e.seen m.seen x.seen) in
        ap (λ (t : List (Entry K)). with_entry same t m) (at_hit same e x es also)
        ∙ at_hit same (grown e x) m es hit
        ∙ ap (λ (s : Seen). (record e { seen = s }) ∷ es) seen
        ∙ sym (at_hit same (grown e m) x es also)
        ∙ sym (ap (λ (t : List (Entry K)). with_entry same t x) (at_hit same e m es hit))
    | inr miss ↦
        ap (λ (t : List (Entry K)). with_entry same t m) (at_miss same e x es miss)
        ∙ at_hit same e m (with_entry same es x) hit
        ∙ sym (at_miss same (grown e m) x es miss)
        ∙ sym (ap (λ (t : List (Entry K)). with_entry same t x) (at_hit same e m es hit))
  ]
  | inr miss ↦ elim (cases_Bool (same e.key x.key)) [
    | inl hit ↦
        ap (λ (t : List (Entry K)). with_entry same t m) (at_hit same e x es hit)
        ∙ at_miss same (grown e x) m es miss
        ∙ sym (at_hit same e x (with_entry same es m) hit)
        ∙ sym (ap (λ (t : List (Entry K)). with_entry same t x) (at_miss same e m es miss))
    | inr also ↦
        ap (λ (t : List (Entry K)). with_entry same t m) (at_miss same e x es also)
        ∙ at_miss same e m (with_entry same es x) miss
        ∙ ap (λ (t : List (Entry K)). e ∷ t) (exchanged same es x m (sym (has_miss same m.key e es miss) ∙ h))
        ∙ sym (at_miss same e x (with_entry same es m) also)
        ∙ sym (ap (λ (t : List (Entry K)). with_entry same t x) (at_miss same e m es miss))
  ]
]

after_all : {K : Type 0} (same : K → K → Bool) (es t : List (Entry K)) (m : Entry K) → has same m.key t ≡ true
    → with_entry same (with_entries same t es) m ≡ with_entries same (with_entry same t m) es
after_all {K} same [] t m h = refl
after_all {K} same (x ∷ es) t m h =
    after_all same es (with_entry same t x) m (has_more same m.key t x h)
    ∙ ap (λ (u : List (Entry K)). with_entries same u es) (exchanged same t x m h)

-- an entry that grows before it is added
grown_first : {K : Type 0} (same : K → K → Bool) → IsSame same → (a : List (Entry K)) (e m : Entry K)
    → e.key ≡ m.key → with_entry same (with_entry same a e) m ≡ with_entry same a (grown e m)
unfolding with_entry
grown_first {K} same is [] e m one = at_hit same e m [] (ap (λ (k : K). same k m.key) one ∙ is.itself m.key)
grown_first {K} same is (x ∷ xs) e m one = elim (cases_Bool (same x.key e.key)) [
  | inl hit ↦
      ap (λ (t : List (Entry K)). with_entry same t m) (at_hit same x e xs hit)
      ∙ at_hit same (grown x e) m xs (sym (ap (same x.key) one) ∙ hit)
      ∙ ap (λ (s : Seen). (record x { seen = s }) ∷ xs) (both_assoc x.seen e.seen m.seen)
      ∙ sym (at_hit same x (grown e m) xs hit)
  | inr miss ↦
      ap (λ (t : List (Entry K)). with_entry same t m) (at_miss same x e xs miss)
      ∙ at_miss same x m (with_entry same xs e) (sym (ap (same x.key) one) ∙ miss)
      ∙ ap (λ (t : List (Entry K)). x ∷ t) (grown_first same is xs e m one)
      ∙ sym (at_miss same x (grown e m) xs miss)
]

-- one entry more, of the second table or of the sum
pub one_more : {K : Type 0} (same : K → K → Bool) → IsSame same → (b a : List (Entry K)) (m : Entry K)
    → with_entries same a (with_entry same b m) ≡ with_entry same (with_entries same a b) m
unfolding with_entry
one_more {K} same is [] a m = refl
one_more {K} same is (e ∷ es) a m = elim (cases_Bool (same e.key m.key)) [
  | inl hit ↦
      let one = is.reflects e.key m.key hit in
      ap (with_entries same a) (at_hit same e m es hit)
      ∙ ap (λ (t : List (Entry K)). with_entries same t es) (sym (grown_first same is a e m one))
      ∙ sym (after_all same es (with_entry same a e) m
      (ap (λ (k : K). has same k (with_entry same a e)) (sym one) ∙ has_new same a e (is.itself e.key)))
  | inr miss ↦
      ap (with_entries same a) (at_miss same e m es miss) ∙ one_more same is es (with_entry same a e) m
]

pub sums_assoc : {K : Type 0} (same : K → K → Bool) → IsSame same → (c a b : List (Entry K))
    → with_entries same (with_entries same a b) c ≡ with_entries same a (with_entries same b c)
sums_assoc {K} same is [] a b = refl
sums_assoc {K} same is (m ∷ ms) a b =
    ap (λ (t : List (Entry K)). with_entries same t ms) (sym (one_more same is b a m))
    ∙ sums_assoc same is ms a (with_entry same b m)

-- added to nothing, a table that is a sum itself stays what it is
pub sum_of_sum : {K : Type 0} (same : K → K → Bool) → IsSame same → (t : List (Entry K))
    → with_entries same [] (with_entries same [] t) ≡ with_entries same [] t
sum_of_sum {K} same is t = sym (sums_assoc same is t [] [])

-- what was seen of a key in an entry
abbrev pub seen_in : {K : Type 0} → (K → K → Bool) → K → Entry K → Option Seen
seen_in same key e = if same e.key key then Some e.seen else None

seen_step : {K : Type 0} (same : K → K → Bool) (k : K) (e : Entry K) (es : List (Entry K))
    → seen_of same k (e ∷ es) ≡ either (seen_in same k e) (seen_of same k es)
unfolding seen_of
seen_step {K} same k e es = elim (cases_Bool (same e.key k)) [
  | inl hit ↦
      ap (λ (b : Bool). if b then either (Some e.seen) (seen_of same k es) else seen_of same k es) hit
      ∙ sym (ap (λ (b : Bool). either (if b then Some e.seen else None) (seen_of same k es)) hit)
  | inr miss ↦
      ap (λ (b : Bool). if b then either (Some e.seen) (seen_of same k es) else seen_of same k es) miss
      ∙ sym (ap (λ (b : Bool). either (if b then Some e.seen else None) (seen_of same k es)) miss)
]

seen_grown : {K : Type 0} (same : K → K → Bool) (k : K) (e m : Entry K) → e.key ≡ m.key
    → seen_in same k (grown e m) ≡ either (seen_in same k e) (seen_in same k m)
seen_grown {K} same k e m one = elim (cases_Bool (same e.key k)) [
  | inl hit ↦
      ap (λ (b : Bool). if b then Some (both e.seen m.seen) else None) hit
      ∙ sym (ap (λ (b : Bool). either (if b then Some e.seen else None) (if b then Some m.seen else None)) hit)
      ∙ ap (λ (j : K). either (seen_in same k e) (if same j k then Some m.seen else None)) one
  | inr miss ↦
      ap (λ (b : Bool). if b then Some (both e.seen m.seen) else None) miss
      ∙ sym (ap (λ (b : Bool). either (if b then Some e.seen else None) (if b then Some m.seen else None)) miss)
      ∙ ap (λ (j : K). either (seen_in same k e) (if same j k then Some m.seen else None)) one
]

-- a b c, and a c b
turned : (a b c : Option Seen) → either (either a c) b ≡ either (either a b) c
turned a b c = either_assoc a c b ∙ ap (either a) (either_comm c b) ∙ sym (either_assoc a b c)

seen_more : {K : Type 0} (same : K → K → Bool) → IsSame same → (k : K) (t : List (Entry K)) (m : Entry K)
    → seen_of same k (with_entry same t m) ≡ either (seen_of same k t) (seen_in same k m)
unfolding with_entry seen_of
seen_more {K} same is k [] m = seen_step same k m [] ∙ either_none (seen_in same k m)
seen_more {K} same is k (e ∷ es) m = elim (cases_Bool (same e.key m.key)) [
  | inl hit ↦
      ap (seen_of same k) (at_hit same e m es hit) ∙ seen_step same k (grown e m) es
      ∙ ap (λ (o : Option Seen). either o (seen_of same k es)) (seen_grown same k e m (is.reflects e.key m.key hit))
      ∙ turned (seen_in same k e) (seen_of same k es) (seen_in same k m)
      ∙ sym (ap (λ (o : Option Seen). either o (seen_in same k m)) (seen_step same k e es))
  | inr miss ↦
      ap (seen_of same k) (at_miss same e m es miss) ∙ seen_step same k e (with_entry same es m)
      ∙ ap (either (seen_in same k e)) (seen_more same is k es m)
      ∙ sym (either_assoc (seen_in same k e) (seen_of same k es) (seen_in same k m))
      ∙ sym (ap (λ (o : Option Seen). either o (seen_in same k m)) (seen_step same k e es))
]

-- what was seen of a key in a sum
pub seen_in_sum : {K : Type 0} (same : K → K → Bool) → IsSame same → (k : K) (b a : List (Entry K))
    → seen_of same k (with_entries same a b) ≡ either (seen_of same k a) (seen_of same k b)
unfolding seen_of
seen_in_sum {K} same is k [] a = sym (either_none (seen_of same k a))
seen_in_sum {K} same is k (m ∷ ms) a =
    seen_in_sum same is k ms (with_entry same a m)
    ∙ ap (λ (o : Option Seen). either o (seen_of same k ms)) (seen_more same is k a m)
    ∙ either_assoc (seen_of same k a) (seen_in same k m) (seen_of same k ms)
    ∙ sym (ap (either (seen_of same k a)) (seen_step same k m ms))

pub sums_say_the_same : {K : Type 0} (same : K → K → Bool) → IsSame same → (a b : List (Entry K)) (k : K)
    → seen_of same k (with_entries same a b) ≡ seen_of same k (with_entries same b a)
sums_say_the_same {K} same is a b k =
    seen_in_sum same is k b a ∙ either_comm (seen_of same k a) (seen_of same k b) ∙ sym (seen_in_sum same is k a b)
