-- Rows of states and memories in which one number changed, and lists that are changed up to a place.
use Rattle.std.proofs.Common.{◌≡◌, ℕ, zero, suc, ◌+◌, ◌<◌, ◌≤◌, List, [], ◌∷◌, length, map, arith, ap, sym, ◌∙◌, refl, subst, length-set, ◌++◌, take, drop}
use Rattle.std.specs.Prelude.{Option, Some, None, IsSome, slice_get, slice_set, slice_index_or, Bool, true, false, if◌then◌else◌}
use Rattle.std.proofs.lemmas.List.{take_at}
use Rattle.std.proofs.lemmas.Option.{none-some, same_Some, slice_get-get_or}
use Rattle.cap_model.specs.values.CapValue.{CapValue}
use Rattle.cap_model.specs.results.Addresses.{clear_tag}
use Rattle.cap_model.specs.results.Swept.{is_in_sweep, swept}
use Rattle.cheri_model.specs.steps.Hart.{HartState}
use Rattle.cheri_model.specs.runs.Machine.{MachineState}
use Rattle.state_store.specs.Numbered.{each}
use Rattle.state_store.specs.Stores.{Stored, hart_at, memory_at, state_of, Keeps}
use Rattle.state_store.proofs.NumberedLemmas.{each_kept, each_set, each_get, each_length, each_parts, each_cons}
use Rattle.state_store.proofs.StoreLemmas.{hart_at_kept, memory_at_kept, state_parts, state_made}
use Rattle.state_store.proofs.ViewLemmas.{row_of_memory}
use Rattle.state_store.proofs.SeenLemmas.{memory_at_made}

-- a row with another hart
pub row_with_hart : (a b : Stored) → Keeps a b → (row : List ℕ) (s : MachineState) (j id : ℕ) (h : HartState) →
    state_of a row ≡ Some s → hart_at b id ≡ Some h →
    state_of b (slice_set row (j + 1) id) ≡ Some (record { harts = slice_set s.harts j h; memory = s.memory })
unfolding state_of
row_with_hart a b keeps [] s j id h is there = absurd (none-some s is)
row_with_hart a b keeps (m ∷ hs) s j id h is there =
    let p = state_parts a m hs s is in
    let place : suc j ≡ j + 1 = omega arith in
    subst (λ (k : ℕ). state_of b (slice_set (m ∷ hs) k id) ≡ Some (record { harts = slice_set s.harts j h; memory = s.memory }))
    place
    (state_made b m (slice_set hs j id) s.memory (slice_set s.harts j h) (memory_at_kept a b keeps m s.memory p.0)
    (each_set (hart_at b) hs s.harts j id h
    (each_kept (hart_at a) (hart_at b) (hart_at_kept a b keeps) hs s.harts p.1) there))

-- a row with another memory
pub row_with_memory : (a b : Stored) → Keeps a b → (row : List ℕ) (s : MachineState) (id : ℕ) (m : List CapValue) →
    state_of a row ≡ Some s → memory_at b id ≡ Some m →
    state_of b (slice_set row 0 id) ≡ Some (record { harts = s.harts; memory = m })
unfolding state_of
row_with_memory a b keeps [] s id m is there = absurd (none-some s is)
row_with_memory a b keeps (n ∷ hs) s id m is there =
    let p = state_parts a n hs s is in
    state_made b id hs m s.harts there (each_kept (hart_at a) (hart_at b) (hart_at_kept a b keeps) hs s.harts p.1)

-- a memory with another value in one granule
pub memory_changed : (a b : Stored) → Keeps a b → (memory id granule value : ℕ) (row : List ℕ) (m : List CapValue) (v : CapValue) →
    slice_get a.memories memory ≡ Some row → memory_at a memory ≡ Some m → slice_get a.values value ≡ Some v →
    slice_get b.memories id ≡ Some (slice_set row granule value) →
    memory_at b id ≡ Some (slice_set m granule v)
memory_changed a b keeps memory id granule value row m v at is there left =
    let p = row_of_memory a memory row m is at in
    memory_at_made b id (slice_set row granule value) (slice_set m granule v) left
    (length-set row granule value ∙ (p.0 ∙ sym keeps.granules))
    (each_set (slice_get b.values) row m granule value v
    (each_kept (slice_get a.values) (slice_get b.values) (λ i x known. keeps.values i x known) row m p.1)
    (keeps.values value v there))

-- the list with a function applied to its first n items
pub partly : {A : Type 0} → (A → A) → ℕ → List A → List A
partly f zero xs = xs
partly f (suc n) [] = []
partly f (suc n) (x ∷ xs) = f x ∷ partly f n xs

pub partly_all : {A : Type 0} (f : A → A) (n : ℕ) (xs : List A) → length xs ≤ n → partly f n xs ≡ map f xs
unfolding partly
partly_all {A} f zero [] all = refl
partly_all {A} f zero (x ∷ xs) all = absurd (omega arith)
partly_all {A} f (suc n) [] all = refl
partly_all {A} f (suc n) (x ∷ xs) all =
    let rest : length xs ≤ n = omega arith in
    ap (λ (l : List A). f x ∷ l) (partly_all f n xs rest)

pub partly_none : {A : Type 0} (f : A → A) (xs : List A) → partly f 0 xs ≡ xs
unfolding partly
partly_none {A} f xs = refl

-- its items from n on are as they were
pub partly_next : {A : Type 0} (f : A → A) (n : ℕ) (xs : List A) → slice_get (partly f n xs) n ≡ slice_get xs n
unfolding partly
partly_next {A} f zero xs = refl
partly_next {A} f (suc n) [] = refl
partly_next {A} f (suc n) (x ∷ xs) = partly_next f n xs

pub partly_more : {A : Type 0} (f : A → A) (n : ℕ) (xs : List A) (x : A) → slice_get xs n ≡ Some x →
    slice_set (partly f n xs) n (f x) ≡ partly f (suc n) xs
unfolding partly
partly_more {A} f zero [] x is = absurd (none-some x is)
partly_more {A} f zero (y ∷ xs) x is = ap (λ (z : A). f z ∷ xs) (sym (same_Some y x is))
partly_more {A} f (suc n) [] x is = absurd (none-some x is)
partly_more {A} f (suc n) (y ∷ xs) x is = ap (λ (l : List A). f y ∷ l) (partly_more f n xs x is)

pub partly_length : {A : Type 0} (f : A → A) (n : ℕ) (xs : List A) → length (partly f n xs) ≡ length xs
unfolding partly
partly_length {A} f zero xs = refl
partly_length {A} f (suc n) [] = refl
partly_length {A} f (suc n) (x ∷ xs) = ap suc (partly_length f n xs)

-- the number in the place that comes next
pub partly_there : {A : Type 0} (g : ℕ → Option A) (f : A → A) (row : List ℕ) (n : ℕ) (xs : List A) →
    each g row ≡ Some (partly f n xs) → n < length row →
    (x : A) × (slice_get xs n ≡ Some x) × (g (slice_index_or row n 0) ≡ Some x)
partly_there {A} g f row n xs is below =
    let at = each_get g row (partly f n xs) n (slice_index_or row n 0) is (slice_get-get_or row n 0 below) ∙ partly_next f n xs in
    let size : length row ≡ length xs = each_length g row (partly f n xs) is ∙ partly_length f n xs in
    let within : n < length xs = omega arith in
    there (slice_get xs n) (slice_get_some xs n within) at
  where
    slice_get_some : (ys : List A) (k : ℕ) → k < length ys → IsSome (slice_get ys k)
    slice_get_some [] k low = absurd (omega arith)
    slice_get_some (y ∷ ys) zero low = refl
    slice_get_some (y ∷ ys) (suc k) low = let rest : k < length ys = omega arith in slice_get_some ys k rest

    there : (o : Option A) → IsSome o → g (slice_index_or row n 0) ≡ o →
        (x : A) × (o ≡ Some x) × (g (slice_index_or row n 0) ≡ Some x)
    there None some e = absurd (cc)
    there (Some x) some e = (x, refl, e)

-- one more number
pub partly_step : {A : Type 0} (g h : ℕ → Option A) (f : A → A) → ((i : ℕ) (x : A) → g i ≡ Some x → h i ≡ Some x) →
    (row : List ℕ) (n id : ℕ) (xs : List A) (x : A) → each g row ≡ Some (partly f n xs) → slice_get xs n ≡ Some x →
    h id ≡ Some (f x) → each h (slice_set row n id) ≡ Some (partly f (suc n) xs)
partly_step {A} g h f kept row n id xs x is at left =
    each_set h row (partly f n xs) n id (f x) (each_kept g h kept row (partly f n xs) is) left
    ∙ ap (λ (l : List A). Some l) (partly_more f n xs x at)

pub each_none : {A : Type 0} (f : ℕ → Option A) → each f [] ≡ Some []
unfolding each
each_none {A} f = refl

each_pushed : {A : Type 0} (f : ℕ → Option A) (is : List ℕ) (xs : List A) (i : ℕ) (x : A) → each f is ≡ Some xs →
    f i ≡ Some x → each f (is ++ i ∷ []) ≡ Some (xs ++ x ∷ [])
each_pushed {A} f [] xs i x h means =
    let none : [] ≡ xs = same_Some [] xs (sym (each_none f) ∙ h) in
    subst (λ (l : List A). each f (i ∷ []) ≡ Some (l ++ x ∷ [])) none (each_cons f i [] x [] means (each_none f))
each_pushed {A} f (n ∷ is) xs i x h means =
    let p = each_parts f n is xs h in
    subst (λ (l : List A). each f (n ∷ is ++ i ∷ []) ≡ Some (l ++ x ∷ [])) p.4
    (each_cons f n (is ++ i ∷ []) p.0 (p.1 ++ x ∷ []) p.2 (each_pushed f is p.1 i x p.3 means))

-- the row of a state with no hart yet
pub row_begun : (a : Stored) (id : ℕ) (m : List CapValue) → memory_at a id ≡ Some m →
    state_of a (id ∷ []) ≡ Some (record { harts = []; memory = m })
row_begun a id m there = state_made a id [] m [] there (each_none (hart_at a))

abbrev state_with_harts : List HartState → List CapValue → MachineState
state_with_harts hs m = record { harts = hs; memory = m }

-- one more hart
pub row_pushed : (a b : Stored) → Keeps a b → (row : List ℕ) (hs : List HartState) (m : List CapValue) (id : ℕ) (h : HartState) →
    state_of a row ≡ Some (record { harts = hs; memory = m }) → hart_at b id ≡ Some h →
    state_of b (row ++ id ∷ []) ≡ Some (record { harts = hs ++ h ∷ []; memory = m })
unfolding state_of
row_pushed a b keeps [] hs m id h is there = absurd (none-some (state_with_harts hs m) is)
row_pushed a b keeps (n ∷ ids) hs m id h is there =
    let p = state_parts a n ids (record { harts = hs; memory = m }) is in
    state_made b n (ids ++ id ∷ []) m (hs ++ h ∷ []) (memory_at_kept a b keeps n m p.0)
    (each_pushed (hart_at b) ids hs id h (each_kept (hart_at a) (hart_at b) (hart_at_kept a b keeps) ids hs p.1) there)

-- what a sweep does to a value
pub swept_stays : (lo hi : ℕ) (v : CapValue) → is_in_sweep lo hi v ≡ false → swept lo hi v ≡ v
unfolding swept
swept_stays lo hi v out = ap (λ (b : Bool). if b then clear_tag v else v) out

pub swept_clears : (lo hi : ℕ) (v w : CapValue) → v ≡ w → is_in_sweep lo hi v ≡ true → swept lo hi v ≡ clear_tag w
unfolding swept
swept_clears lo hi v w same within = ap (λ (b : Bool). if b then clear_tag v else v) within ∙ ap clear_tag same

-- a row that was changed through a slice of all of it
pub row_back : (n : ℕ) (new old : List ℕ) → n ≡ length new → take n (new ++ drop (length new) old) ≡ new
row_back n new old same =
    ap (λ (k : ℕ). take k (new ++ drop (length new) old)) same ∙ take_at new (drop (length new) old) (length new) refl

-- a memory whose row was changed in a store that learned more
pub memory_moved : (a b c : Stored) → Keeps a b → Keeps b c → c.values ≡ b.values → (memory id : ℕ) (row row' : List ℕ)
    (m m' : List CapValue) → slice_get a.memories memory ≡ Some row → memory_at a memory ≡ Some m →
    length row' ≡ length row → each (slice_get b.values) row' ≡ Some m' → slice_get c.memories id ≡ Some row' →
    memory_at c id ≡ Some m'
memory_moved a b c first second same memory id row row' m m' at is size changed left =
    memory_at_made c id row' m' left
    (size ∙ ((row_of_memory a memory row m is at).0 ∙ (sym first.granules ∙ sym second.granules)))
    (ap (λ (vs : List CapValue). each (slice_get vs) row') same ∙ changed)
