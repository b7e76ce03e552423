-- Sweeps over the bitmap of tags: parts one after another, and what the whole leaves.
use Rattle.std.proofs.Common.{◌≡◌, ◌≢◌, ℕ, zero, suc, ◌+◌, ◌-◌, ◌*◌, ◌/◌, ◌%◌, ◌^◌, ◌<◌, ◌≤◌, Bool, true, false, List, ◌∷◌, length, inl, inr, arith, refl, sym, ◌∙◌}
use Rattle.std.specs.Prelude.{min, ◌++◌, map, count_by, slice_index_or}
use Rattle.std.proofs.lemmas.Bool.{cases_lt, cases_Bool, false≢true}
use Rattle.std.proofs.lemmas.List.Sums.{sum_by-append, count_by-le-length}
use Rattle.cap_model.specs.values.CapValue.{tag_of, value_at, IsTaggedWord}
use Rattle.cap_model.specs.values.ValueFacts.{bits_of-value_at, tag_of-value_at}
use Rattle.cap_model.specs.results.Readings.{number_of}
use Rattle.cap_model.specs.results.Swept.{is_in_sweep, swept}
use Rattle.cheri_model.specs.runs.Sweeps.{swept_memory, cleared_in_memory}
use Rattle.tagged_mem.specs.Packed.{number_at, tag_at, packed_at, granules_from, unpacked_memory, IsPackedRam}
use Rattle.tagged_mem.specs.SweptTags.{cleared_between, IsSweptBetween}
use Rattle.tagged_mem.proofs.PackedBytes.{length-granules_from, granules_same}

module _ (lo hi : ℕ) where
  -- the word of a swept value may have the tag that it is left
  tag_left : (tag : Bool) (word : ℕ) → IsTaggedWord tag word → IsTaggedWord (tag_of (swept lo hi (value_at tag word))) word
  unfolding swept
  tag_left tag word h = elim (cases_Bool (is_in_sweep lo hi (value_at tag word))) [
    | inl cleared ↦ rw cleared (record { below = h.below; encoded = λ e. absurd (false≢true e) })
    | inr kept ↦ rw (kept, tag_of-value_at tag word) h
  ]

  -- and with it is the swept value
  value_left : (tag : Bool) (word : ℕ) → IsTaggedWord tag word → value_at (tag_of (swept lo hi (value_at tag word))) word ≡ swept lo hi (value_at tag word)
  unfolding swept
  value_left tag word h = elim (cases_Bool (is_in_sweep lo hi (value_at tag word))) [
    | inl cleared ↦ rw (cleared, bits_of-value_at tag word h) refl
    | inr kept ↦ rw (kept, tag_of-value_at tag word) refl
  ]

  module _ (bytes : List ℕ) where
    -- RAM stays packed
    pub packed_swept : (old new : List ℕ) (from to : ℕ) → IsPackedRam bytes old → IsSweptBetween lo hi bytes old new from to → IsPackedRam bytes new
    packed_swept old new from to h s = record {
      size = h.size;
      room = rw s.size h.room;
      octets = h.octets;
      tagged = λ k. elim (cases_lt k from) [
        | inl before ↦ rw (s.below k before) (h.tagged k)
        | inr at ↦ elim (cases_lt k to) [
          | inl within ↦ rw (s.inside k at within) (tag_left (tag_at old k) (number_at bytes (16 * k) 16) (h.tagged k))
          | inr past ↦ rw (s.above k past) (h.tagged k)
        ]
      ];
    }

    -- nothing of no granules
    pub none_swept : (tags : List ℕ) (from : ℕ) → IsSweptBetween lo hi bytes tags tags from from
    none_swept tags from = record { size = refl; below = λ k before. refl; inside = λ k at within. absurd (omega arith); above = λ k past. refl }

    -- one part after another
    pub joined : (old mid new : List ℕ) (a b c : ℕ) → a ≤ b → b ≤ c → IsSweptBetween lo hi bytes old mid a b → IsSweptBetween lo hi bytes mid new b c →
        IsSweptBetween lo hi bytes old new a c
    joined old mid new a b c first second s t = record {
      size = t.size ∙ s.size;
      below = λ k before. t.below k (omega arith) ∙ s.below k before;
      inside = λ k at within. elim (cases_lt k b) [
        | inl early ↦ t.below k early ∙ s.inside k at early
        | inr late ↦ rw (s.above k late) at (t.inside k late within)
      ];
      above = λ k past. t.above k past ∙ s.above k (omega arith);
    }

    granules_split : (tags : List ℕ) (k m n : ℕ) → granules_from bytes tags k (m + n) ≡ granules_from bytes tags k m ++ granules_from bytes tags (k + m) n
    unfolding granules_from
    granules_split tags k zero n = let none : 0 + n ≡ n = omega arith in let same : k + 0 ≡ k = omega arith in rw (none, same) refl
    granules_split tags k (suc m) n =
        let rest = granules_split tags (suc k) m n in
        let sum : suc m + n ≡ suc (m + n) = omega arith in
        let place : suc k + m ≡ k + suc m = omega arith in
        rw (sum, rest, place) refl

    pub cleared_joined : (old mid : List ℕ) (a b c : ℕ) → a ≤ b → b ≤ c → IsSweptBetween lo hi bytes old mid a b →
        cleared_between lo hi bytes old a b + cleared_between lo hi bytes mid b c ≡ cleared_between lo hi bytes old a c
    unfolding cleared_between cleared_in_memory
    cleared_joined old mid a b c first second s =
        let sum : c - a ≡ (b - a) + (c - b) = omega arith in
        let place : a + (b - a) ≡ b = omega arith in
        let split = rw place at (granules_split old a (b - a) (c - b)) in
        let same = granules_same bytes mid bytes old b (c - b) (λ j at within. rw (s.above j at) refl) in
        rw (sum, split, same) (sym (sum_by-append _ (granules_from bytes old a (b - a)) (granules_from bytes old b (c - b))))

    -- at most as many as there are
    pub cleared_most : (tags : List ℕ) (from to : ℕ) → cleared_between lo hi bytes tags from to ≤ to - from
    unfolding cleared_between cleared_in_memory
    cleared_most tags from to =
        rw (length-granules_from bytes tags from (to - from)) at (count_by-le-length (is_in_sweep lo hi) (granules_from bytes tags from (to - from)))

    pub cleared_none : (tags : List ℕ) (from : ℕ) → cleared_between lo hi bytes tags from from ≡ 0
    unfolding cleared_between cleared_in_memory granules_from
    cleared_none tags from = let none : from - from ≡ 0 = omega arith in rw none refl

    -- the memory that a sweep of all granules leaves
    swept_from : (old new : List ℕ) (k n : ℕ) → IsPackedRam bytes old → ((j : ℕ) → k ≤ j → j < k + n → tag_at new j ≡ tag_of (swept lo hi (packed_at bytes old j))) →
        granules_from bytes new k n ≡ map (swept lo hi) (granules_from bytes old k n)
    unfolding granules_from
    swept_from old new k zero h each = refl
    swept_from old new k (suc n) h each =
        let first : packed_at bytes new k ≡ swept lo hi (packed_at bytes old k) = rw (each k (omega arith) (omega arith)) (value_left (tag_at old k) (number_at bytes (16 * k) 16) (h.tagged k)) in
        let rest = swept_from old new (suc k) n h (λ j at within. each j (omega arith) (omega arith)) in
        λ i. first i ∷ rest i

    pub memory_swept : (old new : List ℕ) → IsPackedRam bytes old → IsSweptBetween lo hi bytes old new 0 (length bytes / 16) →
        unpacked_memory bytes new ≡ swept_memory lo hi (unpacked_memory bytes old)
    unfolding swept_memory
    memory_swept old new h s = swept_from old new 0 (length bytes / 16) h (λ j at within. s.inside j at (omega arith))

    pub all_cleared : (tags : List ℕ) → cleared_between lo hi bytes tags 0 (length bytes / 16) ≡ cleared_in_memory lo hi (unpacked_memory bytes tags)
    unfolding cleared_between
    all_cleared tags = let all : length bytes / 16 - 0 ≡ length bytes / 16 = omega arith in rw all refl

    -- one granule, whose tag stays or is cleared
    pub granule_kept : (tags : List ℕ) (g : ℕ) (found : Bool) → found ≡ is_in_sweep lo hi (packed_at bytes tags g) → found ≡ false →
        IsSweptBetween lo hi bytes tags tags g (g + 1)
    unfolding swept
    granule_kept tags g found is none = let kept : is_in_sweep lo hi (packed_at bytes tags g) ≡ false = sym is ∙ none in record {
      size = refl;
      below = λ k before. refl;
      inside = λ k at within. let here : k ≡ g = omega arith in rw (here, kept) (sym (tag_of-value_at (tag_at tags g) (number_at bytes (16 * g) 16)));
      above = λ k past. refl;
    }

    pub granule_cleared : (old new : List ℕ) (g : ℕ) (found : Bool) → found ≡ is_in_sweep lo hi (packed_at bytes old g) → found ≡ true → length new ≡ length old →
        ((k : ℕ) → k ≢ g → tag_at new k ≡ tag_at old k) → tag_at new g ≡ false → IsSweptBetween lo hi bytes old new g (g + 1)
    unfolding swept
    granule_cleared old new g found is one size others there = let cleared : is_in_sweep lo hi (packed_at bytes old g) ≡ true = sym is ∙ one in record {
      size = size;
      below = λ k before. others k (λ e. omega arith);
      inside = λ k at within. let here : k ≡ g = omega arith in rw (here, cleared, there) refl;
      above = λ k past. others k (λ e. omega arith);
    }

    granule_counted : (tags : List ℕ) (g : ℕ) → cleared_between lo hi bytes tags g (g + 1) ≡ number_of (is_in_sweep lo hi (packed_at bytes tags g))
    unfolding cleared_between cleared_in_memory granules_from
    granule_counted tags g =
        let one : g + 1 - g ≡ 1 = omega arith in
        rw one (elim (cases_Bool (is_in_sweep lo hi (packed_at bytes tags g))) [ inl cleared ↦ rw cleared refl | inr kept ↦ rw kept refl ])

    -- one granule more
    pub granule_more : (old mid : List ℕ) (from g : ℕ) → from ≤ g → IsSweptBetween lo hi bytes old mid from g →
        cleared_between lo hi bytes old from g + number_of (is_in_sweep lo hi (packed_at bytes mid g)) ≡ cleared_between lo hi bytes old from (g + 1)
    granule_more old mid from g at s = rw (← granule_counted mid g) (cleared_joined old mid from g (g + 1) at (omega arith) s)

    -- the granules of one byte more, of n in all
    module _ (old mid new : List ℕ) (place n : ℕ) (inside : 8 * place < n) (s : IsSweptBetween lo hi bytes old mid 0 (min (8 * place) n)) where
      here : min (8 * place) n ≡ 8 * place
      here = omega arith

      pub byte_swept : IsSweptBetween lo hi bytes mid new (8 * place) (min (8 * (place + 1)) n) → IsSweptBetween lo hi bytes old new 0 (min (8 * (place + 1)) n)
      byte_swept t = joined old mid new 0 (8 * place) (min (8 * (place + 1)) n) (omega arith) (omega arith) (rw here at s) t

      pub byte_cleared : cleared_between lo hi bytes old 0 (min (8 * place) n) + cleared_between lo hi bytes mid (8 * place) (min (8 * (place + 1)) n)
          ≡ cleared_between lo hi bytes old 0 (min (8 * (place + 1)) n)
      byte_cleared = rw here (cleared_joined old mid 0 (8 * place) (min (8 * (place + 1)) n) (omega arith) (omega arith) (rw here at s))

    -- granules without tags
    module _ (tags : List ℕ) where
      untagged_kept : (k : ℕ) → tag_at tags k ≡ false → is_in_sweep lo hi (packed_at bytes tags k) ≡ false
      untagged_kept k none = rw none refl

      pub untagged_swept : (from to : ℕ) → ((k : ℕ) → from ≤ k → k < to → tag_at tags k ≡ false) → IsSweptBetween lo hi bytes tags tags from to
      unfolding swept
      untagged_swept from to none = record {
        size = refl;
        below = λ k before. refl;
        inside = λ k at within. rw (none k at within) refl;
        above = λ k past. refl;
      }

      untagged_from : (k n : ℕ) → ((j : ℕ) → k ≤ j → j < k + n → tag_at tags j ≡ false) → count_by (is_in_sweep lo hi) (granules_from bytes tags k n) ≡ 0
      unfolding granules_from
      untagged_from k zero none = refl
      untagged_from k (suc n) none =
          let rest = untagged_from (suc k) n (λ j at within. none j (omega arith) (omega arith)) in
          rw (none k (omega arith) (omega arith)) rest

      pub untagged_cleared : (from to : ℕ) → ((k : ℕ) → from ≤ k → k < to → tag_at tags k ≡ false) → cleared_between lo hi bytes tags from to ≡ 0
      unfolding cleared_between cleared_in_memory
      untagged_cleared from to none = untagged_from from (to - from) (λ j at within. none j at (omega arith))

-- a byte of the bitmap that is 0
pub no_tags : (tags : List ℕ) (place k : ℕ) → slice_index_or tags place 0 ≡ 0 → 8 * place ≤ k → k < 8 * (place + 1) → tag_at tags k ≡ false
unfolding tag_at
no_tags tags place k clear at within =
    let here : k / 8 ≡ place = omega arith in
    let digit : 0 / 2 ^ (k % 8) % 2 ≡ 0 = omega arith in
    rw (here, clear, digit) refl
