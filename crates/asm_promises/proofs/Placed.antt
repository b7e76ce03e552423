-- Where chunks are placed: each ends before what is taken ends, and nothing wraps.
use Rattle.std.proofs.Common.{◌≡◌, ℕ, zero, suc, ◌+◌, ◌-◌, ◌*◌, ◌%◌, ◌^◌, ◌<◌, ◌≤◌, ◌==◌, ◌⊎◌, inl, inr, max, nat_lt, Bool, true, false, cond, List, [], ◌∷◌, length, replicate, slice_index_or, slice_set, All, refl, sym, ap, ◌∙◌, subst, lit≤, arith}
use Rattle.std.specs.Prelude.{◌&&◌}
use Rattle.std.proofs.Math.ListN.{length-set}
use Rattle.std.proofs.Math.Nat.{mod-le}
use Rattle.std.proofs.lemmas.Bool.Decides.{nat_tests}
use Rattle.std.proofs.lemmas.List.{length-replicate, get_or-set_same}
use Rattle.cap_model.specs.bounds.Alignment.{length_at_zero, representable_length}
use Rattle.cap_model.specs.bounds.Numbers.{round_up}
use Rattle.cap_model.specs.bounds.Rounding.{rounded_top}
use Rattle.cap_model.proofs.Rounding.Multiples.{round_up_least, multiple_of_lower_power}
use Rattle.cap_model.proofs.Rounding.Roundings.{rounding_bits, rounding_bits_at_most, rounded_top_is}
use Rattle.std.proofs.lemmas.Nat.{pow_pos}
use Rattle.cheri_model.specs.declared.code.TheConstants.{CODE_BASE}
use Rattle.cheri_model.specs.declared.memory.TheConstants.{RAM_BASE, GRANULE_BYTES}
use Rattle.asm_capabilities.specs.Capabilities.{table_length}
use Rattle.asm_chunks.specs.Chunks.{no_chunk}
use Rattle.asm_layout.specs.declared.chunk.Chunk.{Chunk}
use Rattle.asm_layout.specs.declared.chunk.ChunkKind.{ChunkKind}
use Rattle.asm_layout.specs.declared.chunk.ChunkKind.TheVariants as kinds
use Rattle.asm_layout.specs.Placement.{next_multiple, padding, rank, alignment_of, PlacementParts, start_of, placed, placed_if, all_placed}
use Rattle.asm_layout.specs.Layout.{LayoutParts, opening, at_memory, code_placed, memory_placed, layout_of}
use Rattle.asm_late.specs.Reach.{instructions_to}
use Rattle.asm_promises.proofs.Listed.{Member}
use Rattle.asm_promises.proofs.Sizes.{set_or, IsSmallChunk, size_at, chunk_small}
use Rattle.asm_promises.proofs.Untouched.{memory_keeps}

-- ---- one chunk

-- where a chunk begins
abbrev pub place_at : PlacementParts → ℕ → ℕ
place_at p number = slice_index_or p.addresses number 0

-- each chunk ends before what is taken ends
pub record EndBefore (chunks : List Chunk) (p : PlacementParts) : Type 0 where
  pub ends : (number : ℕ) → place_at p number + size_at chunks number ≤ p.end

-- chunks that are placed share no byte
abbrev pub AreApart : List Chunk → List ℕ → Type 0
AreApart chunks addresses =
    (one other : ℕ) → (one ≡ other → ⊥) → CODE_BASE ≤ slice_index_or addresses one 0 → CODE_BASE ≤ slice_index_or addresses other 0
    → (slice_index_or addresses one 0 + size_at chunks one ≤ slice_index_or addresses other 0) ⊎ (slice_index_or addresses other 0 + size_at chunks other ≤ slice_index_or addresses one 0)

-- so many chunks more are placed
pub record Goes (chunks : List Chunk) (count : ℕ) (p q : PlacementParts) : Type 0 where
  pub grows : p.end ≤ q.end
  pub near : q.end ≤ p.end + count * 2 ^ 21
  pub keeps : EndBefore chunks p → EndBefore chunks q
  pub behind : (from number : ℕ) → from ≤ p.end → from ≤ place_at p number → from ≤ place_at q number
  pub apart : EndBefore chunks p → AreApart chunks p.addresses → AreApart chunks q.addresses
  pub count_is : length q.addresses ≡ length p.addresses

unit_by : (test : Bool) (align : ℕ) → align ≤ 2 ^ 20 → (1 ≤ cond test 1 (max align 1)) × (cond test 1 (max align 1) ≤ 2 ^ 20)
unit_by true align h = (lit≤ tt, lit≤ tt)
unit_by false align h = (omega arith, omega arith)

unit_small : (chunk : Chunk) → IsSmallChunk chunk → (1 ≤ alignment_of chunk) × (alignment_of chunk ≤ 2 ^ 20)
unfolding alignment_of
unit_small chunk h = unit_by _ chunk.align h.align

pad_small : (none : Bool) (addr unit : ℕ) → (addr % unit == 0) ≡ none → cond none 0 (unit - addr % unit) ≤ unit
pad_small true addr unit e = omega arith
pad_small false addr unit e = omega arith

pub next_small : (addr unit : ℕ) → next_multiple addr unit ≤ addr + unit
next_small addr unit =
    let pad = pad_small (addr % unit == 0) addr unit refl in
    let less = mod-le (addr + padding addr unit) (2 ^ 64) in
    omega arith

-- the next multiple is no less, where nothing wraps
next_least : (addr unit : ℕ) → addr + unit < 2 ^ 64 → addr ≤ next_multiple addr unit
next_least addr unit room =
    let pad : padding addr unit ≤ unit = pad_small (addr % unit == 0) addr unit refl in
    omega arith

whole : (a b : ℕ) → a + b < 2 ^ 64 → (a + b) % 2 ^ 64 ≡ a + b
whole a b room = omega arith

-- a kind of data
abbrev pub IsData : ChunkKind → Type 0
IsData kinds.Code = ⊥
IsData kinds.Dropped = ⊥
IsData _ = Unit {0}

module _ (chunks : List Chunk) (small : All IsSmallChunk chunks) where
  stays : (p : PlacementParts) → Goes chunks 1 p p
  stays p = record { grows = omega arith; near = omega arith; keeps = λ h. h; behind = λ from n h k. k; apart = λ h k. k; count_is = refl }

  apart_step : (p : PlacementParts) (number start : ℕ) → p.end ≤ start → EndBefore chunks p → AreApart chunks p.addresses → AreApart chunks (slice_set p.addresses number start)
  apart_step p number start least h apart one other differ from_one from_other =
      let end_one = h.ends one in
      let end_other = h.ends other in
      elim (set_or p.addresses number start one 0) [
        | inl same_one ↦ (elim (set_or p.addresses number start other 0) [
          | inl same_other ↦ (elim (apart one other differ (omega arith) (omega arith)) [
            | inl first ↦ inl (omega arith)
            | inr later ↦ inr (omega arith)
          ])
          | inr there_other ↦ (let place_other = there_other.1 in inl (omega arith))
        ])
        | inr there_one ↦
            (let place_one = there_one.1 in
            elim (set_or p.addresses number start other 0) [
              | inl same_other ↦ inr (omega arith)
              | inr there_other ↦ absurd (differ (there_one.0 ∙ sym there_other.0))
            ])
      ]

  placed_goes : (p : PlacementParts) (number : ℕ) → p.end + 2 ^ 21 < 2 ^ 64 → Goes chunks 1 p (placed p number (slice_index_or chunks number no_chunk))
  unfolding placed
  placed_goes p number room =
      let chunk : Chunk = slice_index_or chunks number no_chunk in
      let is_small = chunk_small chunks number small in
      let size = is_small.size in
      let unit = unit_small chunk is_small in
      let most = unit.1 in
      let start : ℕ = start_of p chunk in
      let near : start ≤ p.end + alignment_of chunk = next_small p.end (alignment_of chunk) in
      let least : p.end ≤ start = next_least p.end (alignment_of chunk) (omega arith) in
      let is : (start + chunk.size) % 2 ^ 64 ≡ start + chunk.size = whole start chunk.size (omega arith) in
      record {
        grows = omega arith;
        near = omega arith;
        keeps = λ h. record {
          ends = λ n. elim (set_or p.addresses number start n 0) [
            | inl same ↦ (let before = h.ends n in omega arith)
            | inr there ↦
                (let size_is : size_at chunks n ≡ chunk.size = ap (size_at chunks) there.0 in
                let place_is = there.1 in
                omega arith)
          ];
        };
        behind = λ from n h k. elim (set_or p.addresses number start n 0) [
          | inl same ↦ omega arith
          | inr there ↦ (let place_is = there.1 in omega arith)
        ];
        apart = λ h k. apart_step p number start least h k;
        count_is = length-set p.addresses number start;
      }

  if_goes : (test : Bool) (p : PlacementParts) (number : ℕ) → p.end + 2 ^ 21 < 2 ^ 64
      → Goes chunks 1 p (cond test (placed p number (slice_index_or chunks number no_chunk)) p)
  if_goes true p number room = placed_goes p number room
  if_goes false p number room = stays p

  all_go : (kind : ChunkKind) (order : List ℕ) (p : PlacementParts) → p.end + length order * 2 ^ 21 < 2 ^ 64 → Goes chunks (length order) p (all_placed kind chunks p order)
  unfolding placed_if
  all_go kind [] p room = record { grows = omega arith; near = omega arith; keeps = λ h. h; behind = λ from n h k. k; apart = λ h k. k; count_is = refl }
  all_go kind (number ∷ order) p room =
      let next : PlacementParts = placed_if kind chunks p number in
      let first : Goes chunks 1 p next = if_goes _ p number (omega arith) in
      let grows = first.grows in
      let near = first.near in
      let rest = all_go kind order next (omega arith) in
      let more = rest.grows in
      let close = rest.near in
      record {
        grows = omega arith;
        near = omega arith;
        keeps = λ h. rest.keeps (first.keeps h);
        behind = λ from n h k. rest.behind from n (omega arith) (first.behind from n h k);
        apart = λ h k. rest.apart (first.keeps h) (first.apart h k);
        count_is = rest.count_is ∙ first.count_is;
      }

  -- a chunk that is placed begins no earlier than memory is taken
  here_by : (one two : Bool) (p : PlacementParts) (number : ℕ) (chunk : Chunk) → one ≡ true → two ≡ true → number < length p.addresses
      → place_at (cond (one && two) (placed p number chunk) p) number ≡ start_of p chunk
  unfolding placed
  here_by true true p number chunk a b less = get_or-set_same p.addresses number (start_of p chunk) 0 less
  here_by true false p number chunk a b less = absurd (cc)
  here_by false two p number chunk a b less = absurd (cc)

  placed_behind : (kind : ChunkKind) (order : List ℕ) (p : PlacementParts) (number : ℕ) → p.end + length order * 2 ^ 21 < 2 ^ 64 → Member number order → number < length chunks
      → (rank (slice_index_or chunks number no_chunk).kind == rank kind) ≡ true → length p.addresses ≡ length chunks → p.end ≤ place_at (all_placed kind chunks p order) number
  unfolding placed_if
  placed_behind kind [] p number room member less same count = absurd member
  placed_behind kind (first ∷ order) p number room (inl is) less same count =
      let next : PlacementParts = placed_if kind chunks p first in
      let chunk : Chunk = slice_index_or chunks number no_chunk in
      let go : Goes chunks 1 p next = if_goes _ p first (omega arith) in
      let grows = go.grows in
      let near = go.near in
      let there : nat_lt number (length chunks) ≡ true = grind (arith, nat_tests) in
      let here : place_at (placed_if kind chunks p number) number ≡ start_of p chunk =
      here_by (nat_lt number (length chunks)) (rank (slice_index_or chunks number no_chunk).kind == rank kind) p number chunk there same (omega arith) in
      let at : place_at next number ≡ start_of p chunk = ap (λ (n : ℕ). place_at (placed_if kind chunks p n) number) is ∙ here in
      let is_small = chunk_small chunks number small in
      let unit = unit_small chunk is_small in
      let most = unit.1 in
      let least : p.end ≤ start_of p chunk = next_least p.end (alignment_of chunk) (omega arith) in
      let rest = all_go kind order next (omega arith) in
      rest.behind p.end number grows (omega arith)
  placed_behind kind (first ∷ order) p number room (inr later) less same count =
      let next : PlacementParts = placed_if kind chunks p first in
      let go : Goes chunks 1 p next = if_goes _ p first (omega arith) in
      let grows = go.grows in
      let near = go.near in
      let behind = placed_behind kind order next number (omega arith) later less same (go.count_is ∙ count) in
      omega arith

  memory_goes : (order : List ℕ) (p : PlacementParts) → p.end + 4 * length order * 2 ^ 21 < 2 ^ 64 → Goes chunks (4 * length order) p (memory_placed chunks order p)
  unfolding memory_placed
  memory_goes order p room =
      let n = length order in
      let a : PlacementParts = all_placed kinds.ReadOnly chunks p order in
      let go_a : Goes chunks n p a = all_go kinds.ReadOnly order p (omega arith) in
      let near_a = go_a.near in
      let b : PlacementParts = all_placed kinds.ReadWrite chunks a order in
      let go_b : Goes chunks n a b = all_go kinds.ReadWrite order a (omega arith) in
      let near_b = go_b.near in
      let c : PlacementParts = all_placed kinds.Zeros chunks b order in
      let go_c : Goes chunks n b c = all_go kinds.Zeros order b (omega arith) in
      let near_c = go_c.near in
      let d : PlacementParts = all_placed kinds.Common chunks c order in
      let go_d : Goes chunks n c d = all_go kinds.Common order c (omega arith) in
      let near_d = go_d.near in
      let grow_a = go_a.grows in
      let grow_b = go_b.grows in
      let grow_c = go_c.grows in
      let grow_d = go_d.grows in
      record {
        grows = omega arith;
        near = omega arith;
        keeps = λ h. go_d.keeps (go_c.keeps (go_b.keeps (go_a.keeps h)));
        behind = λ from n h k. go_d.behind from n (omega arith) (go_c.behind from n (omega arith) (go_b.behind from n (omega arith) (go_a.behind from n h k)));
        apart = λ h k.
            (let at_a = go_a.keeps h in
            let at_b = go_b.keeps at_a in
            let at_c = go_c.keeps at_b in
            go_d.apart at_c (go_c.apart at_b (go_b.apart at_a (go_a.apart h k))));
        count_is = go_d.count_is ∙ (go_c.count_is ∙ (go_b.count_is ∙ go_a.count_is));
      }

  same_kind : (number : ℕ) (kind : ChunkKind) → (slice_index_or chunks number no_chunk).kind ≡ kind → (rank kind == rank kind) ≡ true
      → (rank (slice_index_or chunks number no_chunk).kind == rank kind) ≡ true
  same_kind number kind k t = ap (λ (c : ChunkKind). rank c == rank kind) k ∙ t

  by_kind : (A : Type 0) (number : ℕ) (kind : ChunkKind) → (slice_index_or chunks number no_chunk).kind ≡ kind → IsData kind
      → ((slice_index_or chunks number no_chunk).kind ≡ kinds.ReadOnly → A) → ((slice_index_or chunks number no_chunk).kind ≡ kinds.ReadWrite → A)
      → ((slice_index_or chunks number no_chunk).kind ≡ kinds.Zeros → A) → ((slice_index_or chunks number no_chunk).kind ≡ kinds.Common → A) → A
  by_kind A number kinds.ReadOnly k there a b c d = a k
  by_kind A number kinds.ReadWrite k there a b c d = b k
  by_kind A number kinds.Zeros k there a b c d = c k
  by_kind A number kinds.Common k there a b c d = d k
  by_kind A number kinds.Code k there a b c d = absurd there
  by_kind A number kinds.Dropped k there a b c d = absurd there

  data_behind : (order : List ℕ) (p : PlacementParts) (number : ℕ) (kind : ChunkKind) → p.end + 4 * length order * 2 ^ 21 < 2 ^ 64 → Member number order → number < length chunks
      → (slice_index_or chunks number no_chunk).kind ≡ kind → IsData kind → length p.addresses ≡ length chunks → p.end ≤ place_at (memory_placed chunks order p) number
  unfolding memory_placed
  data_behind order p number kind room member less k there count =
      let n = length order in
      let a : PlacementParts = all_placed kinds.ReadOnly chunks p order in
      let go_a : Goes chunks n p a = all_go kinds.ReadOnly order p (omega arith) in
      let near_a = go_a.near in
      let grow_a = go_a.grows in
      let b : PlacementParts = all_placed kinds.ReadWrite chunks a order in
      let go_b : Goes chunks n a b = all_go kinds.ReadWrite order a (omega arith) in
      let near_b = go_b.near in
      let grow_b = go_b.grows in
      let c : PlacementParts = all_placed kinds.Zeros chunks b order in
      let go_c : Goes chunks n b c = all_go kinds.Zeros order b (omega arith) in
      let near_c = go_c.near in
      let grow_c = go_c.grows in
      let d : PlacementParts = all_placed kinds.Common chunks c order in
      let go_d : Goes chunks n c d = all_go kinds.Common order c (omega arith) in
      let after_c : p.end ≤ place_at c number → p.end ≤ place_at d number = λ h. go_d.behind p.end number (omega arith) h in
      let after_b : p.end ≤ place_at b number → p.end ≤ place_at d number = λ h. after_c (go_c.behind p.end number (omega arith) h) in
      let after_a : p.end ≤ place_at a number → p.end ≤ place_at d number = λ h. after_b (go_b.behind p.end number (omega arith) h) in
      let read : (slice_index_or chunks number no_chunk).kind ≡ kinds.ReadOnly → p.end ≤ place_at d number =
      λ e. after_a (placed_behind kinds.ReadOnly order p number (omega arith) member less (same_kind number kinds.ReadOnly e refl) count) in
      let written : (slice_index_or chunks number no_chunk).kind ≡ kinds.ReadWrite → p.end ≤ place_at d number =
      λ e. (let placed_there = placed_behind kinds.ReadWrite order a number (omega arith) member less (same_kind number kinds.ReadWrite e refl) (go_a.count_is ∙ count) in after_b (omega arith)) in
      let zeros : (slice_index_or chunks number no_chunk).kind ≡ kinds.Zeros → p.end ≤ place_at d number =
      λ e. (let placed_there = placed_behind kinds.Zeros order b number (omega arith) member less (same_kind number kinds.Zeros e refl) (go_b.count_is ∙ (go_a.count_is ∙ count)) in after_c (omega arith)) in
      let common : (slice_index_or chunks number no_chunk).kind ≡ kinds.Common → p.end ≤ place_at d number =
      λ e. (let placed_there = placed_behind kinds.Common order c number (omega arith) member less (same_kind number kinds.Common e refl) (go_c.count_is ∙ (go_b.count_is ∙ (go_a.count_is ∙ count))) in omega arith) in
      by_kind (p.end ≤ place_at d number) number kind k there read written zeros common

-- ---- the capability table

top_small : (n : ℕ) → n ≤ 2 ^ 56 → rounded_top 0 n ≤ 2 ^ 56
top_small n h =
    let bits = rounding_bits 0 n in
    let few : bits ≤ 55 = rounding_bits_at_most 0 n (omega arith) in
    let even : 2 ^ 56 % 2 ^ 56 ≡ 0 = refl in
    let multiple : 2 ^ 56 % 2 ^ bits ≡ 0 = multiple_of_lower_power bits 56 (2 ^ 56) (omega arith) even in
    let least : round_up (2 ^ bits) (0 + n) ≤ 2 ^ 56 = round_up_least (2 ^ bits) (2 ^ 56) (0 + n) (pow_pos bits) multiple (omega arith) in
    subst (λ (k : ℕ). k ≤ 2 ^ 56) (sym (rounded_top_is 0 n)) least

table_small : (entries : ℕ) → entries ≤ 2 ^ 52 → table_length entries ≤ 2 ^ 56
unfolding table_length representable_length
table_small entries h =
    let top = top_small (GRANULE_BYTES * entries) (omega arith) in
    let less = mod-le (length_at_zero (GRANULE_BYTES * entries)) (2 ^ 64) in
    omega arith

-- ---- the layout

abbrev IsNone : ℕ → Type 0
IsNone n = n ≡ 0

no_place : (count number : ℕ) → IsNone (slice_index_or (replicate count 0) number 0)
no_place zero number = refl
no_place (suc count) zero = refl
no_place (suc count) (suc number) = no_place count number

opening_ends : (chunks : List Chunk) → All IsSmallChunk chunks → EndBefore chunks (opening (length chunks))
opening_ends chunks small =
    record {
      ends = λ number.
          (let none = no_place (length chunks) number in
          let is_small = chunk_small chunks number small in
          let size = is_small.size in
          omega arith);
    }

opening_apart : (chunks : List Chunk) → AreApart chunks (replicate (length chunks) 0)
opening_apart chunks one other differ from_one from_other = let none = no_place (length chunks) one in absurd (omega arith)

-- where a layout has everything: behind the table, and before its end
pub record IsLaid (chunks : List Chunk) (order : List ℕ) (entries : ℕ) (layout : LayoutParts) : Type 0 where
  pub starts : (number : ℕ) → Member number order → number < length chunks → IsData (slice_index_or chunks number no_chunk).kind
      → RAM_BASE + table_length entries ≤ slice_index_or layout.addresses number 0
  pub code : (number : ℕ) → Member number order → number < length chunks → (rank (slice_index_or chunks number no_chunk).kind == rank kinds.Code) ≡ true
      → CODE_BASE ≤ slice_index_or layout.addresses number 0
  pub code_inside : (number : ℕ) → (rank (slice_index_or chunks number no_chunk).kind == rank kinds.Code) ≡ true
      → slice_index_or layout.addresses number 0 + size_at chunks number ≤ layout.code_end
  pub code_end : (CODE_BASE ≤ layout.code_end) × (layout.code_end ≤ RAM_BASE)
  pub apart : AreApart chunks layout.addresses
  pub count : length layout.addresses ≡ length chunks
  pub ends : (number : ℕ) → slice_index_or layout.addresses number 0 + size_at chunks number ≤ layout.memory_end
  pub begins : RAM_BASE + table_length entries ≤ layout.memory_end
  pub low : layout.memory_end < 2 ^ 64

code_near : (end : ℕ) → CODE_BASE ≤ end → end < 2 ^ 64 → instructions_to end ≤ 16384 → end ≤ RAM_BASE
code_near end h low few = omega arith

pub laid : (chunks : List Chunk) (order : List ℕ) (entries : ℕ) → All IsSmallChunk chunks → length order ≤ 2 ^ 34 → entries ≤ 2 ^ 52
    → instructions_to (layout_of chunks order entries).code_end ≤ 16384 → IsLaid chunks order entries (layout_of chunks order entries)
unfolding layout_of code_placed
laid chunks order entries small few most code =
    let n = length order in
    let first : PlacementParts = opening (length chunks) in
    let coded : PlacementParts = all_placed kinds.Code chunks first order in
    let go : Goes chunks n first coded = all_go chunks small kinds.Code order first (omega arith) in
    let grows = go.grows in
    let near = go.near in
    let code_end : coded.end ≤ RAM_BASE = code_near coded.end (omega arith) (omega arith) code in
    let table = table_small entries most in
    let begin : PlacementParts = at_memory entries coded in
    let begin_is : begin.end ≡ RAM_BASE + table_length entries = omega arith in
    let coded_ends = go.keeps (opening_ends chunks small) in
    let begin_ends : EndBefore chunks begin = record { ends = λ number. (let before = coded_ends.ends number in omega arith) } in
    let placed_all : PlacementParts = memory_placed chunks order begin in
    let goes : Goes chunks (4 * n) begin placed_all = memory_goes chunks small order begin (omega arith) in
    let more = goes.grows in
    let close = goes.near in
    let there = goes.keeps begin_ends in
    let opened : length first.addresses ≡ length chunks = length-replicate (length chunks) 0 in
    let count : length begin.addresses ≡ length chunks = go.count_is ∙ opened in
    record {
      starts = λ number member less is_data.
          (let behind = data_behind chunks small order begin number (slice_index_or chunks number no_chunk).kind (omega arith) member less refl is_data count in omega arith);
      code = λ number member less is_code.
          (let behind = placed_behind chunks small kinds.Code order first number (omega arith) member less is_code opened in
          goes.behind CODE_BASE number (omega arith) (omega arith));
      code_inside = λ number is_code. (let before = coded_ends.ends number in let same = memory_keeps chunks order begin number is_code in omega arith);
      code_end = (omega arith, code_end);
      apart = goes.apart begin_ends (go.apart (opening_ends chunks small) (opening_apart chunks));
      count = goes.count_is ∙ count;
      ends = there.ends;
      begins = omega arith;
      low = omega arith;
    }
