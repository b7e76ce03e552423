-- Where all that a search by whole turns has met passes a test, what the test leaves out is never met.
use Rattle.std.proofs.Common.{◌≡◌, ℕ, zero, suc, ◌<◌, ◌≤◌, List, [], ◌∷◌, ◌++◌, arith, ap, sym, ◌∙◌, refl, inl, inr, subst}
use Rattle.std.specs.Prelude.{Option, Some, None, option_and_then, unwrap_or, Bool, true, false, ◌&&◌}
use Rattle.std.proofs.lemmas.Bool.{cases_Bool, and_parts, and_from, both_ways}
use Rattle.std.proofs.lemmas.Option.{none-some}
use Rattle.graph_merging.proofs.MergingLemmas.{walk_on, walk_from, some_merged, walk_fits, kept_reachable, found_reachable, loops_kept, loops_found, fair_found}
use Rattle.graph_merging.specs.Merging.{IsMerging, merged}
use Rattle.graph_loops.specs.Loops.{IsFair, IsLoop, Takes}
use Rattle.graph_search.specs.Walks.{after, IsWalk, IsReachable}
use Rattle.own_granules.specs.Rests.{come, rest_one, rest_first, way_passes, ways_pass, together, passing_next}
use Rattle.own_granules.proofs.WayLemmas.{option_cases, come_on, come_none, come_stop, stopped_at, rest_none, rest_some}

-- the same of a search by whole turns, after which all actors are at their rest
pub record AreMetWhole {S : Type 0} (next : S → ℕ → Option S) (step : S → ℕ → S) (plain passes : S → ℕ → Bool)
    (n most : ℕ) (o : S) : Type 0 where
  pub opening : ways_pass step plain passes most n o ≡ true
  pub edges : (s t : S) (l : ℕ) →
      IsReachable (merged next (rest_first step plain most n)) (rest_first step plain most n o) s →
      next s l ≡ Some t → (passes s l ≡ true) × (ways_pass step plain passes most n t ≡ true)

-- what then is so of the graph (next), its part that passes (narrow), and the rests of both
pub record LosesNothing {S : Type 0} (next narrow : S → ℕ → Option S) (wide own : S → S) (n : ℕ) (o : S) : Type 0 where
  pub walks : (s : S) (ls : List ℕ) → IsReachable next o s → after next s ls ≡ after narrow s ls
  pub rests : (s : S) → IsReachable next o s → wide s ≡ own s
  pub turns : (r : S) (ls : List ℕ) → IsReachable (merged next wide) (wide o) r →
      after (merged next wide) r ls ≡ after (merged narrow own) r ls
  pub kept : (r : S) → IsReachable (merged next wide) (wide o) r → IsReachable next o r
  pub found : (s : S) → IsReachable next o s → IsReachable (merged next wide) (wide o) (wide s)
  pub turn_loops : (r : S) (ls : List ℕ) → IsReachable (merged next wide) (wide o) r →
      IsLoop (merged next wide) n r ls →
      (ms : List ℕ) × IsLoop next n r ms × ((m : ℕ) → Takes ls m → Takes ms m)
  pub step_loops : (s : S) (ls : List ℕ) → IsReachable next o s → IsLoop next n s ls →
      (ms : List ℕ) × IsLoop (merged next wide) n (wide s) ms × ((m : ℕ) → m < n → Takes ls m → Takes ms m)
  pub step_fair : (s : S) (ls ms : List ℕ) → IsReachable next o s → IsFair next n s ls →
      ((m : ℕ) → m < n → Takes ls m → Takes ms m) → IsFair (merged next wide) n (wide s) ms

pub reach_on : {S : Type 0} (next : S → ℕ → Option S) (o s t : S) (l : ℕ) → IsReachable next o s → next s l ≡ Some t →
    IsReachable next o t
reach_on next o s t l reached goes =
    (reached.0 ++ (l ∷ []), walk_on next o s t reached.0 (l ∷ []) reached.1 (walk_from next s t t l [] goes refl))

-- two graphs with the same edges wherever the first leads have the same walks there
pub same_after : {S : Type 0} (a b : S → ℕ → Option S) (o : S) →
    ((s : S) (l : ℕ) → IsReachable a o s → a s l ≡ b s l) → (s : S) (ls : List ℕ) → IsReachable a o s →
    after a s ls ≡ after b s ls
same_after a b o same s [] reached = refl
same_after {S} a b o same s (l ∷ ls) reached =
    let edge = same s l reached in
    elim (option_cases (a s l)) [
      | inl none ↦
          ap (option_and_then (λ (t : S). after a t ls)) none
          ∙ sym (ap (option_and_then (λ (t : S). after b t ls)) (sym edge ∙ none))
      | inr some ↦
          ap (option_and_then (λ (t : S). after a t ls)) some.1
          ∙ (same_after a b o same some.0 ls (reach_on a o s some.0 l reached some.1)
          ∙ sym (ap (option_and_then (λ (t : S). after b t ls)) (sym edge ∙ some.1)))
    ]

module _ {S : Type 0} (next : S → ℕ → Option S) (step : S → ℕ → S) (plain passes : S → ℕ → Bool) (n most : ℕ) where
  abbrev quiet : S → ℕ → Bool
  quiet s l = together plain passes s l

  abbrev pub narrow : S → ℕ → Option S
  narrow s l = passing_next next passes s l

  -- the rest by all quiet steps, and by those that pass
  abbrev pub wide_rest : S → S
  wide_rest s = rest_first step plain most n s

  abbrev pub own_rest : S → S
  own_rest s = rest_first step quiet most n s

  abbrev pub wide_turn : S → ℕ → Option S
  wide_turn s l = merged next wide_rest s l

  abbrev pub own_turn : S → ℕ → Option S
  own_turn s l = merged narrow own_rest s l

  narrow_some : (s t : S) (l : ℕ) → narrow s l ≡ Some t → (passes s l ≡ true) × (next s l ≡ Some t)
  unfolding passing_next
  narrow_some s t l goes = elim (cases_Bool (passes s l)) [
    | inl holds ↦ (holds, rw holds at goes)
    | inr fails ↦ let none : narrow s l ≡ None = rw fails in absurd (none-some t (sym none ∙ goes))
  ]

  some_narrow : (s : S) (l : ℕ) → passes s l ≡ true → narrow s l ≡ next s l
  unfolding passing_next
  some_narrow s l holds = rw holds

  no_narrow : (s : S) (l : ℕ) → next s l ≡ None → narrow s l ≡ None
  unfolding passing_next
  no_narrow s l none = elim (cases_Bool (passes s l)) [
    | inl holds ↦ rw (holds, none)
    | inr fails ↦ rw fails
  ]

  loud : (s : S) (l : ℕ) → plain s l ≡ false → quiet s l ≡ false
  loud s l fails = ap (λ (b : Bool). b && passes s l) fails

  -- the test of a way, step by step
  pub way_parts : (k : ℕ) (s : S) (l : ℕ) → plain s l ≡ true → way_passes step plain passes l (suc k) s ≡ true →
      (passes s l ≡ true) × (way_passes step plain passes l k (step s l) ≡ true)
  unfolding way_passes
  way_parts k s l holds pass =
      let both : passes s l && way_passes step plain passes l k (step s l) ≡ true = rw holds at pass in
      and_parts (passes s l) (way_passes step plain passes l k (step s l)) both

  pub way_last : (s : S) (l : ℕ) → plain s l ≡ true → way_passes step plain passes l 0 s ≡ true → passes s l ≡ true
  unfolding way_passes
  way_last s l holds pass = rw holds at pass

  pub same_come : (k : ℕ) (s : S) (l : ℕ) → way_passes step plain passes l k s ≡ true →
      come step quiet l k s ≡ come step plain l k s
  same_come zero s l pass = elim (cases_Bool (plain s l)) [
    | inl holds ↦
        come_none step quiet l s (and_from (plain s l) (passes s l) holds (way_last s l holds pass))
        ∙ sym (come_none step plain l s holds)
    | inr fails ↦ come_stop step quiet l 0 s (loud s l fails) ∙ sym (come_stop step plain l 0 s fails)
  ]
  same_come (suc k) s l pass = elim (cases_Bool (plain s l)) [
    | inl holds ↦
        let parts = way_parts k s l holds pass in
        come_on step quiet l k s (and_from (plain s l) (passes s l) holds parts.0)
        ∙ (same_come k (step s l) l parts.1 ∙ sym (come_on step plain l k s holds))
    | inr fails ↦ come_stop step quiet l (suc k) s (loud s l fails) ∙ sym (come_stop step plain l (suc k) s fails)
  ]

  pub same_first : (i : ℕ) (s : S) → ways_pass step plain passes most i s ≡ true →
      rest_first step quiet most i s ≡ rest_first step plain most i s
  unfolding ways_pass rest_first rest_one
  same_first zero s pass = refl
  same_first (suc i) s pass =
      let there = rest_first step plain most i s in
      let parts = and_parts (ways_pass step plain passes most i s) (way_passes step plain passes i most there) pass in
      ap (λ (x : S). rest_one step quiet most i x) (same_first i s parts.0)
      ∙ ap (λ (x : Option S). unwrap_or x there) (same_come most there i parts.1)

  module _ (fits : S → Bool) (go : S → ℕ → ℕ) (merging : IsMerging narrow n fits own_rest go)
      (blocked : (s t : S) (l : ℕ) → fits s ≡ true → next s l ≡ Some t → passes s l ≡ false →
      (u : S) × (next (own_rest s) l ≡ Some u) × (passes (own_rest s) l ≡ false))
      (quiet_next : (s : S) (l : ℕ) → fits s ≡ true → l < n → plain s l ≡ true → next s l ≡ Some (step s l))
      (o : S) (fit : fits o ≡ true) (met : AreMetWhole next step plain passes n most o) where
    same_start : own_rest o ≡ wide_rest o
    same_start = same_first n o met.opening

    same_turn : (r : S) (l : ℕ) → IsReachable wide_turn (wide_rest o) r → wide_turn r l ≡ own_turn r l
    same_turn r l reached = elim (option_cases (next r l)) [
      | inl none ↦
          let a : wide_turn r l ≡ None = rw none in
          let b : own_turn r l ≡ None = rw (no_narrow r l none) in
          a ∙ sym b
      | inr some ↦
          let edge = met.edges r some.0 l reached some.1 in
          some_merged next wide_rest r some.0 l some.1
          ∙ (ap (λ (x : S). Some x) (sym (same_first n some.0 edge.1))
          ∙ sym (some_merged narrow own_rest r some.0 l (some_narrow r l edge.0 ∙ some.1)))
    ]

    same_turns : (r : S) (ls : List ℕ) → IsReachable wide_turn (wide_rest o) r →
        after wide_turn r ls ≡ after own_turn r ls
    same_turns r ls reached = same_after wide_turn own_turn (wide_rest o) same_turn r ls reached

    -- what own turns reach is reached by all turns
    own_reached : (r : S) → IsReachable own_turn (own_rest o) r → IsReachable wide_turn (wide_rest o) r
    own_reached r reached =
        let walk = subst (λ (x : S). IsWalk own_turn x reached.0 r) same_start reached.1 in
        (reached.0, same_turns (wide_rest o) reached.0 ([], refl) ∙ walk)

    fits_narrow : (s : S) → IsReachable narrow o s → fits s ≡ true
    fits_narrow s reached = walk_fits narrow fits merging.keeps o s reached.0 fit reached.1

    -- so no edge is left out in what the edges that pass reach
    same_edge : (s : S) (l : ℕ) → IsReachable narrow o s → narrow s l ≡ next s l
    same_edge s l reached = elim (cases_Bool (passes s l)) [
      | inl holds ↦ some_narrow s l holds
      | inr fails ↦ elim (option_cases (next s l)) [
        | inl none ↦ no_narrow s l none ∙ sym none
        | inr some ↦
            let at = blocked s some.0 l (fits_narrow s reached) some.1 fails in
            let there = own_reached (own_rest s) (found_reachable narrow n fits own_rest go merging o s fit reached) in
            let edge = met.edges (own_rest s) at.0 l there at.1 in
            absurd (both_ways (passes (own_rest s) l) at.2 edge.0)
      ]
    ]

    passed_reached : (s : S) → IsReachable next o s → IsReachable narrow o s
    passed_reached s reached = (reached.0, same_after narrow next o same_edge o reached.0 ([], refl) ∙ reached.1)

    same_walks : (s : S) (ls : List ℕ) → IsReachable next o s → after next s ls ≡ after narrow s ls
    same_walks s ls reached = sym (same_after narrow next o same_edge s ls (passed_reached s reached))

    -- a quiet step from what is reached passes
    quiet_met : (s : S) (l : ℕ) → l < n → IsReachable next o s → plain s l ≡ true →
        (passes s l ≡ true) × IsReachable next o (step s l)
    quiet_met s l low reached holds =
        let narrowed = passed_reached s reached in
        let goes = quiet_next s l (fits_narrow s narrowed) low holds in
        ((narrow_some s (step s l) l (same_edge s l narrowed ∙ goes)).0, reach_on next o s (step s l) l reached goes)

    way_met : (k : ℕ) (s : S) (l : ℕ) → l < n → IsReachable next o s → way_passes step plain passes l k s ≡ true
    unfolding way_passes
    way_met zero s l low reached = elim (cases_Bool (plain s l)) [
      | inl holds ↦ rw (holds, (quiet_met s l low reached holds).0)
      | inr fails ↦ rw fails
    ]
    way_met (suc k) s l low reached = elim (cases_Bool (plain s l)) [
      | inl holds ↦
          let at = quiet_met s l low reached holds in
          rw holds (and_from (passes s l) (way_passes step plain passes l k (step s l)) at.0
          (way_met k (step s l) l low at.1))
      | inr fails ↦ rw fails
    ]

    way_reached : (k : ℕ) (s g : S) (l : ℕ) → l < n → IsReachable next o s → come step plain l k s ≡ Some g →
        IsReachable next o g
    way_reached zero s g l low reached is = elim (cases_Bool (plain s l)) [
      | inl holds ↦ absurd (none-some g (sym (come_none step plain l s holds) ∙ is))
      | inr fails ↦ subst (λ (x : S). IsReachable next o x) (stopped_at step plain l 0 s g fails is) reached
    ]
    way_reached (suc k) s g l low reached is = elim (cases_Bool (plain s l)) [
      | inl holds ↦
          way_reached k (step s l) g l low (quiet_met s l low reached holds).1
          (sym (come_on step plain l k s holds) ∙ is)
      | inr fails ↦ subst (λ (x : S). IsReachable next o x) (stopped_at step plain l (suc k) s g fails is) reached
    ]

    one_reached : (s : S) (l : ℕ) → l < n → IsReachable next o s → IsReachable next o (rest_one step plain most l s)
    one_reached s l low reached = elim (option_cases (come step plain l most s)) [
      | inl none ↦ subst (λ (x : S). IsReachable next o x) (sym (rest_none step plain l most s none)) reached
      | inr some ↦
          subst (λ (x : S). IsReachable next o x) (sym (rest_some step plain l most s some.0 some.1))
          (way_reached most s some.0 l low reached some.1)
    ]

    first_met : (i : ℕ) (s : S) → i ≤ n → IsReachable next o s →
        IsReachable next o (rest_first step plain most i s) × (ways_pass step plain passes most i s ≡ true)
    unfolding rest_first ways_pass
    first_met zero s low reached = (reached, refl)
    first_met (suc i) s low reached =
        let before = first_met i s (omega (arith, low)) reached in
        let there = rest_first step plain most i s in (
          one_reached there i (omega (arith, low)) before.0,
          and_from (ways_pass step plain passes most i s) (way_passes step plain passes i most there) before.1
              (way_met most there i (omega (arith, low)) before.0),
        )

    same_rests : (s : S) → IsReachable next o s → wide_rest s ≡ own_rest s
    same_rests s reached = sym (same_first n s (first_met n s (omega arith) reached).1)

    -- what all turns reach, and what all edges do
    rests_found : (s : S) → IsReachable next o s → IsReachable wide_turn (wide_rest o) (wide_rest s)
    rests_found s reached =
        let found = found_reachable narrow n fits own_rest go merging o s fit (passed_reached s reached) in
        subst (λ (x : S). IsReachable wide_turn (wide_rest o) x) (sym (same_rests s reached))
        (own_reached (own_rest s) found)

    rests_kept : (r : S) → IsReachable wide_turn (wide_rest o) r → IsReachable next o r
    rests_kept r reached =
        let walk : IsWalk own_turn (wide_rest o) reached.0 r =
        sym (same_turns (wide_rest o) reached.0 ([], refl)) ∙ reached.1 in
        let own = subst (λ (x : S). IsWalk own_turn x reached.0 r) (sym same_start) walk in
        let kept = kept_reachable narrow n fits own_rest go merging o r fit (reached.0, own) in
        (kept.0, same_walks o kept.0 ([], refl) ∙ kept.1)

    fits_reached : (s : S) → IsReachable next o s → fits s ≡ true
    fits_reached s reached = fits_narrow s (passed_reached s reached)

    -- loops of all turns, and of all edges
    turn_loops : (r : S) (ls : List ℕ) → IsReachable wide_turn (wide_rest o) r → IsLoop wide_turn n r ls →
        (ms : List ℕ) × IsLoop next n r ms × ((m : ℕ) → Takes ls m → Takes ms m)
    turn_loops r ls reached loop =
        let there = rests_kept r reached in
        let own : IsLoop own_turn n r ls = (sym (same_turns r ls reached) ∙ loop.0, loop.1) in
        let kept = loops_kept narrow n fits own_rest go merging r ls (fits_reached r there) own in
        (kept.0, (same_walks r kept.0 there ∙ kept.1.0, kept.1.1), kept.2)

    step_loops : (s : S) (ls : List ℕ) → IsReachable next o s → IsLoop next n s ls →
        (ms : List ℕ) × IsLoop wide_turn n (wide_rest s) ms × ((m : ℕ) → m < n → Takes ls m → Takes ms m)
    step_loops s ls reached loop =
        let own : IsLoop narrow n s ls = (sym (same_walks s ls reached) ∙ loop.0, loop.1) in
        let found = loops_found narrow n fits own_rest go merging s ls (fits_reached s reached) own in
        let there = rests_found s reached in
        let walk = subst (λ (x : S). IsWalk own_turn x found.0 x) (sym (same_rests s reached)) found.1.0 in
        (found.0, (same_turns (wide_rest s) found.0 there ∙ walk, found.1.1), found.2)

    step_fair : (s : S) (ls ms : List ℕ) → IsReachable next o s → IsFair next n s ls →
        ((m : ℕ) → m < n → Takes ls m → Takes ms m) → IsFair wide_turn n (wide_rest s) ms
    step_fair s ls ms reached fair all m t low goes =
        let narrowed = passed_reached s reached in
        let own_fair : IsFair narrow n s ls = λ i u below is. fair i u below (sym (same_edge s i narrowed) ∙ is) in
        let own = sym (same_turn (wide_rest s) m (rests_found s reached)) ∙ goes in
        let there = subst (λ (x : S). own_turn x m ≡ Some t) (same_rests s reached) own in
        fair_found narrow n fits own_rest go merging s ls ms (fits_reached s reached) own_fair all m t low there

    pub loses_nothing : LosesNothing next narrow wide_rest own_rest n o
    loses_nothing = record {
      walks = same_walks;
      rests = same_rests;
      turns = same_turns;
      kept = rests_kept;
      found = rests_found;
      turn_loops = turn_loops;
      step_loops = step_loops;
      step_fair = step_fair;
    }
