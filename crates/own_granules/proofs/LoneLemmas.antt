-- After an actor's step from where all are at their rest, it is the only one that isn't. So a search by
-- turns, in which it alone goes there, is one by whole turns.
use Rattle.std.proofs.Common.{◌≡◌, ◌≢◌, ℕ, zero, suc, ◌<◌, ◌≤◌, List, [], ◌∷◌, arith, ap, sym, ◌∙◌, refl, inl, inr, subst}
use Rattle.std.specs.Prelude.{nat_lt, Option, Some, None, Bool, true, false, ◌&&◌, option_map, unwrap_or}
use Rattle.std.proofs.lemmas.Bool.{cases_Bool, cases_eq, cases_lt, and_parts, and_from, lt-ltb}
use Rattle.std.proofs.lemmas.Bool.Decides.{nat_tests}
use Rattle.std.proofs.lemmas.Option.{none-some, same_Some, option_and_then_some}
use Rattle.graph_merging.proofs.MergingLemmas.{merged_some, some_merged}
use Rattle.graph_merging.specs.Merging.{merged}
use Rattle.graph_search.specs.Walks.{after, IsWalk, IsReachable}
use Rattle.own_granules.specs.Rests.{come, rest_one, rest_first, rest_after, way_passes, ways_pass, after_passes, together}
use Rattle.own_granules.specs.Searches.{turn_of, AreMet}
use Rattle.own_granules.proofs.WayLemmas.{option_cases, come_on, come_none, come_stop, stopped_at, rest_none, rest_some, rest_still}
use Rattle.own_granules.proofs.ApartLemmas.{AreApart, comes, comes_mapped, same_way, left_one, leaves_quiet, leaves_comes, moves, fits_first, fits_one}
use Rattle.own_granules.proofs.MetLemmas.{reach_on, same_after, same_come, same_first, AreMetWhole}
use Rattle.own_granules.proofs.RestMerging.{IsNext}

-- what holds where walks begin and is kept by edges holds of all that is reached
reached_keeps : {S : Type 0} (next : S → ℕ → Option S) (o : S) (Kept : S → Type 0) →
    ((s t : S) (l : ℕ) → IsReachable next o s → Kept s → next s l ≡ Some t → Kept t) →
    (s t : S) (ls : List ℕ) → IsReachable next o s → Kept s → IsWalk next s ls t → Kept t
reached_keeps {S} next o Kept keeps s t [] reached holds walk = subst Kept (same_Some s t walk) holds
reached_keeps {S} next o Kept keeps s t (l ∷ ls) reached holds walk =
    option_and_then_some (λ (x : S). after next x ls) (next s l) t walk (λ x goes rest.
    reached_keeps next o Kept keeps x t ls (reach_on next o s x l reached goes) (keeps s x l reached holds goes) rest)

-- turns of one actor (lones) and whole ones (turns) are the same where a search has met what passes
pub record IsAlone {S : Type 0} (next lones turns : S → ℕ → Option S) (step : S → ℕ → S) (plain passes : S → ℕ → Bool)
    (n most : ℕ) (o : S) : Type 0 where
  pub edges : (s : S) (l : ℕ) → IsReachable lones (rest_first step plain most n o) s → lones s l ≡ turns s l
  pub walks : (s : S) (ls : List ℕ) → IsReachable lones (rest_first step plain most n o) s →
      after lones s ls ≡ after turns s ls
  pub alone : (s : S) → IsReachable turns (rest_first step plain most n o) s →
      IsReachable lones (rest_first step plain most n o) s
  pub met : AreMetWhole next step plain passes n most o

module _ {S : Type 0} (next : S → ℕ → Option S) (step : S → ℕ → S) (plain passes may whole : S → ℕ → Bool)
    (fits : S → Bool) (n most : ℕ) where
  abbrev quiet : S → ℕ → Bool
  quiet s l = together plain passes s l

  abbrev ok : S → ℕ → Bool
  ok s l = together may passes s l

  -- the tests of what an actor does quietly, and of where it may step
  pub record ArePlain : Type 0 where
    pub apart : AreApart step quiet ok fits
    pub nexts : IsNext next step quiet may whole fits n
    pub plain_may : (s : S) (l : ℕ) → plain s l ≡ true → may s l ≡ true
    pub same_may : (s : S) (l m : ℕ) → l ≢ m → may (step s m) l ≡ may s l
    pub same_passes : (s : S) (l m : ℕ) → fits s ≡ true → l ≢ m → ok s m ≡ true → passes (step s m) l ≡ passes s l

  module _ (all : ArePlain) where
    abbrev one : ℕ → S → S
    one l s = rest_one step plain most l s

    abbrev first : ℕ → S → S
    first i s = rest_first step plain most i s

    abbrev pub turns : S → ℕ → Option S
    turns s l = merged next (first n) s l

    abbrev pub lones : S → ℕ → Option S
    lones s l = turn_of next step plain most n s l

    abbrev moving : S → ℕ → Bool
    moving s l = moves step quiet ok fits all.apart most s l

    -- an actor that runs passes
    abbrev Fair : S → ℕ → Type 0
    Fair s l = may s l ≡ true → passes s l ≡ true

    -- a way that doesn't end by quiet steps that pass doesn't end
    endless : (k : ℕ) (s : S) (l : ℕ) → come step quiet l k s ≡ None →
        (come step plain l k s ≡ None) × (way_passes step plain passes l k s ≡ true)
    unfolding way_passes
    endless zero s l none = elim (cases_Bool (quiet s l)) [
      | inl holds ↦
          let parts = and_parts (plain s l) (passes s l) holds in
          (come_none step plain l s parts.0, rw (parts.0, parts.1) refl)
      | inr fails ↦ absurd (none-some s (sym none ∙ come_stop step quiet l 0 s fails))
    ]
    endless (suc k) s l none = elim (cases_Bool (quiet s l)) [
      | inl holds ↦
          let parts = and_parts (plain s l) (passes s l) holds in
          let rest = endless k (step s l) l (sym (come_on step quiet l k s holds) ∙ none) in
          (come_on step plain l k s parts.0 ∙ rest.0, rw (parts.0, parts.1, rest.1) refl)
      | inr fails ↦ absurd (none-some s (sym none ∙ come_stop step quiet l (suc k) s fails))
    ]

    loud_way : (k : ℕ) (s : S) (l : ℕ) → plain s l ≡ false → way_passes step plain passes l k s ≡ true
    unfolding way_passes
    loud_way zero s l fails = rw fails refl
    loud_way (suc k) s l fails = rw fails refl

    not_comes : (o : Option S) → comes o ≡ false → o ≡ None
    not_comes None is = refl
    not_comes (Some s) is = absurd (cc)

    -- one that is at its rest stays there by all its quiet steps
    calm : (s : S) (l : ℕ) → Fair s l → moving s l ≡ false →
        (one l s ≡ s) × (way_passes step plain passes l most s ≡ true)
    calm s l fair rests = elim (cases_Bool (plain s l)) [
      | inr fails ↦ (rest_still step plain l most s fails, loud_way most s l fails)
      | inl holds ↦
          let pass = fair (all.plain_may s l holds) in
          let own : quiet s l ≡ true = and_from (plain s l) (passes s l) holds pass in
          let long : comes (come step quiet l most s) ≡ false =
          sym (ap (λ (b : Bool). b && comes (come step quiet l most s)) own) ∙ rests in
          let ends = endless most s l (not_comes (come step quiet l most s) long) in
          (rest_none step plain l most s ends.0, ends.1)
    ]

    fair_step : (s : S) (l m : ℕ) → fits s ≡ true → l ≢ m → ok s m ≡ true → Fair s l → Fair (step s m) l
    fair_step s l m fit other goes fair runs =
        all.same_passes s l m fit other goes ∙ fair (sym (all.same_may s l m other) ∙ runs)

    fair_one : (s : S) (l m : ℕ) → fits s ≡ true → l ≢ m → Fair s l → Fair (rest_one step quiet most m s) l
    fair_one s l m fit other fair runs =
        let may_stays = (left_one step quiet ok fits all.apart most (λ (x : S). may x l) m
        (λ x fits_x holds. all.same_may x l m other) s fit).1 in
        let passes_stays = (left_one step quiet ok fits all.apart most (λ (x : S). passes x l) m
        (λ x fits_x holds. all.same_passes x l m fits_x other (all.apart.quiet_may x m holds)) s fit).1 in
        passes_stays ∙ fair (sym may_stays ∙ runs)

    both_same : (a b c d : Bool) → a ≡ b → c ≡ d → (a && c) ≡ (b && d)
    both_same a b c d x y = ap (λ (e : Bool). e && c) x ∙ ap (λ (e : Bool). b && e) y

    moving_step : (s : S) (l m : ℕ) → fits s ≡ true → l ≢ m → ok s m ≡ true → moving (step s m) l ≡ moving s l
    moving_step s l m fit other goes =
        both_same (quiet (step s m) l) (quiet s l)
        (comes (come step quiet l most (step s m))) (comes (come step quiet l most s))
        (all.apart.same_quiet s l m fit other goes)
        (ap comes (same_way step quiet ok fits all.apart most most s l m fit other goes)
        ∙ comes_mapped (λ (x : S). step x m) (come step quiet l most s))

    moving_one : (s : S) (l m : ℕ) → fits s ≡ true → l ≢ m → moving (rest_one step quiet most m s) l ≡ moving s l
    moving_one s l m fit other =
        let there = rest_one step quiet most m s in
        both_same (quiet there l) (quiet s l) (comes (come step quiet l most there)) (comes (come step quiet l most s))
        (left_one step quiet ok fits all.apart most (λ (x : S). quiet x l) m
        (leaves_quiet step quiet ok fits all.apart most l m other) s fit).1
        (left_one step quiet ok fits all.apart most (λ (x : S). comes (come step quiet l most x)) m
        (leaves_comes step quiet ok fits all.apart most l m other) s fit).1

    -- where a way ends, the next step isn't quiet
    ended : (k : ℕ) (s g : S) (l : ℕ) → come step quiet l k s ≡ Some g → quiet g l ≡ false
    ended zero s g l is = elim (cases_Bool (quiet s l)) [
      | inl holds ↦ absurd (none-some g (sym (come_none step quiet l s holds) ∙ is))
      | inr fails ↦ subst (λ (x : S). quiet x l ≡ false) (stopped_at step quiet l 0 s g fails is) fails
    ]
    ended (suc k) s g l is = elim (cases_Bool (quiet s l)) [
      | inl holds ↦ ended k (step s l) g l (sym (come_on step quiet l k s holds) ∙ is)
      | inr fails ↦ subst (λ (x : S). quiet x l ≡ false) (stopped_at step quiet l (suc k) s g fails is) fails
    ]

    and_false : (b : Bool) → (b && false) ≡ false
    and_false true = refl
    and_false false = refl

    moving_own : (s : S) (l : ℕ) → moving (rest_one step quiet most l s) l ≡ false
    moving_own s l = elim (option_cases (come step quiet l most s)) [
      | inl none ↦
          let stays : moving (rest_one step quiet most l s) l ≡ moving s l =
          ap (λ (x : S). moving x l) (rest_none step quiet l most s none) in
          stays ∙ (ap (λ (o : Option S). quiet s l && comes o) none ∙ and_false (quiet s l))
      | inr some ↦
          let loud = ended most s some.0 l some.1 in
          ap (λ (x : S). moving x l) (rest_some step quiet l most s some.0 some.1)
          ∙ ap (λ (b : Bool). b && comes (come step quiet l most some.0)) loud
    ]

    -- what is after an actor's edge, and after one of none
    rest_low : (l : ℕ) (t : S) → nat_lt l n ≡ true → rest_after step plain most n l t ≡ one l t
    unfolding rest_after
    rest_low l t own = rw own

    rest_high : (l : ℕ) (t : S) → nat_lt l n ≡ false → rest_after step plain most n l t ≡ first n t
    unfolding rest_after
    rest_high l t past = rw past

    way_of : (l : ℕ) (t : S) → nat_lt l n ≡ true → after_passes step plain passes most n l t ≡ true →
        way_passes step plain passes l most t ≡ true
    unfolding after_passes
    way_of l t own pass = rw own at pass

    ways_of : (l : ℕ) (t : S) → nat_lt l n ≡ false → after_passes step plain passes most n l t ≡ true →
        ways_pass step plain passes most n t ≡ true
    unfolding after_passes
    ways_of l t past pass = rw past at pass

    -- all are at their rest
    record AreCalm (s : S) : Type 0 where
      pub fit : fits s ≡ true
      pub rests : (m : ℕ) → m < n → moving s m ≡ false

    -- what is so after a step of an actor from there, before its quiet steps and after them
    record IsLone (t : S) (l : ℕ) : Type 0 where
      pub fit : fits t ≡ true
      pub others : (m : ℕ) → m < n → m ≢ l → Fair t m × (moving t m ≡ false)
      pub way : way_passes step plain passes l most t ≡ true

    lone_rest : (t : S) (l : ℕ) → IsLone t l → rest_one step quiet most l t ≡ one l t
    unfolding rest_one
    lone_rest t l is = ap (λ (o : Option S). unwrap_or o t) (same_come next step plain passes n most most t l is.way)

    others_after : (t : S) (l m : ℕ) → IsLone t l → m < n → m ≢ l → Fair (one l t) m × (moving (one l t) m ≡ false)
    others_after t l m is low other =
        let before = is.others m low other in
        subst (λ (x : S). Fair x m × (moving x m ≡ false)) (lone_rest t l is) (
          fair_one t m l is.fit other before.0,
          moving_one t m l is.fit other ∙ before.1,
        )

    calm_after : (t : S) (l : ℕ) → IsLone t l → AreCalm (one l t)
    calm_after t l is = record {
      fit = subst (λ (x : S). fits x ≡ true) (lone_rest t l is) (fits_one step quiet ok fits all.apart most t l is.fit);
      rests = λ m low. elim (cases_eq m l) [
        | inl same ↦
            subst (λ (i : ℕ). moving (one l t) i ≡ false) (sym same)
            (subst (λ (x : S). moving x l ≡ false) (lone_rest t l is) (moving_own t l))
        | inr other ↦ (others_after t l m is low other).1
      ];
    }

    -- the first rest as the one does
    settled : (i : ℕ) (t : S) (l : ℕ) → IsLone t l → i ≤ n →
        ((i ≤ l → first i t ≡ t) × (l < i → first i t ≡ one l t)) × (ways_pass step plain passes most i t ≡ true)
    unfolding rest_first ways_pass
    settled zero t l is low = ((λ before. refl, λ past. absurd (omega (arith, past))), refl)
    settled (suc i) t l is low =
        let below : i < n = omega (arith, low) in
        let rest = settled i t l is (omega (arith, low)) in
        let way_here : Bool = way_passes step plain passes i most (first i t) in
        let pass : way_here ≡ true → ways_pass step plain passes most (suc i) t ≡ true =
        λ way. and_from (ways_pass step plain passes most i t) way_here rest.1 way in
        elim (cases_eq i l) [
          | inl same ↦
              let there : first i t ≡ t = rest.0.0 (omega (arith, same)) in
              let own : one i (first i t) ≡ one l t = ap (one i) there ∙ ap (λ (k : ℕ). one k t) same in
              let way : way_passes step plain passes i most (first i t) ≡ true =
              ap (λ (x : S). way_passes step plain passes i most x) there
              ∙ (ap (λ (k : ℕ). way_passes step plain passes k most t) same ∙ is.way) in
              ((λ before. absurd (omega (arith, before, same)), λ past. own), pass way)
          | inr other ↦ elim (cases_lt i l) [
            | inl early ↦
                let there : first i t ≡ t = rest.0.0 (omega (arith, early)) in
                let before = is.others i below other in
                let stays = calm t i before.0 before.1 in (
                  (λ at. ap (one i) there ∙ stays.0, λ past. absurd (omega (arith, past, early))),
                  pass (ap (λ (x : S). way_passes step plain passes i most x) there ∙ stays.1),
                )
            | inr late ↦
                let past : l < i = let not : i ≢ l = other in omega (arith, late, not) in
                let there : first i t ≡ one l t = rest.0.1 past in
                let before = others_after t l i is below other in
                let stays = calm (one l t) i before.0 before.1 in (
                  (λ at. absurd (omega (arith, at, past)), λ after. ap (one i) there ∙ stays.0),
                  pass (ap (λ (x : S). way_passes step plain passes i most x) there ∙ stays.1),
                )
          ]
        ]

    module _ (o : S) (fit : fits o ≡ true) (met : AreMet next step plain passes most n o) where
      abbrev pub Reached : S → Type 0
      Reached s = IsReachable lones (first n o) s

      -- in what is reached, each actor that runs passes
      fair_reached : (s : S) (m : ℕ) → Reached s → fits s ≡ true → m < n → Fair s m
      fair_reached s m reached fit_s low runs =
          (met.edges s (step s m) m reached (all.nexts.has s m fit_s low runs)).0

      is_lone : (s t : S) (l : ℕ) → Reached s → AreCalm s → next s l ≡ Some t → l < n → may s l ≡ true →
          step s l ≡ t → IsLone t l
      is_lone s t l reached are goes low runs leads =
          let passed = met.edges s t l reached goes in
          let moves_on : ok s l ≡ true = and_from (may s l) (passes s l) runs passed.0 in
          let own : nat_lt l n ≡ true = lt-ltb l n low in
          record {
            fit = subst (λ (x : S). fits x ≡ true) leads (all.apart.keeps s l are.fit moves_on);
            others = λ m under other. subst (λ (x : S). Fair x m × (moving x m ≡ false)) leads (
              fair_step s m l are.fit other moves_on (fair_reached s m reached are.fit under),
              moving_step s m l are.fit other moves_on ∙ are.rests m under,
            );
            way = way_of l t own passed.1;
          }

      first_calm : (i : ℕ) (s : S) → fits s ≡ true → (m : ℕ) → m < i → moving (rest_first step quiet most i s) m ≡ false
      unfolding rest_first
      first_calm zero s fit_s m low = absurd (omega (arith, low))
      first_calm (suc i) s fit_s m low =
          let there = rest_first step quiet most i s in
          elim (cases_eq m i) [
            | inl same ↦
                subst (λ (k : ℕ). moving (rest_one step quiet most i there) k ≡ false) (sym same) (moving_own there i)
            | inr other ↦
                moving_one there m i (fits_first step quiet ok fits all.apart most s i fit_s) other
                ∙ first_calm i s fit_s m (let not : m ≢ i = other in omega (arith, low, not))
          ]

      -- all quiet steps lead to where all are at their rest
      calm_first : (s : S) → fits s ≡ true → ways_pass step plain passes most n s ≡ true → AreCalm (first n s)
      calm_first s fit_s pass =
          let same = same_first next step plain passes n most n s pass in
          subst AreCalm same (record {
            fit = fits_first step quiet ok fits all.apart most s n fit_s;
            rests = first_calm n s fit_s;
          })

      -- a turn of an actor, and one of none
      record IsTurned (s t : S) (l : ℕ) : Type 0 where
        pub calm : AreCalm (first n t)
        pub same : rest_after step plain most n l t ≡ first n t
        pub pass : ways_pass step plain passes most n t ≡ true

      turned : (s t : S) (l : ℕ) → Reached s → AreCalm s → next s l ≡ Some t → IsTurned s t l
      turned s t l reached are goes = elim (all.nexts.edge s t l are.fit goes) [
        | inl edge ↦
            let is = is_lone s t l reached are goes edge.0 edge.1 edge.2 in
            let end = settled n t l is (omega arith) in
            let rest = end.0.1 edge.0 in
            record {
              calm = subst AreCalm (sym rest) (calm_after t l is);
              same = rest_low l t (lt-ltb l n edge.0) ∙ sym rest;
              pass = end.1;
            }
        | inr edge ↦
            let high = edge.high in
            let past : nat_lt l n ≡ false = grind (arith, nat_tests) in
            let pass = ways_of l t past (met.edges s t l reached goes).1 in
            let fit_t = subst (λ (x : S). fits x ≡ true) edge.leads (edge.swept.keeps s are.fit) in
            record { calm = calm_first t fit_t pass; same = rest_high l t past; pass = pass }
      ]

      calm_edge : (s t : S) (l : ℕ) → Reached s → AreCalm s → lones s l ≡ Some t → AreCalm t
      calm_edge s t l reached are goes =
          let step_on = merged_some (rest_after step plain most n l) (next s l) t goes in
          let is = turned s step_on.0 l reached are step_on.1 in
          subst AreCalm (sym is.same ∙ step_on.2) is.calm

      start_calm : AreCalm (first n o)
      start_calm = calm_first o fit met.opening

      calm_reached : (s : S) → Reached s → AreCalm s
      calm_reached s reached =
          reached_keeps lones (first n o) AreCalm calm_edge (first n o) s reached.0 ([], refl) start_calm reached.1

      same_lone : (s : S) (l : ℕ) → Reached s → lones s l ≡ turns s l
      same_lone s l reached = elim (option_cases (next s l)) [
        | inl none ↦
            let a : lones s l ≡ None = rw none in
            let b : turns s l ≡ None = rw none in
            a ∙ sym b
        | inr some ↦
            let is = turned s some.0 l reached (calm_reached s reached) some.1 in
            ap (option_map (rest_after step plain most n l)) some.1
            ∙ (ap (λ (x : S). Some x) is.same ∙ sym (some_merged next (first n) s some.0 l some.1))
      ]

      same_lones : (s : S) (ls : List ℕ) → Reached s → after lones s ls ≡ after turns s ls
      same_lones s ls reached = same_after lones turns (first n o) same_lone s ls reached

      turned_alone : (s : S) → IsReachable turns (first n o) s → Reached s
      turned_alone s reached = (reached.0, same_lones (first n o) reached.0 ([], refl) ∙ reached.1)

      -- so all that a search of whole turns meets passes, too
      met_whole : AreMetWhole next step plain passes n most o
      met_whole = record {
        opening = met.opening;
        edges = λ s t l reached goes.
            let alone = turned_alone s reached in
            ((met.edges s t l alone goes).0, (turned s t l alone (calm_reached s alone) goes).pass);
      }

      pub is_alone : IsAlone next lones turns step plain passes n most o
      is_alone = record {
        edges = same_lone;
        walks = same_lones;
        alone = turned_alone;
        met = met_whole;
      }
