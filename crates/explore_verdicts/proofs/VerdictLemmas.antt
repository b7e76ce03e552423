-- What the kept states say of all orders, and verdicts one more at a time.
use Rattle.std.proofs.Common.{◌≡◌, ℕ, ◌+◌, ◌<◌, List, [], ◌∷◌, ◌++◌, length, take, ap, sym, ◌∙◌, refl, subst, inl, inr}
use Rattle.std.specs.Prelude.{Bool, true, false, not, ◌&&◌, Some, None, Option, slice_index_or, Vec}
use Rattle.std.specs.Global.{Global}
use Rattle.std.proofs.lemmas.Bool.{both_ways, cases_Bool}
use Rattle.std.proofs.lemmas.List.{take_more}
use Rattle.cheri_model.specs.declared.operation.Op.{Op}
use Rattle.cheri_model.specs.runs.Machine.{MachineState}
use Rattle.cheri_model.specs.runs.Replay.{replayed_state}
use Rattle.conditions.specs.Holding.{holds}
use Rattle.conditions.specs.declared.parts.Node.{Node}
use Rattle.explore_properties.specs.Properties.{PropertyParts}
use Rattle.explore_properties.specs.declared.claims.When.{When}
use Rattle.explore_properties.specs.declared.claims.When.TheVariants.{Never, Always, Sometimes, Finally}
use Rattle.explore_verdicts.specs.Deciding.{decides, IsSeen}
use Rattle.explore_verdicts.specs.Verdicts.{absent_verdict, AreVerdicts, found_verdict, IsFoundVerdict, IsOrderTo, IsPropertyVerdict, IsStateVerdict}
use Rattle.explore_verdicts.specs.declared.verdict.PropertyVerdict.{PropertyVerdict}
use Rattle.explore_verdicts.specs.declared.verdict.Verdict.{Verdict}
use Rattle.graph_search.specs.Trees.{IsFound}
use Rattle.outcomes.specs.Outcomes.{is_final}
use Rattle.outcomes.proofs.RestLemmas.{final_rests}
use Rattle.state_loops.specs.declared.endless.Endless.{Endless}
use Rattle.states.specs.Kept.{KeptParts, at, count, AreAllKept, IsFirstPassing, NonePasses}
use Rattle.states.proofs.KeptLemmas.{none_passes}

first_true : (a b : Bool) → (a && b) ≡ true → a ≡ true
first_true true b e = refl
first_true false b e = absurd (cc)

-- a state in which no hart runs is itself kept, where all are
none_finally : (kept : KeptParts) (condition : List Node) → AreAllKept kept → IsFirstPassing kept (decides Finally condition) None →
    NonePasses kept.image kept.sweeps (decides Finally condition)
unfolding decides
none_finally kept condition all none order allowed legal =
    let state = replayed_state kept.image order in
    elim (cases_Bool (decides Finally condition state)) [
      | inl passes ↦
          let final = first_true (is_final state) (not (holds state condition)) passes in
          let found = subst (λ (s : MachineState). IsFound (at kept) s) (final_rests kept.image kept.sweeps kept.sight state final) (all order allowed legal) in
          absurd (both_ways (decides Finally condition state) (none found.0 state found.1) passes)
      | inr fails ↦ fails
    ]

none_decides : (kept : KeptParts) (when : When) (condition : List Node) → IsSeen kept.sight when condition → AreAllKept kept →
    IsFirstPassing kept (decides when condition) None → NonePasses kept.image kept.sweeps (decides when condition)
none_decides kept Never condition seen all none = none_passes kept (decides Never condition) seen all none
none_decides kept Always condition seen all none = none_passes kept (decides Always condition) seen all none
none_decides kept Sometimes condition seen all none = none_passes kept (decides Sometimes condition) seen all none
none_decides kept Finally condition seen all none = none_finally kept condition all none

pub decided_within : (kept : KeptParts) (when : When) (condition : List Node) (found : Option ℕ) (number : ℕ) →
    IsFirstPassing kept (decides when condition) found → found ≡ Some number → number < count kept
decided_within kept when condition found number first is =
    (subst (λ (o : Option ℕ). IsFirstPassing kept (decides when condition) o) is first).0

-- the verdict by its witness
pub witness_is : (kept : KeptParts) (when : When) (number : ℕ) (order : Vec Op Global) (verdict : Verdict) →
    verdict ≡ found_verdict when order → IsOrderTo kept number order.items → IsFoundVerdict kept when number verdict
witness_is kept Never number order verdict is leads = rw is leads
witness_is kept Always number order verdict is leads = rw is leads
witness_is kept Sometimes number order verdict is leads = rw is leads
witness_is kept Finally number order verdict is leads = rw is leads

-- the verdict of the first state that decides
pub found_is : (kept : KeptParts) (when : When) (condition : List Node) (found : Option ℕ) (number : ℕ) (verdict : Verdict) →
    IsFirstPassing kept (decides when condition) found → found ≡ Some number → IsFoundVerdict kept when number verdict →
    IsStateVerdict kept when condition verdict
found_is kept when condition found number verdict first is says = record {
  number = Some number;
  first = subst (λ (o : Option ℕ). IsFirstPassing kept (decides when condition) o) is first;
  says = says;
  none = λ none. absurd (cc);
}

-- the verdict where none does
pub absent_is : (kept : KeptParts) (when : When) (condition : List Node) (found : Option ℕ) (complete : Bool) (verdict : Verdict) →
    IsSeen kept.sight when condition → IsFirstPassing kept (decides when condition) found → found ≡ None →
    complete ≡ kept.complete → (complete ≡ true → AreAllKept kept) → verdict ≡ absent_verdict when complete →
    IsStateVerdict kept when condition verdict
absent_is kept when condition found complete verdict seen first is complete_is all verdict_is =
    let none = subst (λ (o : Option ℕ). IsFirstPassing kept (decides when condition) o) is first in
    record {
      number = None;
      first = none;
      says = verdict_is ∙ ap (absent_verdict when) complete_is;
      none = λ no whole. none_decides kept when condition seen (all (complete_is ∙ whole)) none;
    }

-- ---- one more property

module _ (judged : When → List Node → Verdict → Type 0) (forever : Endless) where
  verdict_more : (ps : List PropertyParts) (vs : List PropertyVerdict) (p : PropertyParts) (v : PropertyVerdict) →
      AreVerdicts judged forever ps vs → IsPropertyVerdict judged forever p v →
      AreVerdicts judged forever (ps ++ p ∷ []) (vs ++ v ∷ [])
  verdict_more [] [] p v are is = (is, tt)
  verdict_more [] (w ∷ vs) p v are is = absurd are
  verdict_more (q ∷ ps) [] p v are is = absurd are
  verdict_more (q ∷ ps) (w ∷ vs) p v are is = (are.0, verdict_more ps vs p v are.1 is)

  pub verdict_step : (list : List PropertyParts) (i : ℕ) (d : PropertyParts) (vs new : List PropertyVerdict) (v : PropertyVerdict) →
      i < length list → new ≡ vs ++ v ∷ [] → AreVerdicts judged forever (take i list) vs →
      IsPropertyVerdict judged forever (slice_index_or list i d) v → AreVerdicts judged forever (take (i + 1) list) new
  verdict_step list i d vs new v within pushed are is =
      subst (λ (xs : List PropertyParts). AreVerdicts judged forever xs new) (sym (take_more list i d within))
      (subst (λ (us : List PropertyVerdict). AreVerdicts judged forever (take i list ++ slice_index_or list i d ∷ []) us) (sym pushed)
      (verdict_more (take i list) vs (slice_index_or list i d) v are is))
