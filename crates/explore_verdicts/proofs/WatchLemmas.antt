-- A search that sees what properties ask for passes over no state that decides one.
use Rattle.std.proofs.Common.{◌≡◌, ℕ, zero, suc, ◌+◌, ◌<◌, List, [], ◌∷◌, ◌++◌, length, take, slice_get, ap, sym, ◌∙◌, refl, subst, arith, append_assoc, append-nil}
use Rattle.std.specs.Prelude.{Bool, true, false, not, Some, slice_index_or}
use Rattle.std.proofs.lemmas.List.{take_more}
use Rattle.cheri_model.specs.runs.Machine.{MachineState}
use Rattle.conditions.specs.Holding.{holds}
use Rattle.conditions.specs.declared.parts.Node.{Node}
use Rattle.explore_properties.specs.Properties.{PropertyParts}
use Rattle.explore_properties.specs.declared.claims.Claim.{Claim}
use Rattle.explore_properties.specs.declared.claims.Claim.TheVariants.{Holds, Ends, EndsFairly}
use Rattle.explore_properties.specs.declared.claims.When.TheVariants.{Never, Always, Sometimes, Finally}
use Rattle.explore_sights.specs.Sights.{hides, sight_of}
use Rattle.explore_sights.specs.declared.sights.Sight.{Sight}
use Rattle.explore_sights.specs.declared.sights.Sight.TheVariants as sight
use Rattle.explore_sights.specs.declared.watches.Watch.{Watch}
use Rattle.explore_sights.proofs.WatchLemmas.{watches_keep}
use Rattle.explore_turns.specs.Turns.{KeepsPassing}
use Rattle.explore_verdicts.specs.Deciding.{AreSeen, decides, IsClaimSeen, IsSeen, watch_of, watches_of}

-- ---- one more property

pub empty_watches : watches_of [] ≡ []
unfolding watches_of
empty_watches = refl

one_watch : (p : PropertyParts) → watches_of (p ∷ []) ≡ watch_of p.claim
unfolding watches_of
one_watch p = append-nil (watch_of p.claim)

watches_append : (ps qs : List PropertyParts) → watches_of (ps ++ qs) ≡ watches_of ps ++ watches_of qs
unfolding watches_of
watches_append [] qs = refl
watches_append (p ∷ ps) qs = ap (λ ws. watch_of p.claim ++ ws) (watches_append ps qs) ∙ sym (append_assoc (watch_of p.claim) (watches_of ps) (watches_of qs))

pub watch_more : (list : List PropertyParts) (i : ℕ) (d : PropertyParts) (old new : List Watch) → i < length list →
    old ≡ watches_of (take i list) → new ≡ old ++ watch_of (slice_index_or list i d).claim → new ≡ watches_of (take (i + 1) list)
watch_more list i d old new within old_is new_is =
    let p = slice_index_or list i d in
    new_is ∙ ap (λ ws. ws ++ watch_of p.claim) old_is ∙ sym (ap watches_of (take_more list i d within)
    ∙ watches_append (take i list) (p ∷ []) ∙ ap (λ ws. watches_of (take i list) ++ ws) (one_watch p))

-- ---- what is watched decides

-- a search that sees every step, or what is watched
abbrev by_watches : Bool → List Watch → Sight
by_watches every watches = sight_of every (sight.Watches watches)

keeps_every : (passing : MachineState → Bool) → KeepsPassing (hides sight.EveryStep) passing
unfolding hides
keeps_every passing s l before after here hidden passes = absurd (cc)

module _ (watches : List Watch) (k : ℕ) (condition : List Node) where
  keeps_holding : slice_get watches k ≡ Some (record { condition = condition; holds = true }) →
      KeepsPassing (hides (sight.Watches watches)) (λ s. holds s condition)
  keeps_holding at s l before after here hidden passes =
      watches_keep watches k (record { condition = condition; holds = true }) before after s l hidden at here passes

  keeps_failing : slice_get watches k ≡ Some (record { condition = condition; holds = false }) →
      KeepsPassing (hides (sight.Watches watches)) (λ s. not (holds s condition))
  keeps_failing at s l before after here hidden passes =
      watches_keep watches k (record { condition = condition; holds = false }) before after s l hidden at here passes

  seen_never : (every : Bool) → slice_get watches k ≡ Some (record { condition = condition; holds = true }) →
      IsSeen (by_watches every watches) Never condition
  unfolding decides
  seen_never true at = keeps_every (λ s. holds s condition)
  seen_never false at = keeps_holding at

  seen_sometimes : (every : Bool) → slice_get watches k ≡ Some (record { condition = condition; holds = true }) →
      IsSeen (by_watches every watches) Sometimes condition
  unfolding decides
  seen_sometimes true at = keeps_every (λ s. holds s condition)
  seen_sometimes false at = keeps_holding at

  seen_always : (every : Bool) → slice_get watches k ≡ Some (record { condition = condition; holds = false }) →
      IsSeen (by_watches every watches) Always condition
  unfolding decides
  seen_always true at = keeps_every (λ s. not (holds s condition))
  seen_always false at = keeps_failing at

at_last : (before after : List Watch) (watch : Watch) → slice_get (before ++ watch ∷ after) (length before) ≡ Some watch
at_last [] after watch = refl
at_last (w ∷ before) after watch = at_last before after watch

claim_seen : (every : Bool) (before after : List Watch) (claim : Claim) →
    IsClaimSeen (by_watches every (before ++ (watch_of claim ++ after))) claim
claim_seen every before after (Holds Never c) = seen_never _ (length before) c every (at_last before after _)
claim_seen every before after (Holds Always c) = seen_always _ (length before) c every (at_last before after _)
claim_seen every before after (Holds Sometimes c) = seen_sometimes _ (length before) c every (at_last before after _)
claim_seen every before after (Holds Finally c) = tt
claim_seen every before after Ends = tt
claim_seen every before after EndsFairly = tt

seen_from : (every : Bool) (before : List Watch) (ps : List PropertyParts) → AreSeen (by_watches every (before ++ watches_of ps)) ps
unfolding watches_of
seen_from every before [] = tt
seen_from every before (p ∷ ps) = (
  claim_seen every before (watches_of ps) p.claim,
  subst (λ (ws : List Watch). AreSeen (by_watches every ws) ps) (append_assoc before (watch_of p.claim) (watches_of ps))
      (seen_from every (before ++ watch_of p.claim) ps),
)

-- a search that sees what properties ask for passes over no state that decides one of them
pub watches_seen : (every : Bool) (ps : List PropertyParts) → AreSeen (by_watches every (watches_of ps)) ps
watches_seen every ps = seen_from every [] ps

pub claim_at : (seen : Sight) (list : List PropertyParts) (i : ℕ) (d : PropertyParts) → AreSeen seen list → i < length list →
    IsClaimSeen seen (slice_index_or list i d).claim
claim_at seen [] i d are within = absurd (nothing i within)
  where
    nothing : (n : ℕ) → n < 0 → ⊥
    nothing n less = omega arith
claim_at seen (p ∷ ps) zero d are within = are.0
claim_at seen (p ∷ ps) (suc i) d are within = claim_at seen ps i d are.1 (omega arith)
