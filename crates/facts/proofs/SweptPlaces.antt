-- One more place of a sweep.
use Rattle.std.proofs.Common.{◌≡◌, ℕ, ◌+◌, ◌<◌, List, [], ◌∷◌, ◌++◌, length, sym, ◌∙◌, ap, subst}
use Rattle.std.specs.Prelude.{if◌then◌else◌, slice_index_or}
use Rattle.std.proofs.lemmas.List.{append_assoc, append-nil, get_or_default}
use Rattle.std.proofs.lemmas.List.Elements.{AllWithin-none, AllWithin-more}
use Rattle.std.specs.List.{AllWithin}
use Rattle.std.proofs.Math.Numerals.{add-one}
use Rattle.cap_model.specs.values.CapValue.{CapValue}
use Rattle.cap_model.specs.results.Swept.{is_in_sweep}
use Rattle.cheri_model.specs.steps.Hart.{HartState}
use Rattle.cheri_model.specs.runs.Machine.{no_hart}
use Rattle.origins.specs.declared.place.Place.{Place}
use Rattle.facts.specs.EventFacts.{swept_among, swept_in_hart, swept_in_harts}
use Rattle.facts.specs.SweepLaw.{HasRegisters}

pub among_none : (place : ℕ → Place) (value : ℕ → CapValue) (lo hi : ℕ) (xs : List Place) → xs ≡ xs ++ swept_among place value lo hi 0
unfolding swept_among
among_none place value lo hi xs = sym (append-nil xs)

pub among_more : (place : ℕ → Place) (value : ℕ → CapValue) (lo hi n : ℕ) (old before now : List Place) → before ≡ old ++ swept_among place value lo hi n →
    now ≡ before ++ (if is_in_sweep lo hi (value n) then place n ∷ [] else []) → now ≡ old ++ swept_among place value lo hi (n + 1)
unfolding swept_among
among_more place value lo hi n old before now is more =
    more ∙ ap (λ xs. xs ++ (if is_in_sweep lo hi (value n) then place n ∷ [] else [])) is
    ∙ append_assoc old (swept_among place value lo hi n) (if is_in_sweep lo hi (value n) then place n ∷ [] else [])
    ∙ ap (λ k. old ++ swept_among place value lo hi k) (sym (add-one n))

pub harts_none : (lo hi : ℕ) (harts : List HartState) (xs : List Place) → xs ≡ xs ++ swept_in_harts lo hi harts 0
unfolding swept_in_harts
harts_none lo hi harts xs = sym (append-nil xs)

pub harts_more : (lo hi : ℕ) (harts : List HartState) (n : ℕ) (old before now : List Place) → before ≡ old ++ swept_in_harts lo hi harts n →
    now ≡ before ++ swept_in_hart lo hi n (slice_index_or harts n no_hart) → now ≡ old ++ swept_in_harts lo hi harts (n + 1)
unfolding swept_in_harts
harts_more lo hi harts n old before now is more =
    more ∙ ap (λ xs. xs ++ swept_in_hart lo hi n (slice_index_or harts n no_hart)) is
    ∙ append_assoc old (swept_in_harts lo hi harts n) (swept_in_hart lo hi n (slice_index_or harts n no_hart))
    ∙ ap (λ k. old ++ swept_in_harts lo hi harts k) (sym (add-one n))

-- each hart that was come to has its registers
pub registers_none : (harts : List HartState) → AllWithin HasRegisters harts 0 0
registers_none harts = AllWithin-none HasRegisters harts 0

pub registers_more : (harts : List HartState) (n : ℕ) → n < length harts → AllWithin HasRegisters harts 0 n → HasRegisters (slice_index_or harts n no_hart) →
    AllWithin HasRegisters harts 0 (n + 1)
registers_more harts n inside each one =
    AllWithin-more HasRegisters harts 0 n each (λ d. subst HasRegisters (get_or_default harts n no_hart d inside) one)
