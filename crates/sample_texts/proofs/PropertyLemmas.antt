-- The first property that is violated, one by one.
use Rattle.std.proofs.Common.{◌≡◌, ℕ, ◌+◌, ◌<◌, ◌≤◌, List, [], ◌∷◌, length, drop, ◌++◌, refl, sym, add-one, append-nil, arith, drop-cons}
use Rattle.std.specs.Prelude.{Bool, true, false, slice_index_or}
use Rattle.std.proofs.Math.ListN.{drop_of_length-le}
use Rattle.sample_checks.specs.declared.told.PropertySeen.{PropertySeen}
use Rattle.sample_texts.specs.PropertyTexts.{is_violated, may_hold, sample_ending}
use Rattle.sample_texts.specs.SampleJson.{properties_json, property_list}
use Rattle.shown_states.specs.declared.form.Ending.TheVariants.{Done, Violated}

abbrev against : PropertySeen → Bool
against told = is_violated (may_hold told.property.now.claim) told.decided

module _ (list : List PropertySeen) (i : ℕ) (d : PropertySeen) (within : i < length list) where
  left : drop i list ≡ slice_index_or list i d ∷ drop (i + 1) list
  left = rw add-one (drop-cons list i d within)

  pub none_more : against (slice_index_or list i d) ≡ false → sample_ending (drop i list) ≡ sample_ending list →
      sample_ending (drop (i + 1) list) ≡ sample_ending list
  unfolding sample_ending
  none_more is so = rw is at (rw left at so)

  pub one_found : against (slice_index_or list i d) ≡ true → sample_ending (drop i list) ≡ sample_ending list →
      Violated (slice_index_or list i d).property.now.line ≡ sample_ending list
  unfolding sample_ending
  one_found is so = rw is at (rw left at so)

pub none_left : (list : List PropertySeen) (i : ℕ) → length list ≤ i → sample_ending (drop i list) ≡ sample_ending list →
    Done ≡ sample_ending list
unfolding sample_ending
none_left list i past so = rw (drop_of_length-le list past) at so

pub ruleset endings = (none_more, one_found, none_left)

-- the member of properties is there where there are any
pub no_properties : (list : List PropertySeen) (out : List ℕ) → length list ≡ 0 → out ≡ out ++ properties_json list
no_properties [] out none = sym (append-nil out)
no_properties (told ∷ more) out none = absurd (omega (arith, none))

pub some_properties : (list : List PropertySeen) (out : List ℕ) → ¬ (length list ≡ 0)
    → out ++ property_list list ≡ out ++ properties_json list
some_properties [] out some = absurd (some refl)
some_properties (told ∷ more) out some = refl

pub ruleset property_members = (no_properties, some_properties)
