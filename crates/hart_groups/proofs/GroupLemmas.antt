-- The groups of an image's harts, from the group of each.
use Rattle.std.proofs.Common.{◌≡◌, ◌≢◌, ◌<◌, ◌≤◌, ◌+◌, ℕ, zero, suc, ◌⊎◌, inl, inr, Bool, true, List, length, set}
use Rattle.std.proofs.Common.{refl, sym, ap, subst, ◌∙◌, arith, below_more, length-set, get_or-set_same, get_or-set_other}
use Rattle.std.specs.Prelude.{not, ◌&&◌, ◌==◌, slice_get}
use Rattle.std.proofs.lemmas.Bool.{cases_eq, cases_lt, both_ways}
use Rattle.std.proofs.lemmas.Bool.Decides.{nat_tests}
use Rattle.std.proofs.lemmas.Option.{slice_get_cases, slice_get_within}
use Rattle.cheri_model.specs.declared.image.HartImage.{HartImage}
use Rattle.cheri_model.specs.runs.Image.{ImageParts}
use Rattle.cheri_model.specs.runs.ImageRules.{is_image}
use Rattle.explore_turns.proofs.ImageSizes.{harts_few}
use Rattle.hart_order.specs.Arrangements.{group_of, are_grouped}
use Rattle.named_harts.specs.NamedHarts.{has}
use Rattle.hart_groups.specs.HartGroups.{AreSame, IsGroup, AreGroups}

-- an image's harts are at most eight
pub few_harts : (image : ImageParts) (harts : List HartImage) → is_image image ≡ true → harts ≡ image.harts → length harts ≤ 8
few_harts image harts formed are = rw are (harts_few image formed)

-- the groups of so many harts
pub record AreSoFar (harts : List HartImage) (named : List Bool) (groups : List ℕ) (number : ℕ) : Type 0 where
  pub size : length groups ≡ 8
  pub below : (hart : ℕ) → hart < number → IsGroup harts named hart (group_of groups hart)
  pub above : (hart : ℕ) → number ≤ hart → group_of groups hart ≡ 0

pub one_more : (harts : List HartImage) (named : List Bool) (groups : List ℕ) (hart group : ℕ) → hart < 8 →
    IsGroup harts named hart group → AreSoFar harts named groups hart →
    AreSoFar harts named (set groups hart group) (hart + 1)
one_more harts named groups hart group small is so_far =
    let size = so_far.size in
    let more = set groups hart group in
    let here : group_of more hart ≡ group = get_or-set_same groups hart group 0 (omega arith) in
    let others : (other : ℕ) → other ≢ hart → group_of more other ≡ group_of groups other =
    λ other differ. get_or-set_other groups hart other group 0 differ in
    record {
      size = length-set groups hart group ∙ size;
      below = below_more (λ other. IsGroup harts named other (group_of more other)) hart
          (λ other low. subst (IsGroup harts named other) (sym (others other (omega arith))) (so_far.below other low))
          (subst (IsGroup harts named hart) (sym here) is);
      above = λ other past. others other (omega arith) ∙ so_far.above other (omega arith);
    }

-- a number is 0, or 1 more than one
split : (n : ℕ) → (n ≡ 0) ⊎ ((m : ℕ) × (n ≡ m + 1))
split zero = inl refl
split (suc m) = inr (m, omega arith)

-- what is grouped
grouped_is : (a b : ℕ) → (not (a == 0) && (a == b)) ≡ true → (a ≢ 0) × (a ≡ b)
grouped_is a b is = grind (arith, nat_tests, is)

is_grouped : (a b m : ℕ) → a ≡ m + 1 → b ≡ m + 1 → (not (a == 0) && (a == b)) ≡ true
is_grouped a b m one other = grind (arith, nat_tests)

module _ (harts : List HartImage) (named : List Bool) where
  -- the harts that are the same as others
  same_inside : (one other : ℕ) → AreSame harts named one other → other < length harts
  same_inside one other same = elim (slice_get_cases harts one).1 [
    | inl (hart, low, is, at) ↦ slice_get_within harts other hart (sym same.alike ∙ is)
    | inr (past, is) ↦ absurd (let low = same.inside in omega arith)
  ]

  same_back : (one other : ℕ) → AreSame harts named one other → AreSame harts named other one
  same_back one other same = record {
    inside = same_inside one other same;
    free = same.other_free;
    other_free = same.free;
    alike = sym same.alike;
  }

  same_on : (one other third : ℕ) → AreSame harts named one other → AreSame harts named other third →
      AreSame harts named one third
  same_on one other third same more = record {
    inside = same.inside;
    free = same.free;
    other_free = more.other_free;
    alike = same.alike ∙ more.alike;
  }

  module _ (groups : List ℕ) (each : (hart : ℕ) → hart < length harts → IsGroup harts named hart (group_of groups hart))
      (none : (hart : ℕ) → length harts ≤ hart → group_of groups hart ≡ 0) where
    of_group : (hart number : ℕ) → group_of groups hart ≡ number + 1 → IsGroup harts named hart (group_of groups hart)
    of_group hart number is = elim (cases_lt hart (length harts)) [
      | inl inside ↦ each hart inside
      | inr past ↦ absurd (let nothing = none hart past in omega arith)
    ]

    same_as_first : (hart number : ℕ) → group_of groups hart ≡ number + 1 → AreSame harts named hart number
    same_as_first hart number is = (of_group hart number is).same number is

    -- harts that are the same have a group, and the same one
    one_group : (one other : ℕ) → one ≢ other → AreSame harts named one other →
        (number : ℕ) × (group_of groups one ≡ number + 1) × (group_of groups other ≡ number + 1)
    one_group one other differ same = elim (split (group_of groups one)) [
      | inl nothing ↦ absurd ((each one same.inside).alone nothing (other, (λ is. differ (sym is)), same))
      | inr (number, is) ↦ elim (split (group_of groups other)) [
        | inl nothing ↦ absurd ((each other (same_inside one other same)).alone nothing
            (one, differ, same_back one other same))
        | inr (next, is_next) ↦
            let low = (each one same.inside).least number next is
            (same_on one other next same (same_as_first other next is_next)) in
            let high = (each other (same_inside one other same)).least next number is_next
            (same_on other one number (same_back one other same) (same_as_first one number is)) in
            (number, is, omega arith)
      ]
    ]

    all_grouped : (one other : ℕ) → one ≢ other → AreSame harts named one other → are_grouped groups one other ≡ true
    all_grouped one other differ same =
        let group = one_group one other differ same in
        is_grouped (group_of groups one) (group_of groups other) group.0 group.1 group.2

    named_free : (hart : ℕ) → has named hart ≡ true → group_of groups hart ≡ 0
    named_free hart is_named = elim (split (group_of groups hart)) [
      | inl nothing ↦ nothing
      | inr (number, is) ↦ absurd (both_ways (has named hart) (same_as_first hart number is).free is_named)
    ]

    grouped_equal : (one other : ℕ) → are_grouped groups one other ≡ true → slice_get harts one ≡ slice_get harts other
    grouped_equal one other grouped =
        let is = grouped_is (group_of groups one) (group_of groups other) grouped in
        elim (split (group_of groups one)) [
          | inl nothing ↦ absurd (is.0 nothing)
          | inr (number, first) ↦
              (same_as_first one number first).alike ∙ sym (same_as_first other number (sym is.1 ∙ first)).alike
        ]

    none_alone : (hart : ℕ) → group_of groups hart ≢ 0 →
        (other : ℕ) × (other ≢ hart) × (are_grouped groups hart other ≡ true)
    none_alone hart grouped = elim (split (group_of groups hart)) [
      | inl nothing ↦ absurd (grouped nothing)
      | inr (number, is) ↦
          let twin = (of_group hart number is).twin number is in
          (twin.0, twin.1, all_grouped hart twin.0 (λ same. twin.1 (sym same)) twin.2)
    ]

    first_has_it : (hart number : ℕ) → group_of groups hart ≡ number + 1 → group_of groups number ≡ number + 1
    first_has_it hart number is = elim (cases_eq hart number) [
      | inl same ↦ ap (group_of groups) (sym same) ∙ is
      | inr differ ↦
          let group = one_group hart number differ (same_as_first hart number is) in
          let one : group_of groups hart ≡ group.0 + 1 = group.1 in
          let other : group_of groups number ≡ group.0 + 1 = group.2 in
          other ∙ sym one ∙ is
    ]

    pub are_groups : AreGroups harts named groups
    are_groups = record {
      free = named_free;
      beyond = none;
      equal = grouped_equal;
      all = all_grouped;
      shared = none_alone;
      first = λ hart number is. (
        first_has_it hart number is,
        λ other other_is. (of_group hart number is).least number other is
            (same_on hart number other (same_as_first hart number is)
            (same_back other number (same_as_first other number other_is))),
      );
    }
