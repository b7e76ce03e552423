-- A rebuilt capability is the one that is made of the same parts, with the flag put in.
use Rattle.std.proofs.Common.{◌≡◌, ℕ, ◌+◌, ◌-◌, ◌/◌, ◌%◌, ◌^◌, ◌≤◌, ◌==◌, ◌&&◌, Bool, true, false, Ok, Err, inl, inr, arith, refl, ap, sym, ◌∙◌, leb-true, eqb-true}
use Rattle.std.specs.Prelude.{nat_le, Result}
use Rattle.std.proofs.lemmas.Bool.{and_parts, cases_Bool, false≢true, false_from_ne_true}
use Rattle.cap_model.specs.bounds.Lengths.{alignment}
use Rattle.cap_model.specs.bounds.Window.{is_in_window}
use Rattle.cap_model.specs.bounds.Rounding.{rounded_base}
use Rattle.cap_model.specs.words.Fields.{word_reserved}
use Rattle.cap_model.specs.values.Capability.{Capability, IsLawful, unsealed_type}
use Rattle.cap_model.specs.values.CapValue.{CapValue, valid, bits_of, parts_of, tagged_where, IsLawfulValue}
use Rattle.cap_model.specs.results.Fields.{set_flags}
use Rattle.cap_model.specs.results.Readings.{base_of, top_of, permissions_of, flags_of, lies_in}
use Rattle.cap_model.specs.results.Rebuilt.{are_aligned, is_buildable, unsealed_parts, build}
use Rattle.cap_model.specs.results.Addresses.{address_of, is_open, is_exact, keeps_bounds, clear_tag}
use Rattle.cap_model.proofs.Results.Rebuildings.{CanBuild, can_build, build_allowed, built_capability_lawful, eqb-of, flag_lt}
use Rattle.cap_model.proofs.Results.Values.{open_parts}
use Rattle.cap_model.proofs.Results.AddressResults.{test_of_window}
use Rattle.cap_model.proofs.Rounding.RoundingsWithin.{exact_base_fits, exact_top_fits}
use Rattle.cap_model.proofs.Words.WordsEdited.{lawful_with_flag}
use Rattle.cap_ops.specs.declared.making.MakeFault.{MakeFault}
use Rattle.cap_ops.specs.declared.making.MakeFault.TheVariants.{Inexact, Unrepresentable}
use Rattle.cap_ops.specs.Making.{made}
use Rattle.cap_ops.proofs.Makings.{made-inexact, made-unrepresentable}
use Rattle.cap_ops.proofs.MadeAgain.{made_again}

module _ (authority v : CapValue) where
  -- what is asked beside the bounds and the address
  abbrev MayBuild : Bool
  MayBuild = is_open authority && lies_in (parts_of authority) (parts_of v)
      && ((word_reserved (bits_of v / 2 ^ 64) == 0) && nat_le (base_of v) (top_of v))

  may_build_of : (is_open authority && lies_in (parts_of authority) (parts_of v) && is_buildable v) ≡ true → MayBuild ≡ true
  unfolding is_buildable
  may_build_of t =
      let all = and_parts (is_open authority && lies_in (parts_of authority) (parts_of v)) _ t in
      let said = and_parts ((word_reserved (bits_of v / 2 ^ 64) == 0) && nat_le (parts_of v).base (parts_of v).top && are_aligned (parts_of v).base (parts_of v).top) _ all.1 in
      let some = and_parts ((word_reserved (bits_of v / 2 ^ 64) == 0) && nat_le (parts_of v).base (parts_of v).top) _ said.0 in
      rw (all.0, some.0) refl

  -- where the condition fails the word stays without a tag
  kept_word : (is_open authority && lies_in (parts_of authority) (parts_of v) && is_buildable v) ≡ false → build authority v ≡ clear_tag v
  unfolding build
  kept_word fails = rw fails refl

  pub not_built : MayBuild ≡ false → build authority v ≡ clear_tag v
  not_built fails = kept_word (false_from_ne_true _ (λ t. false≢true (sym fails ∙ may_build_of t)))

  -- the capability without its flag
  abbrev plain : Capability
  plain = record (unsealed_parts v) { flag = 0 }

  abbrev made_plain : Result CapValue MakeFault
  made_plain = made (base_of v) (top_of v - base_of v) (parts_of v).addr (permissions_of v) unsealed_type

  module _ (h : IsLawfulValue authority) (k : IsLawfulValue v) where
    made_where : CanBuild authority v → made_plain ≡ Ok (valid plain)
    made_where can =
        made_again plain (lawful_with_flag (unsealed_parts v) 0 (built_capability_lawful authority v h k can) (omega arith)) refl

    -- what can't be made is not built
    pub not_made : (fault : MakeFault) → made_plain ≡ Err fault → build authority v ≡ clear_tag v
    not_made fault refused =
        kept_word (false_from_ne_true _ (λ t. let there = made_where (can_build authority v t) in cc))

    module _ (may : MayBuild ≡ true) (w : CapValue) (is : made_plain ≡ Ok w) where
      allowed : (is_open authority ≡ true) × (lies_in (parts_of authority) (parts_of v) ≡ true)
      allowed = and_parts (is_open authority) _ (and_parts (is_open authority && lies_in (parts_of authority) (parts_of v)) _ may).0

      ordered : base_of v ≤ top_of v
      ordered =
          leb-true _ _ (and_parts (word_reserved (bits_of v / 2 ^ 64) == 0) _ (and_parts (is_open authority && lies_in (parts_of authority) (parts_of v)) _ may).1).1

      top_inside : top_of v ≤ (parts_of authority).top
      top_inside =
          let bounds = and_parts (nat_le (parts_of authority).base (base_of v) && nat_le (top_of v) (parts_of authority).top) _ allowed.1 in
          leb-true _ _ (and_parts (nat_le (parts_of authority).base (base_of v)) _ bounds.0).1

      below : base_of v + (top_of v - base_of v) ≤ 2 ^ 64
      below =
          let owner = open_parts authority h allowed.0 in
          let most = owner.lawful.top_at_most in
          let up = ordered in
          let inside = top_inside in
          omega arith

      length_fits : top_of v - base_of v ≤ 2 ^ 64
      length_fits = omega (arith, below)

      exact : is_exact (base_of v) (top_of v - base_of v) ≡ true
      exact = elim (cases_Bool (is_exact (base_of v) (top_of v - base_of v))) [
        | inl same ↦ same
        | inr rounded ↦ (let refused = made-inexact (base_of v) (top_of v - base_of v) (parts_of v).addr (permissions_of v) unsealed_type below rounded in cc)
      ]

      base_fits : base_of v % alignment (top_of v - base_of v) ≡ 0
      base_fits =
          let both = and_parts (rounded_base (base_of v) (top_of v - base_of v) == base_of v) _ exact in
          exact_base_fits (base_of v) (top_of v - base_of v) length_fits (eqb-true _ _ both.0) (eqb-true _ _ both.1)

      top_fits : top_of v % alignment (top_of v - base_of v) ≡ 0
      top_fits =
          let both = and_parts (rounded_base (base_of v) (top_of v - base_of v) == base_of v) _ exact in
          let end : base_of v + (top_of v - base_of v) ≡ top_of v = omega (arith, ordered) in
          rw end at (exact_top_fits (base_of v) (top_of v - base_of v) length_fits (eqb-true _ _ both.0) (eqb-true _ _ both.1))

      inside : is_in_window (base_of v) (top_of v - base_of v) (parts_of v).addr ≡ true
      inside = elim (cases_Bool (is_in_window (base_of v) (top_of v - base_of v) (parts_of v).addr)) [
        | inl same ↦ same
        | inr outside ↦
            (let refused = made-unrepresentable (base_of v) (top_of v - base_of v) (parts_of v).addr (permissions_of v) unsealed_type below exact
            (λ in_window. false≢true (sym outside ∙ test_of_window _ _ _ in_window)) in
            cc)
      ]

      whole : (is_open authority && lies_in (parts_of authority) (parts_of v) && is_buildable v) ≡ true
      unfolding is_buildable address_of
      whole =
          let said = and_parts (word_reserved (bits_of v / 2 ^ 64) == 0) _ (and_parts (is_open authority && lies_in (parts_of authority) (parts_of v)) _ may).1 in
          rw (allowed.0, allowed.1, said.0, said.1, eqb-of _ _ base_fits, eqb-of _ _ top_fits, inside) refl

      made_is : w ≡ valid plain
      made_is = let there = made_where (can_build authority v whole) in cc

      -- what is made is built, with the flag
      pub built : build authority v ≡ set_flags w (flags_of v)
      unfolding build set_flags
      built =
          let flag : (parts_of v).flag % 2 ≡ (parts_of v).flag = omega (arith, flag_lt v k) in
          rw (whole, made_is, flag) refl
