-- A lawful capability with flag 0 is what is made of its own parts.
use Rattle.std.proofs.Common.{◌≡◌, ◌+◌, ◌-◌, ◌%◌, ◌^◌, ◌≤◌, true, Ok, arith, refl, ap, sym, ◌∙◌}
use Rattle.cap_model.specs.bounds.Lengths.{alignment}
use Rattle.cap_model.specs.bounds.Rounding.{rounded_base, rounded_top}
use Rattle.cap_model.specs.words.PermissionNames.{known_permissions}
use Rattle.cap_model.specs.values.Capability.{Capability, IsLawful}
use Rattle.cap_model.specs.values.CapValue.{valid}
use Rattle.cap_model.specs.results.Addresses.{is_exact}
use Rattle.cap_model.proofs.Results.PermissionSets.{set_drops_nothing}
use Rattle.cap_model.proofs.Rounding.RoundingsWithin.{rounded_base_exact, rounded_top_exact}
use Rattle.cap_ops.specs.Making.{capability_with, made}
use Rattle.cap_ops.proofs.Exactness.{exact_test}
use Rattle.cap_ops.proofs.Makings.{made-ok}

module _ (c : Capability) (h : IsLawful c) where
  -- base and length give the top back
  ends : c.base + (c.top - c.base) ≡ c.top
  ends = omega (arith, h.ordered)

  length_fits : c.top - c.base ≤ 2 ^ 64
  length_fits = omega (arith, h.top_at_most)

  top_fits : (c.base + (c.top - c.base)) % alignment (c.top - c.base) ≡ 0
  top_fits = rw ends h.top_fits

  -- lawful bounds are not rounded
  exact : is_exact c.base (c.top - c.base) ≡ true
  exact =
      let base : rounded_base c.base (c.top - c.base) ≡ c.base = rounded_base_exact c.base (c.top - c.base) length_fits h.base_fits top_fits in
      let top : rounded_top c.base (c.top - c.base) ≡ c.base + (c.top - c.base) = rounded_top_exact c.base (c.top - c.base) length_fits h.base_fits top_fits in
      sym (exact_test true (rounded_base c.base (c.top - c.base)) c.base (rounded_top c.base (c.top - c.base)) (c.base + (c.top - c.base)) (λ _. (base, top), λ _. refl))

  -- its parts are its own
  same_parts : c.flag ≡ 0 → capability_with c.base (c.top - c.base) c.addr (known_permissions c.perms) c.otype ≡ c
  same_parts plain = λ i. record {
    base = c.base;
    top = ends i;
    addr = c.addr;
    perms = set_drops_nothing c.perms h.perms i;
    flag = sym plain i;
    otype = c.otype;
  }

pub made_again : (c : Capability) → IsLawful c → c.flag ≡ 0 → made c.base (c.top - c.base) c.addr c.perms c.otype ≡ Ok (valid c)
made_again c h plain =
    let below : c.base + (c.top - c.base) ≤ 2 ^ 64 = rw (ends c h) h.top_at_most in
    made-ok c.base (c.top - c.base) c.addr c.perms c.otype below (exact c h) h.in_window
    ∙ ap (λ (d : Capability). Ok (valid d)) (same_parts c h plain)
