-- The last label of so many, one step down.
use Rattle.std.proofs.Common.{◌≡◌, ℕ, zero, suc, ◌-◌, ◌<◌, ◌≤◌, true, false, List, Some, None, refl, sym, arith, ◌∙◌}
use Rattle.std.specs.Prelude.{Option}
use Rattle.std.specs.Option.{is_some}
use Rattle.std.proofs.lemmas.Bool.{false≢true}
use Rattle.asm_symbols.specs.declared.locals.Local.{Local}
use Rattle.asm_tokens.specs.Tokens.{TokenParts}
use Rattle.asm_links.specs.Locals.{label_at, last_before, or_others}

last_step : (tokens : List TokenParts) (digits : List ℕ) (locals : List Local) (at : ℕ) → 0 < at
    → last_before tokens digits locals at
    ≡ or_others (label_at tokens digits locals (at - 1)) (last_before tokens digits locals (at - 1))
unfolding last_before
last_step tokens digits locals zero some = absurd (omega arith)
last_step tokens digits locals (suc at) some =
    let down : suc at - 1 ≡ at = omega arith in
    rw down refl

found_is : (found others : Option Local) → is_some found ≡ true → or_others found others ≡ found
found_is (Some local) others some = refl
found_is None others some = absurd (false≢true some)

none_is : (found others : Option Local) → is_some found ≡ false → or_others found others ≡ others
none_is (Some local) others none = absurd (false≢true (sym none))
none_is None others none = refl

module _ (tokens : List TokenParts) (digits : List ℕ) (locals : List Local) (at : ℕ) (whole found : Option Local) (some : 0 < at)
    (is : found ≡ label_at tokens digits locals (at - 1)) (so_far : last_before tokens digits locals at ≡ whole) where
  now_step : or_others found (last_before tokens digits locals (at - 1)) ≡ whole
  now_step = rw is (sym (last_step tokens digits locals at some) ∙ so_far)

  pub last_found : is_some found ≡ true → found ≡ whole
  last_found here = sym (found_is found (last_before tokens digits locals (at - 1)) here) ∙ now_step

  pub last_other : is_some found ≡ false → last_before tokens digits locals (at - 1) ≡ whole
  last_other none = sym (none_is found (last_before tokens digits locals (at - 1)) none) ∙ now_step

-- none is left
pub last_none : (tokens : List TokenParts) (digits : List ℕ) (locals : List Local) (at : ℕ) (whole : Option Local)
    → at ≤ 0 → last_before tokens digits locals at ≡ whole → None ≡ whole
unfolding last_before
last_none tokens digits locals zero whole none so_far = so_far
last_none tokens digits locals (suc at) whole none so_far = absurd (omega arith)
