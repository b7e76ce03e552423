-- Origins from the last one on.
use Rattle.std.proofs.Common.{◌≡◌, ℕ, ◌+◌, ◌-◌, ◌<◌, ◌≤◌, List, ◌∷◌, length, get_or, drop, set, Option, refl, ap, ◌∙◌, arith, add-one, drop-cons}
use Rattle.std.specs.Option.{unwrap_or}
use Rattle.std.proofs.Math.ListN.{length-set}
use Rattle.std.proofs.lemmas.List.{drop_all}
use Rattle.std.proofs.lemmas.Grind.{drop-set_at}
use Rattle.asm_instructions.specs.declared.origin.Origin.{Origin}
use Rattle.asm_instructions.specs.Origins.{filled, before_first, gap_before, no_origin}

pub record AreFilled (marks : List (Option Origin)) (origins : List Origin) (next : Origin) (at : ℕ) : Type 0 where
  pub size : length origins ≡ length marks
  pub inside : at ≤ length marks
  pub filled_so_far : drop at origins ≡ filled (drop at marks)
  pub next_is : next ≡ before_first (filled (drop at marks))

pub fill_begins : (marks : List (Option Origin)) (origins : List Origin) → length origins ≡ length marks → AreFilled marks origins no_origin (length marks)
unfolding filled
fill_begins marks origins same =
    record {
      size = same;
      inside = omega arith;
      filled_so_far = rw (drop_all (length marks) origins (omega (arith, same)), drop_all (length marks) marks (omega arith)) refl;
      next_is = rw (drop_all (length marks) marks (omega arith)) refl;
    }

pub fill_step : (marks : List (Option Origin)) (origins after : List Origin) (next : Origin) (at : ℕ) (mark d : Option Origin) (origin : Origin)
    → AreFilled marks origins next (at + 1) → mark ≡ get_or marks at d → origin ≡ unwrap_or mark next → after ≡ set origins at origin
    → AreFilled marks after (gap_before origin) at
unfolding filled
fill_step marks origins after next at mark d origin so_far here chosen put =
    let room : at < length marks = omega (arith, so_far.inside) in
    let same : drop at marks ≡ mark ∷ drop (at + 1) marks = rw (here, add-one) (drop-cons marks at d room) in
    let written : drop at after ≡ origin ∷ drop (at + 1) origins = rw put (drop-set_at origins at at origin refl (omega (arith, room, so_far.size))) in
    let value : origin ≡ unwrap_or mark (before_first (filled (drop (at + 1) marks))) = chosen ∙ ap (unwrap_or mark) so_far.next_is in
    let whole : drop at after ≡ filled (drop at marks) = rw same (written ∙ rw (← value) (ap (λ rest. origin ∷ rest) so_far.filled_so_far)) in
    record {
      size = rw put (length-set origins at origin ∙ so_far.size);
      inside = omega (arith, room);
      filled_so_far = whole;
      next_is = rw same (rw (← value) refl);
    }

pub fill_before : (marks : List (Option Origin)) (origins : List Origin) (next : Origin) (at : ℕ) (mark d : Option Origin) (origin : Origin)
    → 0 < at → AreFilled marks origins next at → mark ≡ get_or marks (at - 1) d → origin ≡ unwrap_or mark next
    → AreFilled marks (set origins (at - 1) origin) (gap_before origin) (at - 1)
fill_before marks origins next at mark d origin some so_far here chosen =
    let same : at - 1 + 1 ≡ at = omega (arith, some) in
    fill_step marks origins _ next (at - 1) mark d origin (rw same so_far) here chosen refl
