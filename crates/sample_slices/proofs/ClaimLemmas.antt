-- First runs that can be drawn again.
use Rattle.std.proofs.Common.{◌≡◌, ◌∙◌, ◌≤◌, List, [], ◌∷◌, ◌++◌, All, length, subst, sym}
use Rattle.std.specs.Prelude.{Option, Some, None}
use Rattle.std.proofs.lemmas.List.Elements.{All-nil, All-push}
use Rattle.std.proofs.lemmas.Option.{same_Some}
use Rattle.cheri_model.specs.runs.Image.{ImageParts, opening_memory}
use Rattle.cheri_model.specs.runs.Machine.{MachineState}
use Rattle.sample_checks.specs.Checks.{is_drawn}
use Rattle.sample_draws.specs.declared.drawing.TheConstants.{MAX_RUN}
use Rattle.sample_tallies.proofs.WithinLemmas.{end_within, trap_within}
use Rattle.sample_tallies.specs.Claims.{claimed, with_end, with_trap}
use Rattle.sample_tallies.specs.Counts.{Counted}
use Rattle.sample_tallies.specs.Tables.{Entry}
use Rattle.sample_tallies.specs.Within.{IsWithin, is_drawable}
use Rattle.sample_tallies.specs.declared.claims.Claims.{Claims}
use Rattle.sample_tallies.specs.declared.seen.Seen.{Seen}
use Rattle.sample_texts.specs.SampleParts.{IsTold}
use Rattle.sample_tallies.specs.declared.seen.TrapPlace.{TrapPlace}

pub some_drawn : (seen : Seen) → seen.first ≤ MAX_RUN → is_drawn (Some seen)
some_drawn seen within other is =
    let P : Seen → Type 0 = λ s. s.first ≤ MAX_RUN in
    subst P (same_Some seen other is) within

pub none_drawn : is_drawn None
none_drawn seen is = absurd (cc)

pub claims_within : (claims : Claims) → is_drawn claims.cut → is_drawn claims.hung → IsWithin (claimed claims)
claims_within claims cut hung = record {
  cut = cut;
  hung = hung;
  traps = All-nil (λ (x : Entry TrapPlace). is_drawable x.seen);
  ends = All-nil (λ (x : Entry MachineState). is_drawable x.seen);
}

pub none_decided : All is_drawn []
none_decided = All-nil is_drawn

pub one_decided : (decided : List (Option Seen)) (one : Option Seen) → All is_drawn decided → is_drawn one
    → All is_drawn (decided ++ one ∷ [])
one_decided decided one all drawn = All-push is_drawn decided one all drawn

pub ruleset all_drawn = (some_drawn, none_drawn, none_decided, one_decided)

-- ---- tallies

pub claims_told : (image : ImageParts) (tally : Counted) (claims : Claims) → tally.sum ≡ claimed claims
    → tally.harts ≡ length image.harts → tally.granules ≡ length (opening_memory image.ram image.granules)
    → IsWithin (claimed claims) → IsTold image tally
claims_told image tally claims is harts granules within = record {
  harts = harts;
  granules = granules;
  within = subst IsWithin (sym is) within;
}

pub trap_told : (image : ImageParts) (tally more : Counted) (trap : Entry TrapPlace) → IsTold image tally
    → more.sum ≡ with_trap tally.sum trap → more.harts ≡ tally.harts → more.granules ≡ tally.granules → is_drawable trap.seen
    → IsTold image more
trap_told image tally more trap told is harts granules drawn = record {
  harts = harts ∙ told.harts;
  granules = granules ∙ told.granules;
  within = subst IsWithin (sym is) (trap_within tally.sum trap told.within drawn);
}

pub end_told : (image : ImageParts) (tally more : Counted) (end : Entry MachineState) → IsTold image tally
    → more.sum ≡ with_end tally.sum end → more.harts ≡ tally.harts → more.granules ≡ tally.granules → is_drawable end.seen
    → IsTold image more
end_told image tally more end told is harts granules drawn = record {
  harts = harts ∙ told.harts;
  granules = granules ∙ told.granules;
  within = subst IsWithin (sym is) (end_within tally.sum end told.within drawn);
}

pub ruleset tallies = (some_drawn, none_drawn, claims_within, claims_told, trap_told)
