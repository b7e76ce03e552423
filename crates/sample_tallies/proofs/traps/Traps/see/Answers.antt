use Rattle.std.proofs.Common.{◌<◌, List, length, map, refl, ap, ◌∙◌, subst}
use Rattle.std.specs.Prelude.{slice_get}
use Rattle.sample_tallies.specs.declared.seen.TrapPlace.{TrapPlace}
use Rattle.sample_tallies.specs.declared.seen.TrapSeen.{TrapSeen}
use Rattle.sample_tallies.specs.Tables.{Entry, with_entry}
use Rattle.sample_tallies.specs.SameStates.{same_place}
use Rattle.sample_tallies.specs.Counts.{entry_of}
use Rattle.sample_tallies.proofs.TrapLemmas.{trap_new, trap_put}
use Rattle.sample_tallies.proofs.traps.Traps.see.Goals as goal

pub returns-in_ok-push-in-None : goal.returns-in_ok-push-in-None
returns-in_ok-push-in-None c =
    let traps = c.self.inside.traps.items in
    ap (map entry_of) c.in_ok-push-in-None.ensures.items
    ∙ trap_new traps c.args.trap
    (λ i t at. c.in-None.ensures.none refl i t (ap (λ (xs : List TrapSeen). slice_get xs i) c.as_slice.ensures.value ∙ at))
    ∙ ap (λ (t : List (Entry TrapPlace)). with_entry same_place t (entry_of c.args.trap)) c.self.view_is

pub returns-in_ok-seen-in-Some : goal.returns-in_ok-seen-in-Some
returns-in_ok-seen-in-Some c =
    let traps = c.self.inside.traps.items in
    let n = c.in-Some.number in
    let within : n < length traps = subst (λ (xs : List TrapSeen). n < length xs) c.as_slice.ensures.value
    c.in-Some.ensures.within in
    trap_put traps n c.index_mut.result.now c.index.result.now c.args.trap c.in_ok-seen-in-Some.seen within
    c.index_mut.ensures.value c.index.ensures c.in_ok-seen-in-Some.ensures
    (λ t at. c.in-Some.ensures.at t (ap (λ (xs : List TrapSeen). slice_get xs n) c.as_slice.ensures.value ∙ at))
    (λ i t below at. c.in-Some.ensures.first i t below
    (ap (λ (xs : List TrapSeen). slice_get xs i) c.as_slice.ensures.value ∙ at))
    ∙ ap (λ (t : List (Entry TrapPlace)). with_entry same_place t (entry_of c.args.trap)) c.self.view_is
