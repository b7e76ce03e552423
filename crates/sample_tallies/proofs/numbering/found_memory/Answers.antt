use Rattle.std.proofs.Common.{◌≡◌, true, length, refl, sym, ◌∙◌, arith, rules}
use Rattle.std.proofs.lemmas.Option.{slice_get_read}
use Rattle.sample_tallies.proofs.numbering.found_memory.Goals as goal

pub returns : goal.returns
returns c =
    let same : c.are_same_changes.result ≡ true = search rules in
    let known = c.index-memories-place.result in (
      c.args.place,
      known,
      slice_get_read c.args.memories.now (length c.args.memories.now) c.args.place known refl (omega arith)
          c.index-memories-place.is,
      refl,
      sym c.as_slice.ensures.value ∙ c.are_same_changes.ensures same,
    )
