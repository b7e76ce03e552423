-- A round of counting, cut into parts.
use Rattle.std.specs.Prelude.{◌≡◌, ℕ, ◌+◌, ◌-◌, ◌*◌, min, length}
use Rattle.cheri_model.specs.runs.Image.{opening_memory}
use Rattle.sample_tallies.specs.Tallies.{tally, add, numbers_from}
use Rattle.sample_checks.specs.Checks.{CheckedParts, decided_in, either_each}
use Rattle.sample_threads.specs.declared.rounds.Runs.{Runs}
use Rattle.sample_threads.specs.declared.rounds.Round.{Round}

-- How many of all runs come before a part, where so many were counted before the round, and each
-- part has so many.
abbrev pub cut_at : ℕ → ℕ → ℕ → ℕ → ℕ
cut_at done each count part = min count (done + each * part)

-- what so many runs give, from the one with this number on
pub record CountsFrom (runs : Runs) (first count : ℕ) (checked : CheckedParts) : Type 0 where
  pub sum : checked.sum ≡ tally runs.image.now runs.drawing.now (numbers_from first count)
  pub decided : checked.decided
      ≡ decided_in runs.image.now runs.drawing.now runs.properties.now (numbers_from first count)
  pub harts : checked.harts ≡ length runs.image.now.harts
  pub granules : checked.granules
      ≡ length (opening_memory runs.image.now.ram runs.image.now.granules)

-- what the first so many give
abbrev pub Counts : Runs → ℕ → CheckedParts → Type 0
Counts runs count checked = CountsFrom runs runs.first count checked

-- what a part of a round gives
abbrev pub CountsPart : Runs → Round → ℕ → CheckedParts → Type 0
CountsPart runs round part checked =
    let from = cut_at round.done round.each runs.count part in
    let to = cut_at round.done round.each runs.count (part + 1) in
    CountsFrom runs (runs.first + from) (to - from) checked

-- two that can be added: of machines of one size, and of as many properties
pub record IsAlike (one other : CheckedParts) : Type 0 where
  pub harts : other.harts ≡ one.harts
  pub granules : other.granules ≡ one.granules
  pub properties : length other.decided ≡ length one.decided

-- the sum of two
pub record IsSum (one other both : CheckedParts) : Type 0 where
  pub sum : both.sum ≡ add one.sum other.sum
  pub decided : both.decided ≡ either_each one.decided other.decided
  pub harts : both.harts ≡ one.harts
  pub granules : both.granules ≡ one.granules
