-- The generator of a run, and what its words draw. A generator is its state, four words
-- (xoshiro256++ of Blackman and Vigna); SplitMix64 makes the first state of a number.
use Rattle.std.specs.Prelude.{ℕ, ◌+◌, ◌*◌, ◌/◌, ◌^◌, List}
use Rattle.rand_xoshiro.specs.SplitMix64.{splitmix_seed}
use Rattle.rand_xoshiro.specs.Xoshiro256.{of_seed, plus_plus}

-- the number that the generator of a run is made of: no two runs of any seeds have the same
abbrev pub number_of_run : ℕ → ℕ → ℕ
number_of_run seed run = seed * 2 ^ 40 + run

unfoldable pub generator_of : ℕ → ℕ → List ℕ
generator_of seed run = of_seed (splitmix_seed 32 (number_of_run seed run))

-- the generator's next word, and the generator after it
unfoldable pub next_word : List ℕ → ℕ × List ℕ
next_word words = plus_plus words

-- the number below `count` that a word draws: each of them has as many words, up to one in 2^64
unfoldable pub share : ℕ → ℕ → ℕ
share word count = word * count / 2 ^ 64

-- a number below `count`, and the generator after it
unfoldable pub drawn : ℕ → List ℕ → ℕ × List ℕ
drawn count words = (share (next_word words).0 count, (next_word words).1)
