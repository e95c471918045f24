-- Interleavings that are drawn at random, with replacement, each with the same chance: the sessions' turns, shuffled.
-- Sources: Knuth, The Art of Computer Programming, volume 2, section 3.4.2 (Fisher and Yates's shuffle gives each permutation with the same chance, and each interleaving is as many permutations of the turns as any other); O'Neill, "PCG: a family of simple fast space-efficient statistically good algorithms for random number generation".
use Rattle.std.specs.Prelude.{ℕ, suc, ◌+◌, ◌*◌, ◌%◌, ◌^◌, List, [], ◌∷◌, ◌++◌, map, replicate, sum}
use Rattle.std.specs.List.{range_with_len}
use Rattle.rand.specs.Shuffle.{shuffled}
use Rattle.rand_core.specs.Pcg32Seed.{pcg32_seed}
use Rattle.rand_core.specs.Steps.{stream_of, steps_u64_low}
use Rattle.rand_pcg.specs.Lcg.{Lcg, advance}
use Rattle.rand_pcg.specs.Pcg.{multiplier_128, pcg64, pcg64_of_seed}

-- What is drawn from: how many lines each session has, the seed, and how many interleavings are drawn.
pub record Sampled : Type 0 where
  pub lines : List ℕ
  pub seed : ℕ
  pub count : ℕ

-- the sessions from the s-th on, one after the other, each as often as it has lines
abbrev pub in_a_row : ℕ → List ℕ → List ℕ
in_a_row s [] = []
in_a_row s (n ∷ ns) = replicate n s ++ in_a_row (suc s) ns

-- The generator of a seed, at the n-th draw of `turns` turns: for each draw before it, words are laid aside, twice as many as there are turns and one. It has 2^128 words, and begins anew after them.
unfoldable pub generator_at : ℕ → ℕ → ℕ → Lcg
generator_at seed turns n = advance 128 multiplier_128 (n * (2 * turns + 1) % 2 ^ 128) (pcg64_of_seed (pcg32_seed 32 seed))

-- the n-th interleaving that is drawn: the sessions in a row, shuffled
unfoldable pub drawn : Sampled → ℕ → List ℕ
drawn s n = (shuffled (in_a_row 0 s.lines) 0 (stream_of (steps_u64_low pcg64) (generator_at s.seed (sum s.lines) n))).0

-- all that are drawn, in their order
unfoldable pub draws : Sampled → List (List ℕ)
draws s = map (drawn s) (range_with_len 0 s.count)
