-- What a seeded chooser chooses: `rand`'s shuffle and `rand`'s draw from a range, on the words of ChaCha20.
use Rattle.std.specs.Prelude.{◌≡◌, ℕ, ◌+◌, ◌^◌, List}
use Rattle.rand_core.specs.Stream.{Stream, next_u32}
use Rattle.rand_core.specs.Steps.{stream_of, steps_u32}
use Rattle.rand_chacha.specs.ChaCha.{ChaCha, next_word}
pub use Rattle.rand_chacha.specs.ChaCha.{of_seed}
use Rattle.rand.specs.Shuffle.{shuffled}
use Rattle.rand.specs.Uniform.{canon, below_or_word}

-- the words to come: those of ChaCha with 20 rounds, that is 10 double rounds
abbrev pub words_of : ChaCha → Stream
words_of = stream_of (steps_u32 (next_word 10))

-- two states with the same words to come
abbrev pub HaveSameWords : ChaCha → ChaCha → Type 0
HaveSameWords one other = words_of one ≡ words_of other

-- the order, and the words that are left, are those of the shuffle
abbrev pub DrawsOrder : ChaCha → List ℕ → List ℕ → ChaCha → Type 0
DrawsOrder before ids order after = (order, words_of after) ≡ shuffled ids 0 (words_of before)

-- the place, and the words that are left, are those of the draw of a 32-bit number from 0 to the last place
abbrev pub DrawsPlace : ChaCha → ℕ → ℕ → ChaCha → Type 0
DrawsPlace before last place after =
    (place, words_of after) ≡ below_or_word canon (2 ^ 32) next_u32 (last + 1) (words_of before)
