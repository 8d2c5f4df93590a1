-- The words from which a network is generated: the 32-bit outputs of PCG XSH RR 64/32.
--     generator   the generator of a seed, on stream 1
--     after       a generator that has given so many words
--     nth_word    the word that it gives after so many others
use Rattle.std.specs.Prelude.{ℕ}
use Rattle.rand_pcg.specs.Lcg.{Lcg, advance, started, increment_of}
use Rattle.rand_pcg.specs.Pcg.{multiplier_64, pcg32}

unfoldable pub generator : ℕ → Lcg
generator seed = started 64 multiplier_64 seed (increment_of 64 1)

unfoldable pub after : ℕ → Lcg → Lcg
after count start = advance 64 multiplier_64 count start

unfoldable pub nth_word : Lcg → ℕ → ℕ
nth_word start n = (pcg32 (after n start)).0
