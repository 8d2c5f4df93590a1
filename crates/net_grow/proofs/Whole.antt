-- The rules of the network are those outward, of the core and inward, in this order, and the inward ones draw on.
use Rattle.std.proofs.Common.{◌≡◌, ℕ, ◌+◌, [], ◌++◌, ap, ◌∙◌}
use Rattle.network_model.specs.Network.{Network}
use Rattle.rand_pcg.specs.Lcg.{Lcg}
use Rattle.net_grow.specs.Adding.{with_rules}
use Rattle.net_grow.specs.Generated.{outward_edges, core_rules, inward_edges, generated, grown}
use Rattle.net_grow.specs.Places.{places}
use Rattle.net_grow.specs.Words.{generator, after, nth_word}
use Rattle.net_grow.proofs.Begin.{no_rules}
use Rattle.net_grow.proofs.Sequence.{inward_from}

pub whole : (start second third last : Network) (words rest : Lcg) (seed : ℕ) → start ≡ places 16 → words ≡ generator seed
    → second.rules ≡ start.rules ++ outward_edges (nth_word words) 16 → rest ≡ after 4032 words
    → third.rules ≡ second.rules ++ core_rules 16
    → last.rules ≡ third.rules ++ inward_edges (nth_word rest) 16 → last ≡ with_rules last.rules → last ≡ grown seed
unfolding grown generated
whole start second third last words rest seed begins seeded outward drawn core inward has =
    let none : start.rules ≡ [] = ap (λ (n : Network). n.rules) begins ∙ no_rules in
    let front = outward_edges (nth_word words) 16 ++ core_rules 16 in
    has
    ∙ ap with_rules
    (inward
    ∙ ap (λ rs. rs ++ inward_edges (nth_word rest) 16)
    (core ∙ ap (λ rs. rs ++ core_rules 16) (outward ∙ ap (λ rs. rs ++ outward_edges (nth_word words) 16) none))
    ∙ ap (λ w. front ++ inward_edges (nth_word w) 16) drawn
    ∙ ap (λ rs. front ++ rs) (inward_from 16 4032 words)
    ∙ ap (λ w. outward_edges (nth_word w) 16 ++ core_rules 16 ++ inward_edges (λ n. nth_word w (4032 + n)) 16) seeded)
