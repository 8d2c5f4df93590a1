-- The words of a generator, one after the other.
use Rattle.std.proofs.Common.{◌≡◌, ℕ, zero, suc, ◌+◌, refl, sym, ap, ◌∙◌, zero-add, add-zero, suc-add}
use Rattle.rand_pcg.specs.Lcg.{Lcg, state_after, next_state}
use Rattle.rand_pcg.specs.Pcg.{multiplier_64, pcg32}
use Rattle.net_grow.specs.Generated.{inward_edges}
use Rattle.net_grow.specs.Words.{after, nth_word}

state_more : (w m p a b s : ℕ) → state_after w m p a (state_after w m p b s) ≡ state_after w m p (b + a) s
unfolding state_after
state_more w m p a zero s = ap (λ n. state_after w m p n s) (sym (zero-add a))
state_more w m p a (suc b) s = state_more w m p a b (next_state w m p s) ∙ ap (λ n. state_after w m p n s) (sym (suc-add b a))

with_state : Lcg → ℕ → Lcg
with_state g s = record g { state = s }

pub after_more : (a b : ℕ) (g : Lcg) → after a (after b g) ≡ after (b + a) g
unfolding after with_state
after_more a b g = ap (with_state g) (state_more 64 multiplier_64 g.increment a b g.state)

pub after_none : (g : Lcg) → after 0 g ≡ g
unfolding after state_after
after_none g = refl

pub nth_word-after : (a b : ℕ) (g : Lcg) → nth_word (after b g) a ≡ nth_word g (b + a)
unfolding nth_word
nth_word-after a b g = ap (λ (s : Lcg). (pcg32 s).0) (after_more a b g)

-- a word that a generator gives after so many, and where it then stands
pub drawn : (g before : Lcg) (count word : ℕ) → before ≡ after count g → word ≡ nth_word before 0 → word ≡ nth_word g count
drawn g before count word is given = given ∙ ap (λ s. nth_word s 0) is ∙ nth_word-after 0 count g ∙ ap (nth_word g) (add-zero count)

pub stands : (g before next : Lcg) (count : ℕ) → before ≡ after count g → next ≡ after 1 before → next ≡ after (count + 1) g
stands g before next count is went = went ∙ ap (after 1) is ∙ after_more 1 count g

pub first_word : (g : Lcg) → (pcg32 g).0 ≡ nth_word g 0
unfolding nth_word after state_after
first_word g = refl

pub first_rest : (g : Lcg) → (pcg32 g).1 ≡ after 1 g
unfolding after state_after
first_rest g = refl

-- the inward rules draw on where the outward ones stopped
pub inward_from : (count b : ℕ) (g : Lcg) → inward_edges (nth_word (after b g)) count ≡ inward_edges (λ n. nth_word g (b + n)) count
inward_from count b g = λ i. inward_edges (λ n. nth_word-after n b g i) count
