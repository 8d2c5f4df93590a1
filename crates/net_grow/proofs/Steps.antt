-- One rule more behind those that stand so far: more of one edge's, or the last of an edge.
use Rattle.std.proofs.Common.{◌≡◌, ℕ, ◌+◌, ◌*◌, List, [], ◌∷◌, ◌++◌, sym, ap, ◌∙◌, add-zero}
use Rattle.std.proofs.lemmas.List.{append_assoc}
use Rattle.network_model.specs.Network.{Numbered}
use Rattle.rand_pcg.specs.Lcg.{Lcg}
use Rattle.net_grow.specs.Generated.{outward_at, outward_some, outward_edges, core_rules, inward_at, inward_some, inward_edges}
use Rattle.net_grow.specs.Rules.{outward, outward_last, core, inward, inward_last}
use Rattle.net_grow.specs.Words.{after, nth_word}
use Rattle.net_grow.proofs.OneMore.{outward_some-more, outward_edges-more, core_rules-more, inward_some-more, inward_edges-more}
use Rattle.net_grow.proofs.Sequence.{nth_word-after}

pushed : (start edges some rules new more : List Numbered) (r : Numbered) → rules ≡ start ++ (edges ++ some) → new ≡ rules ++ r ∷ []
    → more ≡ edges ++ (some ++ r ∷ []) → new ≡ start ++ more
pushed start edges some rules new more r so_far made is =
    made
    ∙ ap (λ rs. rs ++ r ∷ []) so_far
    ∙ append_assoc start (edges ++ some) (r ∷ [])
    ∙ ap (λ rs. start ++ rs) (append_assoc edges some (r ∷ []) ∙ sym is)

-- the word so far behind the first n ones
word_at : (words g : Lcg) (n k : ℕ) → words ≡ after n g → nth_word words k ≡ nth_word g (n + k)
word_at words g n k is = ap (λ s. nth_word s k) is ∙ nth_word-after k n g

first_at : (words g : Lcg) (n : ℕ) → words ≡ after n g → nth_word words 0 ≡ nth_word g n
first_at words g n is = word_at words g n 0 is ∙ ap (nth_word g) (add-zero n)

outward_drawn : (words g : Lcg) (e j : ℕ) → words ≡ after (4 * (63 * e + j)) g
    → outward e j (nth_word words 0) (nth_word words 1) (nth_word words 2) (nth_word words 3) ≡ outward_at (nth_word g) e j
outward_drawn words g e j is =
    let a = first_at words g (4 * (63 * e + j)) is in
    let b = word_at words g (4 * (63 * e + j)) 1 is in
    let c = word_at words g (4 * (63 * e + j)) 2 is in
    let f = word_at words g (4 * (63 * e + j)) 3 is in
    cc

inward_drawn : (words g : Lcg) (e j : ℕ) → words ≡ after (2 * (31 * e + j)) g
    → inward e j (nth_word words 0) (nth_word words 1) ≡ inward_at (nth_word g) e j
inward_drawn words g e j is =
    let a = first_at words g (2 * (31 * e + j)) is in
    let b = word_at words g (2 * (31 * e + j)) 1 is in
    cc

pub outward_more : (start rules new : List Numbered) (words g : Lcg) (e j : ℕ) (r : Numbered) → words ≡ after (4 * (63 * e + j)) g
    → r ≡ outward e j (nth_word words 0) (nth_word words 1) (nth_word words 2) (nth_word words 3)
    → rules ≡ start ++ (outward_edges (nth_word g) e ++ outward_some (nth_word g) j e) → new ≡ rules ++ r ∷ []
    → new ≡ start ++ (outward_edges (nth_word g) e ++ outward_some (nth_word g) (j + 1) e)
outward_more start rules new words g e j r drawn is so_far made =
    let edges = outward_edges (nth_word g) e in
    let some = outward_some (nth_word g) j e in
    pushed start edges some rules new _ r so_far made
    (ap (λ rs. edges ++ rs) (outward_some-more (nth_word g) j e ∙ ap (λ x. some ++ x ∷ []) (sym (is ∙ outward_drawn words g e j drawn))))

pub outward_done : (start rules new : List Numbered) (g : Lcg) (e j : ℕ) (r : Numbered) → j ≡ 63 → r ≡ outward_last e
    → rules ≡ start ++ (outward_edges (nth_word g) e ++ outward_some (nth_word g) j e) → new ≡ rules ++ r ∷ []
    → new ≡ start ++ outward_edges (nth_word g) (e + 1)
outward_done start rules new g e j r all is so_far made =
    let edges = outward_edges (nth_word g) e in
    pushed start edges (outward_some (nth_word g) j e) rules new _ r so_far made
    (outward_edges-more (nth_word g) e
    ∙ ap (λ rs. edges ++ rs) (ap (λ n. outward_some (nth_word g) n e ++ outward_last e ∷ []) (sym all)
    ∙ ap (λ x. outward_some (nth_word g) j e ++ x ∷ []) (sym is)))

pub core_more : (start rules new : List Numbered) (e : ℕ) (r : Numbered) → r ≡ core e → rules ≡ start ++ core_rules e → new ≡ rules ++ r ∷ []
    → new ≡ start ++ core_rules (e + 1)
core_more start rules new e r is so_far made =
    made
    ∙ ap (λ rs. rs ++ r ∷ []) so_far
    ∙ append_assoc start (core_rules e) (r ∷ [])
    ∙ ap (λ rs. start ++ rs) (ap (λ x. core_rules e ++ x ∷ []) is ∙ sym (core_rules-more e))

pub inward_more : (start rules new : List Numbered) (words g : Lcg) (e j : ℕ) (r : Numbered) → words ≡ after (2 * (31 * e + j)) g
    → r ≡ inward e j (nth_word words 0) (nth_word words 1)
    → rules ≡ start ++ (inward_edges (nth_word g) e ++ inward_some (nth_word g) j e) → new ≡ rules ++ r ∷ []
    → new ≡ start ++ (inward_edges (nth_word g) e ++ inward_some (nth_word g) (j + 1) e)
inward_more start rules new words g e j r drawn is so_far made =
    let edges = inward_edges (nth_word g) e in
    let some = inward_some (nth_word g) j e in
    pushed start edges some rules new _ r so_far made
    (ap (λ rs. edges ++ rs) (inward_some-more (nth_word g) j e ∙ ap (λ x. some ++ x ∷ []) (sym (is ∙ inward_drawn words g e j drawn))))

pub inward_done : (start rules new : List Numbered) (g : Lcg) (e j : ℕ) (r : Numbered) → j ≡ 31 → r ≡ inward_last e
    → rules ≡ start ++ (inward_edges (nth_word g) e ++ inward_some (nth_word g) j e) → new ≡ rules ++ r ∷ []
    → new ≡ start ++ inward_edges (nth_word g) (e + 1)
inward_done start rules new g e j r all is so_far made =
    let edges = inward_edges (nth_word g) e in
    pushed start edges (inward_some (nth_word g) j e) rules new _ r so_far made
    (inward_edges-more (nth_word g) e
    ∙ ap (λ rs. edges ++ rs) (ap (λ n. inward_some (nth_word g) n e ++ inward_last e ∷ []) (sym all)
    ∙ ap (λ x. inward_some (nth_word g) j e ++ x ∷ []) (sym is)))
