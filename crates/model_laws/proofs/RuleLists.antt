-- Lists that end in a further element, and those that go on from others.
use Rattle.std.proofs.Common.{◌≡◌, ◌⊎◌, ℕ, zero, suc, ◌+◌, ◌-◌, ◌<◌, ◌≤◌, List, [], ◌∷◌, ◌++◌, length, map, take, drop, refl, sym, ap, ◌∙◌, subst, inl, inr, ⊎_elim, arith}
use Rattle.std.specs.List.{Contains}
use Rattle.std.proofs.lemmas.Bool.{cases_lt}
use Rattle.std.proofs.lemmas.List.{length-map, get_or-map, append-nil, append_assoc, length-append, take-append-drop, length-take-le, length-drop}
use Rattle.list_laws.proofs.Places.{split_last, empty}
use Rattle.list_laws.proofs.Members.{Contains-nil}
use Rattle.network_model.specs.Prefixes.{Extends, IsFurther, extended}

pub longer : (rules : List ℕ) (rule : ℕ) → length (extended rules rule) ≡ length rules + 1
longer rules rule = omega (arith, length-append rules (rule ∷ []))

-- how long a list is that goes on from another
pub extends_length : (start : List ℕ) (count : ℕ) (rules : List ℕ) → Extends start count rules → length rules ≡ length start + count
extends_length start count rules e = ap length e.begins ∙ omega (arith, length-append start e.more, e.long)

-- a list goes on from itself by nothing
pub extends_itself : (rules : List ℕ) → Extends rules 0 rules
extends_itself rules = record { more = []; begins = sym (append-nil rules); long = refl }

pub extends_nothing : (start rules : List ℕ) → Extends start 0 rules → rules ≡ start
extends_nothing start rules e = e.begins ∙ (ap (λ l. start ++ l) (empty e.more e.long) ∙ append-nil start)

-- one rule further
pub extends_more : (start : List ℕ) (count : ℕ) (rules : List ℕ) (rule : ℕ) → Extends start count rules → Extends start (count + 1) (extended rules rule)
extends_more start count rules rule e = record {
  more = e.more ++ rule ∷ [];
  begins = ap (λ l. l ++ rule ∷ []) e.begins ∙ append_assoc start e.more (rule ∷ []);
  long = omega (arith, length-append e.more (rule ∷ []), e.long);
}

-- the part of a list that goes on by so many rules
pub extends_part : (start : List ℕ) (n count : ℕ) (rules : List ℕ) → n ≤ count → Extends start count rules
    → (front : List ℕ) × (more : List ℕ) × (rules ≡ front ++ more) × Extends start n front × (length more ≡ count - n)
extends_part start n count rules h e =
    let whole : e.more ≡ take n e.more ++ drop n e.more = sym (take-append-drop n e.more) in (
      start ++ take n e.more,
      drop n e.more,
      e.begins ∙ (ap (λ l. start ++ l) whole ∙ sym (append_assoc start (take n e.more) (drop n e.more))),
      record { more = take n e.more; begins = refl; long = length-take-le n e.more (omega (arith, e.long)) },
      length-drop n e.more ∙ ap (λ k. k - n) e.long,
    )

-- a list that is one rule longer without the last
pub extends_less : (start : List ℕ) (n : ℕ) (rules : List ℕ) → Extends start (n + 1) rules
    → (front : List ℕ) × (rule : ℕ) × (rules ≡ extended front rule) × Extends start n front
extends_less start n rules e =
    let split = split_last e.more n e.long in (
      start ++ split.0,
      split.1,
      e.begins ∙ (ap (λ l. start ++ l) split.2 ∙ sym (append_assoc start split.0 (split.1 ∷ []))),
      record { more = split.0; begins = refl; long = split.3 },
    )

-- lists go on by no more rules than by greater numbers of them
pub further_weaker : (start : List ℕ) (n depth : ℕ) (rules : List ℕ) → n ≤ depth → IsFurther start n rules → IsFurther start depth rules
further_weaker start n depth rules h f = record { count = f.count; some = f.some; most = omega (arith, f.most); extends = f.extends }

-- a list that goes on by at most one rule more does so by fewer, or by just so many
pub further_cases : (start : List ℕ) (n : ℕ) (rules : List ℕ) → IsFurther start (n + 1) rules → IsFurther start n rules ⊎ Extends start (n + 1) rules
further_cases start n rules f = ⊎_elim
    (λ (less : f.count < n + 1). inl (record { count = f.count; some = f.some; most = omega arith; extends = f.extends }))
    (λ (more : n + 1 ≤ f.count).
    let same : f.count ≡ n + 1 = omega (arith, f.most) in
    inr (subst (λ k. Extends start k rules) same f.extends))
    (cases_lt f.count (n + 1))

pub further_length : (start : List ℕ) (n : ℕ) (rules : List ℕ) → IsFurther start n rules → length rules ≤ length start + n
further_length start n rules f = omega (arith, f.most, extends_length start f.count rules f.extends)
