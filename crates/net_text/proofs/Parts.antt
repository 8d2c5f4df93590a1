-- Lists by number after a further part.
use Rattle.std.proofs.Common.{◌≡◌, ℕ, ◌+◌, Bool, true, false, cond, ◌||◌, List, [], ◌∷◌, ◌++◌, length, Option, Some, None, sym, ap, ◌∙◌, refl, inl, inr, arith, eqb, ltb}
use Rattle.std.specs.List.{list_any, count_by}
use Rattle.std.proofs.lemmas.Bool.{eqb-true, eqb-false, ne_eqb, cases_Bool}
use Rattle.std.proofs.lemmas.List.Folds.{list_any-append}
use Rattle.std.proofs.lemmas.List.Sums.{sum_by_push}
use Rattle.std.proofs.Math.Bool.{or-false}
use Rattle.list_laws.proofs.Tests.{eqb_comm, or_swap, passed_by}
use Rattle.network_model.specs.Network.{value_at}
use Rattle.network_model.specs.Building.{put, put_number, change_at}

pub any_push : {X : Type 0} (p : X → Bool) (xs : List X) (x : X) → list_any p (xs ++ x ∷ []) ≡ (list_any p xs || p x)
any_push p xs x = list_any-append p xs (x ∷ []) ∙ ap (λ b. list_any p xs || b) (or-false (p x))

pub count_push : {X : Type 0} (p : X → Bool) (xs : List X) (x : X) → count_by p (xs ++ x ∷ []) ≡ count_by p xs + cond (p x) 1 0
count_push p xs x = sum_by_push (λ y. cond (p y) 1 0) xs x

any_put_number_at : (p : ℕ → Bool) (id n : ℕ) (ns : List ℕ) (first : Bool) → list_any p (put_number id ns) ≡ (p id || list_any p ns) → list_any p (cond first (id ∷ n ∷ ns) (n ∷ put_number id ns)) ≡ (p id || (p n || list_any p ns))
any_put_number_at p id n ns true e = refl
any_put_number_at p id n ns false e = ap (λ b. p n || b) e ∙ or_swap (p n) (p id) (list_any p ns)

length_put_number_at : (id n : ℕ) (ns : List ℕ) (first : Bool) → length (put_number id ns) ≡ length ns + 1 → length (cond first (id ∷ n ∷ ns) (n ∷ put_number id ns)) ≡ length (n ∷ ns) + 1
length_put_number_at id n ns true e = omega arith
length_put_number_at id n ns false e = omega arith

any_put_at : {A : Type 0} (p : ℕ × A → Bool) (id : ℕ) (value : A) (e : ℕ × A) (es : List (ℕ × A)) (first : Bool) → list_any p (put id value es) ≡ (p (id, value) || list_any p es) → list_any p (cond first ((id, value) ∷ e ∷ es) (e ∷ put id value es)) ≡ (p (id, value) || (p e || list_any p es))
any_put_at p id value e es true h = refl
any_put_at p id value e es false h = ap (λ b. p e || b) h ∙ or_swap (p e) (p (id, value)) (list_any p es)

length_put_at : {A : Type 0} (id : ℕ) (value : A) (e : ℕ × A) (es : List (ℕ × A)) (first : Bool) → length (put id value es) ≡ length es + 1 → length (cond first ((id, value) ∷ e ∷ es) (e ∷ put id value es)) ≡ length (e ∷ es) + 1
length_put_at id value e es true h = omega arith
length_put_at id value e es false h = omega arith

value_at_put_at : {A : Type 0} (id q : ℕ) (value : A) (e : ℕ × A) (es : List (ℕ × A)) (first : Bool) → eqb e.0 id ≡ false
    → value_at (put id value es) q ≡ cond (eqb id q) (Some value) (value_at es q)
    → value_at (cond first ((id, value) ∷ e ∷ es) (e ∷ put id value es)) q ≡ cond (eqb id q) (Some value) (value_at (e ∷ es) q)
value_at_put_at id q value e es true other h = refl
value_at_put_at id q value e es false other h = elim (cases_Bool (eqb e.0 q)) [
  | inl own ↦
      let apart : eqb id q ≡ false = ne_eqb id q (λ s. eqb-false e.0 id other (eqb-true e.0 q own ∙ sym s)) in
      ap (λ b. cond b (Some e.1) (value_at (put id value es) q)) own
      ∙ sym (ap (λ b. cond b (Some value) (cond (eqb e.0 q) (Some e.1) (value_at es q))) apart ∙ ap (λ b. cond b (Some e.1) (value_at es q)) own)
  | inr own ↦
      ap (λ b. cond b (Some e.1) (value_at (put id value es) q)) own ∙ h
      ∙ sym (ap (λ b. cond (eqb id q) (Some value) (cond b (Some e.1) (value_at es q))) own)
]

pub value_at_put : {A : Type 0} (id : ℕ) (value : A) (es : List (ℕ × A)) → value_at es id ≡ None → (q : ℕ) → value_at (put id value es) q ≡ cond (eqb id q) (Some value) (value_at es q)
value_at_put id value [] absent q = refl
value_at_put id value (e ∷ es) absent q =
    let head = passed_by (eqb e.0 id) e.1 (value_at es id) absent in
    value_at_put_at id q value e es (ltb id e.0) head.0 (value_at_put id value es head.1 q)

-- an entry after a change at a number
abbrev changed_entry : {A : Type 0} → Bool → (A → A) → ℕ × A → ℕ × A
changed_entry here change e = cond here (e.0, change e.1) e

changed_head : {A : Type 0} (change : A → A) (same : Bool) (e : ℕ × A) (rest : Option A) (q : ℕ) →
    cond (eqb (changed_entry same change e).0 q) (Some (changed_entry same change e).1) rest ≡ cond (eqb e.0 q) (Some (cond same (change e.1) e.1)) rest
changed_head change true e rest q = refl
changed_head change false e rest q = refl

-- what a change at a number leaves at another
abbrev pub changed : {A : Type 0} → Bool → (A → A) → Option A → Option A
changed here change None = None
changed here change (Some x) = Some (cond here (change x) x)

value_at_change_at : {A : Type 0} (id q n : ℕ) (change : A → A) (x : A) (rest old : Option A) (own : Bool) → eqb n q ≡ own → rest ≡ changed (eqb id q) change old
    → cond own (Some (cond (eqb n id) (change x) x)) rest ≡ changed (eqb id q) change (cond own (Some x) old)
value_at_change_at id q n change x rest old true own h =
    ap (λ b. Some (cond b (change x) x)) (eqb_comm n id ∙ ap (λ m. eqb id m) (eqb-true n q own))
value_at_change_at id q n change x rest old false own h = h

pub value_at_change : {A : Type 0} (id : ℕ) (change : A → A) (es : List (ℕ × A)) (q : ℕ) → value_at (change_at id change es) q ≡ changed (eqb id q) change (value_at es q)
value_at_change id change [] q = refl
value_at_change id change (e ∷ es) q =
    changed_head change (eqb e.0 id) e (value_at (change_at id change es) q) q
    ∙ value_at_change_at id q e.0 change e.1 _ (value_at es q) (eqb e.0 q) refl (value_at_change id change es q)

any_change_at : {A : Type 0} (p : ℕ × A → Bool) (change : A → A) (same : (n : ℕ) (x : A) → p (n, change x) ≡ p (n, x)) (own : Bool) (e : ℕ × A) → p (cond own (e.0, change e.1) e) ≡ p e
any_change_at p change same true e = same e.0 e.1
any_change_at p change same false e = refl

pub any_change : {A : Type 0} (p : ℕ × A → Bool) (id : ℕ) (change : A → A) → ((n : ℕ) (x : A) → p (n, change x) ≡ p (n, x)) → (es : List (ℕ × A)) → list_any p (change_at id change es) ≡ list_any p es
any_change p id change same [] = refl
any_change p id change same (e ∷ es) = ap (λ b. b || list_any p (change_at id change es)) (any_change_at p change same (eqb e.0 id) e) ∙ ap (λ b. p e || b) (any_change p id change same es)
