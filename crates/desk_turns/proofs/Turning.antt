-- The rule once the desk lies in its slot, and histories that one entry is added to.
use Rattle.std.proofs.Common.{◌≡◌, ◌≢◌, ℕ, zero, suc, ◌+◌, ◌<◌, ◌≤◌, ◌==◌, true, false, cond, List, [], ◌∷◌, ◌++◌, length, drop, sym, ap, ◌∙◌, subst, inl, inr, arith, length-append, append-nil}
use Rattle.std.specs.List.{All, filter, enumerate_from}
use Rattle.std.proofs.lemmas.List.{append_assoc, drop-append-le, length-drop}
use Rattle.std.proofs.lemmas.List.Elements.{All-head, filter-append}
use Rattle.std.proofs.lemmas.Bool.Decides.{nat_tests}
use mathlib.Core.Option.{some, some-ne-none, some-injective}
use lib.ListN.{get_elem?}
use Rattle.atomic_table.specs.Table.{State}
use Rattle.desk_core.specs.declared.event.Logged.{Logged}
use Rattle.desk_turns.specs.declared.rule.Opened.{Opened}
use Rattle.desk_turns.specs.declared.rule.Known.{Known}
use Rattle.desk_turns.specs.Histories.{Begins, is_by, made_by}
use Rattle.desk_turns.specs.Rule.{Slot, founder, Founds, Turning, IsTurns, Fits, Serves}
use Rattle.desk_turns.proofs.Sums.{all_at}

pub begins_length : (xs ys : List Logged) → Begins xs ys → length xs ≤ length ys
begins_length xs ys b =
    let same : length ys ≡ length xs + length b.0 = ap length b.1 ∙ length-append xs b.0 in
    omega arith

pub begins_self : (xs : List Logged) → Begins xs xs
begins_self xs = ([], sym (append-nil xs))

pub begins_longer : (xs ys zs : List Logged) → Begins xs ys → Begins xs (ys ++ zs)
begins_longer xs ys zs b = (b.0 ++ zs, ap (λ l. l ++ zs) b.1 ∙ append_assoc xs b.0 zs)

-- the entry is the caller's last call
enumerated : {X : Type 0} (n : ℕ) (xs : List X) (x : X) → enumerate_from n (xs ++ x ∷ []) ≡ enumerate_from n xs ++ (n + length xs, x) ∷ []
enumerated n [] x = ap (λ (k : ℕ). (k, x) ∷ []) (let e : n ≡ n + 0 = omega arith in e)
enumerated n (y ∷ ys) x =
    let e : (n + 1) + length ys ≡ n + length (y ∷ ys) = omega arith in
    ap (λ l. (n, y) ∷ l) (enumerated (n + 1) ys x ∙ ap (λ (k : ℕ). enumerate_from (n + 1) ys ++ (k, x) ∷ []) e)

pub made_by-push : (number since : ℕ) (history : List Logged) (e : Logged) → since ≤ length history
    → made_by number since (history ++ e ∷ []) ≡ made_by number since history ++ filter (is_by number) ((length history, e) ∷ [])
made_by-push number since history e le =
    let n : since + length (drop since history) ≡ length history = omega (arith, length-drop since history) in
    ap (λ l. filter (is_by number) (enumerate_from since l)) (drop-append-le since history (e ∷ []) le)
    ∙ (ap (filter (is_by number)) (enumerated since (drop since history) e)
    ∙ (filter-append (is_by number) (enumerate_from since (drop since history)) ((since + length (drop since history), e) ∷ [])
    ∙ ap (λ (k : ℕ). made_by number since history ++ filter (is_by number) ((k, e) ∷ [])) n))

pub of_this : (number place : ℕ) (e : Logged) → e.caller ≡ number → filter (is_by number) ((place, e) ∷ []) ≡ (place, e) ∷ []
of_this number place e is =
    let test : (e.caller == number) ≡ true = grind (arith, nat_tests) in
    ap (λ b. cond b ((place, e) ∷ []) []) test

pub of_another : (number place : ℕ) (e : Logged) → e.caller ≢ number → filter (is_by number) ((place, e) ∷ []) ≡ []
of_another number place e isnt =
    let test : (e.caller == number) ≡ false = grind (arith, nat_tests) in
    ap (λ b. cond b ((place, e) ∷ []) []) test

pub later_by_others : (number since : ℕ) (history : List Logged) (e : Logged) → since ≤ length history → e.caller ≢ number
    → made_by number since (history ++ e ∷ []) ≡ made_by number since history
later_by_others number since history e le isnt =
    made_by-push number since history e le
    ∙ (ap (λ l. made_by number since history ++ l) (of_another number (length history) e isnt) ∙ append-nil (made_by number since history))

pub later_by_this : (number since : ℕ) (history : List Logged) (e : Logged) → since ≤ length history → e.caller ≡ number
    → made_by number since (history ++ e ∷ []) ≡ made_by number since history ++ (length history, e) ∷ []
later_by_this number since history e le is =
    made_by-push number since history e le
    ∙ ap (λ l. made_by number since history ++ l) (of_this number (length history) e is)

pub not_founding : (of : Opened) (s : State Slot (List Known)) (id : ℕ) (k : Known) (ks : List Known) → get_elem? s.views id ≡ some (k ∷ ks) → 0 < k.number → Founds of s → ⊥
not_founding of s id k ks at numbered f = go id (subst (λ (l : List (List Known)). get_elem? l id ≡ some (k ∷ ks)) f.3 at)
  where
    go : (i : ℕ) → get_elem? ((founder of f.0 ∷ []) ∷ []) i ≡ some (k ∷ ks) → ⊥
    go zero e =
        let same : 0 ≡ k.number = ap first (some-injective (founder of f.0 ∷ []) (k ∷ ks) e) in
        absurd (omega arith)
      where
        first : List Known → ℕ
        first [] = 0
        first (k ∷ ks) = k.number
    go (suc i) e = some-ne-none (k ∷ ks) (sym e)

-- so between any two steps of a pass the desk lies in its slot or is out with one
pub turning : (of : Opened) (s : State Slot (List Known)) (id : ℕ) (k : Known) (ks : List Known) → get_elem? s.views id ≡ some (k ∷ ks) → 0 < k.number → IsTurns of s → Turning of s
turning of s id k ks at numbered (inl f) = absurd (not_founding of s id k ks at numbered f)
turning of s id k ks at numbered (inr t) = t

pub all_one : (P : Known → Type 0) (k : Known) → P k → All P (k ∷ [])
all_one P k p zero d under = p
all_one P k p (suc i) d under = absurd (omega arith)

pub fits_at : (of : Opened) (ticket : ℕ) (history : List Logged) (home : _) (views : List (List Known)) → Serves of ticket history home views
    → (id : ℕ) (k : Known) → get_elem? views id ≡ some (k ∷ []) → Fits of history k
fits_at of ticket history home views serves id k at =
    All-head (Fits of history) k [] (all_at (All (Fits of history)) views id (k ∷ []) serves.each at)
