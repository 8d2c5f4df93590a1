-- A pass whose fields are seen, passes that are joined, and passes that are dealt out.
use Rattle.std.proofs.Common.{◌≡◌, ℕ, zero, suc, ◌+◌, ◌-◌, ◌<◌, ◌≤◌, List, [], ◌∷◌, ◌++◌, map, refl, sym, ap, ◌∙◌, subst, arith}
use Rattle.std.specs.List.{range_with_len}
use Rattle.std.proofs.lemmas.List.FromFn.{map-range_with_len_more}
use Rattle.std.proofs.lemmas.List.{map-append}
use Rattle.atomic_table.specs.Seated.{TableId}
use Rattle.atomic_table.specs.Table.{Me, Splits, Joins}
use Rattle.desk_turns.specs.declared.rule.Opened.{Opened}
use Rattle.desk_turns.specs.declared.rule.Known.{Known}
use Rattle.desk_turns.specs.declared.pass.Pass.TheInside.{Inside as PassFields}
use Rattle.desk_turns.specs.Shared.{most_seats, most_room, PassValue, fresh}
use Rattle.desk_turns.specs.Passes.{desk_id, value_of, known_of, first_known, HasOwnCalls}
use Rattle.desk_turns.specs.Fields.{pass_of, IsOnePass}
use Rattle.desk_turns.specs.Rule.{Slot, fresh_known, dealt, first_only, without_first, IsTurns}
use Rattle.desk_turns.proofs.Moving.{deals, gathers}

abbrev Mine : Type 0
Mine = Me Slot (List Known)

abbrev me_of : List Known → List (ℕ × Slot) → Mine
me_of ks c = (ks, c)

-- what the fields of a pass say of its value
pub record Seen (p : PassFields) (v : PassValue) : Type 0 where
  pub me : p.seat.me ≡ (known_of v ∷ [], [])
  pub table : p.seat.table_id ≡ v.desk.table
  pub own : HasOwnCalls v
  pub numbered : 0 < v.number
  pub number_is : v.number ≡ p.number
  pub room_is : v.desk.opening.room ≡ p.room
  pub full_is : v.full ≡ p.full
  pub small : v.desk.opening.room ≤ most_room
  pub few : v.desk.seats ≤ most_seats

pub seen : (p : PassFields) (v : PassValue) → IsOnePass p → pass_of p ≡ v → Seen p v
seen p v i view = subst (λ (w : PassValue). Seen p w) (sym value ∙ view) record {
  me = i.me ∙ ap (λ (k : Known). me_of (k ∷ []) []) i.idle;
  table = refl;
  own = refl;
  numbered = i.numbered;
  number_is = i.number_is;
  room_is = i.room_is;
  full_is = i.full_is;
  small = i.small;
  few = i.few;
}
  where
    value : pass_of p ≡ value_of p.seat.table_id i.known
    value = ap (λ (m : Mine). value_of p.seat.table_id (first_known m.0)) i.me

-- the joined seat takes in one more
pub may_join : (of : Opened) (id other : ℕ) (m u : Mine) (last : PassValue) (ps : List PassValue) → m ≡ (map known_of (last ∷ ps), []) → 0 < last.number
    → Joins {S = Slot} (IsTurns of) id m.0 other u.0 (m.0 ++ u.0) []
may_join of id other m u last ps me numbered =
    subst (λ (ks : List Known). Joins {S = Slot} (IsTurns of) id ks other u.0 (ks ++ u.0) []) (sym (ap (λ (n : Mine). n.0) me))
    (gathers of id (known_of last) (map known_of ps) other u.0 numbered)

pub joined : (m u new : Mine) (last : PassValue) (ps : List PassValue) (p : PassValue) → m ≡ (map known_of (last ∷ ps), []) → u ≡ (known_of p ∷ [], []) → new ≡ (m.0 ++ u.0, m.1)
    → new ≡ (map known_of (last ∷ (ps ++ p ∷ [])), [])
joined m u new last ps p me other told =
    told
    ∙ (ap (λ (n : Mine). me_of (n.0 ++ u.0) n.1) me
    ∙ (ap (λ (n : Mine). me_of (map known_of (last ∷ ps) ++ n.0) []) other
    ∙ ap (λ (ks : List Known). me_of (known_of last ∷ ks) []) (sym (map-append known_of ps (p ∷ [])))))

-- passes are dealt out from the least number on
pub dealt_more : (of : Opened) (n m : ℕ) → 0 < m → dealt of n m ≡ fresh_known of n ∷ dealt of (n + 1) (m - 1)
dealt_more of n zero some = absurd (omega arith)
dealt_more of n (suc m) some = let e : m ≡ suc m - 1 = omega arith in ap (λ (k : ℕ). fresh_known of n ∷ dealt of (n + 1) k) e

pub may_split : (of : Opened) (id n k : ℕ) (m : Mine) → m ≡ (dealt of n k, []) → 0 < k → 0 < n → Splits {S = Slot} (IsTurns of) id m.0 (without_first m.0) (first_only m.0)
may_split of id n k m me some numbered =
    subst (λ (ks : List Known). Splits {S = Slot} (IsTurns of) id ks (without_first ks) (first_only ks)) (sym (ap (λ (n : Mine). n.0) me ∙ dealt_more of n k some))
    (deals of id (fresh_known of n) (dealt of (n + 1) (k - 1)) numbered)

pub split_left : (of : Opened) (n k l : ℕ) (m new : Mine) → m ≡ (dealt of n k, []) → 0 < k → l + 1 ≡ k → new ≡ (without_first m.0, m.1) → new ≡ (dealt of (n + 1) l, [])
split_left of n k l m new me some is told =
    let e : k - 1 ≡ l = omega arith in
    told
    ∙ (ap (λ (p : Mine). me_of (without_first p.0) p.1) me
    ∙ (ap (λ (ks : List Known). me_of (without_first ks) []) (dealt_more of n k some)
    ∙ ap (λ (j : ℕ). me_of (dealt of (n + 1) j) []) e))

pub split_right : (of : Opened) (n k : ℕ) (m new : Mine) → m ≡ (dealt of n k, []) → 0 < k → new ≡ (first_only m.0, []) → new ≡ (fresh_known of n ∷ [], [])
split_right of n k m new me some told =
    told
    ∙ (ap (λ (p : Mine). me_of (first_only p.0) []) me
    ∙ ap (λ (ks : List Known). me_of (first_only ks) []) (dealt_more of n k some))

pub last_one : (of : Opened) (n k : ℕ) (m : Mine) → m ≡ (dealt of n k, []) → k ≡ 1 → m ≡ (fresh_known of n ∷ [], [])
last_one of n k m me is =
    let some : 0 < k = omega arith in
    let e : k - 1 ≡ 0 = omega arith in
    me ∙ (ap (λ (ks : List Known). me_of ks []) (dealt_more of n k some) ∙ ap (λ (j : ℕ). me_of (fresh_known of n ∷ dealt of (n + 1) j) []) e)

pub one_more : (table : TableId) (of : Opened) (items more : List PassValue) (number n : ℕ) (x : PassValue) (t : TableId)
    → more ≡ items ++ x ∷ [] → items ≡ map (fresh (desk_id table of)) (range_with_len 1 (number - 1)) → x ≡ fresh (desk_id t of) number → t ≡ table → 1 ≤ number → n ≡ number
    → more ≡ map (fresh (desk_id table of)) (range_with_len 1 n)
one_more table of items more number n x t pushed were same is from end =
    let f : ℕ → PassValue = fresh (desk_id table of) in
    let here : x ≡ f number = same ∙ ap (λ (u : TableId). fresh (desk_id u of) number) is in
    let last : number - 1 + 1 ≡ n = omega arith in
    let at : 1 + (number - 1) ≡ number = omega arith in
    pushed
    ∙ ((λ i. were i ++ here i ∷ [])
    ∙ (sym (map-range_with_len_more f 1 (number - 1) number at)
    ∙ ap (λ (m : ℕ). map f (range_with_len 1 m)) last))
