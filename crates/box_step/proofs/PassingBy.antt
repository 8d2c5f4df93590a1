-- The rules of a box, of which only those at some rising places may take a header of the set.
use Rattle.std.proofs.Common.{◌≡◌, ℕ, zero, suc, ◌+◌, ◌<◌, ◌≤◌, ◌-◌, Bool, true, false, not, ◌&&◌, ◌⊎◌, inl, inr, List, [], ◌∷◌, ◌++◌, map, length, get_or, drop, Option, Some, None, IsTrue, refl, sym, ap, ◌∙◌, subst, arith}
use Rattle.std.specs.Prelude.{slice_get}
use Rattle.std.specs.List.{Contains}
use Rattle.std.proofs.lemmas.Option.{slice_get_within, get_or_from_slice_get}
use Rattle.network_model.specs.Bits.{Header, Pattern, matches}
use Rattle.network_model.specs.Rewrites.{Rewrite, rewritten}
use Rattle.network_model.specs.Network.{Network, Numbered, value_at, port_fits}
use Rattle.header_sets.specs.Spaces.{SpaceValue, any_matches, holds}
use Rattle.net_types.specs.declared.rule.Rule.{Rule}
use Rattle.net_types.specs.Rules.{numbered, in_port}
use Rattle.box_step.specs.declared.branches.Branch.{Branch}
use Rattle.box_step.specs.Taking.{takes_sent, is_left, IsTaken}
use Rattle.box_step.specs.Guides.{IsTried}
use Rattle.box_step.proofs.Listing.{contains_at}
use Rattle.list_laws.proofs.Members.{Contains-map}
use Rattle.box_step.proofs.Splitting.{Progress, step_taken, step_passed, step_skipped}

not_left : (s a f m : Bool) → (s && m) ≡ false → ((s && a) && (f && m)) ≡ false
not_left true true true m e = e
not_left true true false m e = refl
not_left true false f m e = refl
not_left false a f m e = refl

drop_past : (xs : List Rule) (i : ℕ) → slice_get xs i ≡ None → drop i (map numbered xs) ≡ drop (i + 1) (map numbered xs)
drop_past [] zero at = refl
drop_past [] (suc i) at =
    let next : suc i + 1 ≡ suc (suc i) = omega arith in
    let none : List Numbered = [] in
    ap (λ k. drop k none) (sym next)
drop_past (x ∷ xs) zero at = absurd (cc)
drop_past (x ∷ xs) (suc i) at =
    let next : suc i + 1 ≡ suc (i + 1) = omega arith in
    drop_past xs i at ∙ ap (λ k. drop k (numbered x ∷ map numbered xs)) (sym next)

above_more : (n : ℕ) (ns : List ℕ) (b : ℕ) → ((i : ℕ) → i < length ns → get_or ns i 0 < b) → (i : ℕ) → i < length (n ∷ ns) → get_or (n ∷ ns) i 0 < n + b + 1
above_more n ns b each zero inside = omega arith
above_more n ns b each (suc i) inside = let below = each i (omega arith) in omega arith

-- a number above all
pub above : (ns : List ℕ) → (b : ℕ) × ((i : ℕ) → i < length ns → get_or ns i 0 < b)
above [] = (0, λ i inside. absurd (omega arith))
above (n ∷ ns) = let (b, each) = above ns in (n + b + 1, above_more n ns b each)

cases_le : (j k : ℕ) → j < suc k → (j ≡ k) ⊎ (j < k)
cases_le j k l = grind arith

pub rising_below : (places : List ℕ) → ((j : ℕ) → j + 1 < length places → get_or places j 0 < get_or places (j + 1) 0) → (k j : ℕ) → j < k → k < length places → get_or places j 0 < get_or places k 0
rising_below places rises zero j l m = absurd (omega arith)
rising_below places rises (suc k) j l m =
    let next : k + 1 ≡ suc k = omega arith in
    let step : get_or places k 0 < get_or places (suc k) 0 = subst (λ n. get_or places k 0 < get_or places n 0) next (rises k (omega arith)) in
    elim (cases_le j k l) [
      | inl same ↦ subst (λ n. get_or places n 0 < get_or places (suc k) 0) (sym same) step
      | inr before ↦ let so_far = rising_below places rises k j before (omega arith) in omega arith
    ]

rising_from : (places : List ℕ) → ((j : ℕ) → j + 1 < length places → get_or places j 0 < get_or places (j + 1) 0) → (j k : ℕ) → k ≤ j → j < length places → get_or places k 0 ≤ get_or places j 0
rising_from places rises j k l m = elim (cases_le k j (omega arith)) [
  | inl same ↦ subst (λ n. get_or places n 0 ≤ get_or places j 0) (sym same) (omega arith)
  | inr before ↦ let strict = rising_below places rises j k before m in omega arith
]

value_there : (ns : List ℕ) (j : ℕ) → j < length ns → (d : ℕ) → get_or ns j d ≡ d → get_or ns j 0 ≡ d
value_there [] j l d e = absurd (omega arith)
value_there (n ∷ ns) zero l d e = e
value_there (n ∷ ns) (suc j) l d e = value_there ns j (omega arith) d e

side : (j k : ℕ) → (j < k) ⊎ (k ≤ j)
side j k = grind arith

-- no header of the set, rewritten so far, matches
abbrev pub NoneTaken : SpaceValue → Rewrite → Pattern → Type 0
NoneTaken space rewrite pattern = (h : Header) → (holds space h && matches pattern (rewritten rewrite h)) ≡ false

-- the rules before a place are done
abbrev pub At : Network → ℕ → SpaceValue → Rewrite → (Numbered → Bool) → List Rule → List Pattern → List Branch → ℕ → Type 0
At net port space rewrite keeps rules earlier branches i = Progress net port space rewrite keeps (drop i (map numbered rules)) (is_left space earlier) branches

-- the first so many places are below a bound, the others are not
pub record Parts (places : List ℕ) (k bound : ℕ) : Type 0 where
  pub below : (j : ℕ) → j < k → j < length places → get_or places j 0 < bound
  pub «from» : (j : ℕ) → k ≤ j → j < length places → bound ≤ get_or places j 0

-- the first so many places are done, and all up to the next
abbrev pub UpTo : Network → ℕ → SpaceValue → Rewrite → (Numbered → Bool) → List Rule → List ℕ → List Pattern → List Branch → ℕ → Type 0
UpTo net port space rewrite keeps rules places earlier branches k = (bound : ℕ) → Parts places k bound → At net port space rewrite keeps rules earlier branches bound

module _ (net : Network) (port : ℕ) (space : SpaceValue) (rewrite : Rewrite) (keeps : Numbered → Bool) (at : ℕ) (rules : List Rule) (here : value_at net.ports port ≡ Some at) (tried : IsTried net at rules) where
  own_box : (i : ℕ) (own : Rule) → slice_get rules i ≡ Some own → own.«at» ≡ at
  own_box i own is = (tried.all (numbered own) (Contains-map numbered rules own (contains_at rules i own is))).1

  pub skip_one : (earlier : List Pattern) (branches : List Branch) (i : ℕ) (own : Rule) → slice_get rules i ≡ Some own
      → ((h : Header) → (is_left space earlier h && takes_sent port rewrite own h) ≡ false) → At net port space rewrite keeps rules earlier branches i → At net port space rewrite keeps rules earlier branches (i + 1)
  skip_one earlier branches i own is none before =
      step_skipped net port space rewrite keeps at rules i own earlier branches here (own_box i own is) (slice_get_within rules i own is) (sym (get_or_from_slice_get rules i own own is)) before none

  pub skip_past : (earlier : List Pattern) (branches : List Branch) (i : ℕ) → slice_get rules i ≡ None → At net port space rewrite keeps rules earlier branches i → At net port space rewrite keeps rules earlier branches (i + 1)
  skip_past earlier branches i is before =
      subst (λ (rs : List Numbered). Progress net port space rewrite keeps rs (is_left space earlier) branches) (drop_past rules i is) before

  pub take_one : (earlier : List Pattern) (branches : List Branch) (i : ℕ) (own : Rule) (branch : Branch) (sources : Pattern) → slice_get rules i ≡ Some own → space.width ≡ net.width
      → IsTaken port rewrite own space earlier branch sources → keeps (numbered own) ≡ true → At net port space rewrite keeps rules earlier branches i
      → At net port space rewrite keeps rules (earlier ++ sources ∷ []) (branches ++ branch ∷ []) (i + 1)
  take_one earlier branches i own branch sources is width taken keep before =
      step_taken net port space rewrite keeps at rules i own earlier branches here (own_box i own is) (slice_get_within rules i own is) (sym (get_or_from_slice_get rules i own own is)) before branch sources width taken keep

  pub pass_one : (earlier : List Pattern) (branches : List Branch) (i : ℕ) (own : Rule) (sources : Pattern) → slice_get rules i ≡ Some own
      → ((h : Header) → IsTrue (holds space h) → matches sources h ≡ takes_sent port rewrite own h) → keeps (numbered own) ≡ false → At net port space rewrite keeps rules earlier branches i
      → At net port space rewrite keeps rules (earlier ++ sources ∷ []) branches (i + 1)
  pass_one earlier branches i own sources is takes unkept before =
      step_passed net port space rewrite keeps at rules i own earlier branches here (own_box i own is) (slice_get_within rules i own is) (sym (get_or_from_slice_get rules i own own is)) before sources takes unkept

  -- none of so many rules takes a header
  pub skip_to : (earlier : List Pattern) (branches : List Branch) (i n : ℕ) → ((k : ℕ) (own : Rule) → i ≤ k → k < i + n → slice_get rules k ≡ Some own → NoneTaken space rewrite own.pattern)
      → At net port space rewrite keeps rules earlier branches i → At net port space rewrite keeps rules earlier branches (i + n)
  skip_to earlier branches i zero none before = let same : i ≡ i + 0 = omega arith in subst (λ k. At net port space rewrite keeps rules earlier branches k) same before
  skip_to earlier branches i (suc n) none before =
      let same : i + 1 + n ≡ i + suc n = omega arith in
      subst (λ k. At net port space rewrite keeps rules earlier branches k) same
      (skip_to earlier branches (i + 1) n (λ k own from below is. none k own (omega arith) (omega arith) is) (one (slice_get rules i) refl))
    where
      one : (o : Option Rule) → slice_get rules i ≡ o → At net port space rewrite keeps rules earlier branches (i + 1)
      one (Some own) is = skip_one earlier branches i own is
          (λ h. not_left (holds space h) (not (any_matches earlier h)) (port_fits (in_port own.inp) port) (matches own.pattern (rewritten rewrite h)) (none i own (omega arith) (omega arith) is h))
          before
      one None is = skip_past earlier branches i is before

  -- ---- rising places, outside which no rule takes a header

  module _ (places : List ℕ) (met : (k : ℕ) (own : Rule) → slice_get rules k ≡ Some own → Contains places k ⊎ NoneTaken space rewrite own.pattern) where
    between : (k i bound : ℕ) → ((j : ℕ) → j < k → j < length places → get_or places j 0 < i) → Parts places k bound → (q : ℕ) (own : Rule) → i ≤ q → q < bound → slice_get rules q ≡ Some own → NoneTaken space rewrite own.pattern
    between k i bound lower parts q own from below is = elim (met q own is) [
      | inl (j, inside, there) ↦
          let value : get_or places j 0 ≡ q = value_there places j inside q there in
          absurd (elim (side j k) [ inl left ↦ let low = lower j left inside in omega arith | inr right ↦ let high = parts.«from» j right inside in omega arith ])
      | inr none ↦ none
    ]

    pub up_to_none : (earlier : List Pattern) (branches : List Branch) → At net port space rewrite keeps rules earlier branches 0 → UpTo net port space rewrite keeps rules places earlier branches 0
    up_to_none earlier branches before bound parts =
        let same : 0 + bound ≡ bound = omega arith in
        subst (λ k. At net port space rewrite keeps rules earlier branches k) same
        (skip_to earlier branches 0 bound (λ q own from below is. between 0 0 bound (λ j l m. absurd (omega arith)) parts q own from (omega arith) is) before)

    -- the place of this index comes next
    pub at_next : (rises : (j : ℕ) → j + 1 < length places → get_or places j 0 < get_or places (j + 1) 0) (earlier : List Pattern) (branches : List Branch) (k : ℕ) → k < length places
        → UpTo net port space rewrite keeps rules places earlier branches k → At net port space rewrite keeps rules earlier branches (get_or places k 0)
    at_next rises earlier branches k inside so_far = so_far (get_or places k 0) (record {
      below = λ j l m. rising_below places rises k j l inside;
      «from» = λ j l m. rising_from places rises j k l m;
    })

    -- the place of this index is done
    pub up_to_more : (rises : (j : ℕ) → j + 1 < length places → get_or places j 0 < get_or places (j + 1) 0) (earlier : List Pattern) (branches : List Branch) (k : ℕ) → k < length places
        → At net port space rewrite keeps rules earlier branches (get_or places k 0 + 1) → UpTo net port space rewrite keeps rules places earlier branches (k + 1)
    up_to_more rises earlier branches k inside before bound parts =
        let past : get_or places k 0 < bound = parts.below k (omega arith) inside in
        let p = get_or places k 0 in
        let (n, sum) = rest_of p bound past in
        subst (λ i. At net port space rewrite keeps rules earlier branches i) sum
        (skip_to earlier branches (p + 1) n
        (λ q own from below is. between (k + 1) (p + 1) bound (λ j l m. low j l m) parts q own from (subst (λ i. q < i) sum below) is) before)
      where
        rest_of : (p b : ℕ) → p < b → (n : ℕ) × (p + 1 + n ≡ b)
        rest_of p b h = (b - (p + 1), omega arith)

        low : (j : ℕ) → j < k + 1 → j < length places → get_or places j 0 < get_or places k 0 + 1
        low j l m = let upto = rising_from places rises k j (omega arith) inside in omega arith

    -- all places are done
    pub up_to_all : (earlier : List Pattern) (branches : List Branch) (k : ℕ) → length places ≤ k → UpTo net port space rewrite keeps rules places earlier branches k → (i : ℕ) × ((length rules ≤ i) × At net port space rewrite keeps rules earlier branches i)
    up_to_all earlier branches k all so_far =
        let (b, over) = above places in (
          b + length rules,
          (
            omega arith,
            so_far (b + length rules) (record {
              below = λ j l m. let under = over j m in omega arith;
              «from» = λ j l m. absurd (omega arith);
            }),
          ),
        )
