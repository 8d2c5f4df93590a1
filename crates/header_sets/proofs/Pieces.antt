-- The pieces of a space: which headers some piece of a list has, and the least and the greatest of them.
use Rattle.std.proofs.Common.{◌≡◌, ◌≢◌, ℕ, suc, ◌+◌, ◌<◌, ◌≤◌, Bool, true, false, not, ◌&&◌, ◌||◌, inl, inr, List, [], ◌∷◌, ◌++◌, length, map, get_or, take, drop, refl, sym, ap, subst, ◌∙◌, arith}
use Rattle.std.proofs.lemmas.List.{take_all, take_more}
use Rattle.std.specs.List.{All, list_any}
use Rattle.std.specs.declared.cmp.Ordering.TheVariants.{Less}
use Rattle.std.proofs.lemmas.Bool.{and_parts, or_cases, or_left, or_right, false≢true, true≢false}
use Rattle.std.proofs.lemmas.List.Elements.{All-head, All-tail, All-push}
use Rattle.std.proofs.lemmas.List.Folds.{list_any-append, list_any_more}
use Rattle.network_model.proofs.SomeClass.{matching_length}
use Rattle.network_model.specs.Bits.{Header, Pattern, matches, header_cmp, number_of}
use Rattle.ternary_bits.specs.Pieces.{meets}
use Rattle.ternary_bits.proofs.Meeting.{apart}
use Rattle.header_sets.specs.Spaces.{PieceValue, SpaceValue, any_matches, piece_has, IsSpace}
use Rattle.header_sets.proofs.Searching.{number_le, le_number}

-- some piece of the list has the header
abbrev pub have : List PieceValue → Header → Bool
have pieces h = list_any (λ piece. piece_has piece h) pieces

pub piece_length : (p : PieceValue) (h : Header) → piece_has p h ≡ true → length h ≡ length p.pattern
piece_length p h e = matching_length p.pattern h (and_parts (matches p.pattern h) (not (any_matches p.without h)) e).0

pub any_width : (w : ℕ) (ps : List PieceValue) → All (λ p. length p.pattern ≡ w) ps → (h : Header) → have ps h ≡ true → length h ≡ w
any_width w [] all h e = absurd (false≢true e)
any_width w (p ∷ ps) all h e =
    elim (or_cases (piece_has p h) (have ps h) e) as (λ _. length h ≡ w) [
      | inl here ↦ piece_length p h here ∙ All-head (λ (q : PieceValue). length q.pattern ≡ w) p ps all
      | inr below ↦ any_width w ps (All-tail (λ (q : PieceValue). length q.pattern ≡ w) p ps all) h below
    ]

-- what a piece has its pattern matches
pub hulls_have : (ps : List PieceValue) (h : Header) → have ps h ≡ true → any_matches (map (λ (p : PieceValue). p.pattern) ps) h ≡ true
hulls_have [] h e = e
hulls_have (p ∷ ps) h e = elim (or_cases (piece_has p h) (have ps h) e) as (λ _. (matches p.pattern h || any_matches (map (λ (q : PieceValue). q.pattern) ps) h) ≡ true) [
  | inl here ↦ or_left (matches p.pattern h) _ (and_parts (matches p.pattern h) (not (any_matches p.without h)) here).0
  | inr below ↦ or_right (matches p.pattern h) _ (hulls_have ps h below)
]

-- ---- the pieces that a loop makes of those seen so far

keeps_more : (s o k n : Bool) → n ≡ (o && k) → ((s && k) || (n || false)) ≡ ((s || o) && k)
keeps_more true true true n e = refl
keeps_more true true false n e = ap (λ b. b || false) e
keeps_more true false true n e = refl
keeps_more true false false n e = ap (λ b. b || false) e
keeps_more false true true n e = ap (λ b. b || false) e
keeps_more false true false n e = ap (λ b. b || false) e
keeps_more false false true n e = ap (λ b. b || false) e
keeps_more false false false n e = ap (λ b. b || false) e

keeps_none : (s o k : Bool) → (o && k) ≡ false → (s && k) ≡ ((s || o) && k)
keeps_none true o k e = refl
keeps_none false o k e = sym e

-- those seen, where they are kept
abbrev pub Made : (Header → Bool) → ℕ → List PieceValue → List PieceValue → Type 0
Made keeps width seen made = ((h : Header) → have made h ≡ (have seen h && keeps h)) × All (λ piece. length piece.pattern ≡ width) made

pub made_some : (keeps : Header → Bool) (w : ℕ) (items : List PieceValue) (i : ℕ) (own piece : PieceValue) (made : List PieceValue) → i < length items → own ≡ get_or items i own
    → length piece.pattern ≡ w → ((h : Header) → piece_has piece h ≡ (piece_has own h && keeps h)) → Made keeps w (take i items) made → Made keeps w (take (i + 1) items) (made ++ piece ∷ [])
made_some keeps w items i own piece made inside at width set so_far = (
  λ h.
      list_any-append (λ q. piece_has q h) made (piece ∷ [])
      ∙ ap (λ b. b || (piece_has piece h || false)) (so_far.0 h)
      ∙ keeps_more (have (take i items) h) (piece_has own h) (keeps h) (piece_has piece h) (set h)
      ∙ ap (λ (q : PieceValue). (have (take i items) h || piece_has q h) && keeps h) at
      ∙ ap (λ b. b && keeps h) (sym (list_any_more (λ q. piece_has q h) items i own inside)),
  All-push (λ (q : PieceValue). length q.pattern ≡ w) made piece so_far.1 width,
)

pub made_skip : (keeps : Header → Bool) (w : ℕ) (items : List PieceValue) (i : ℕ) (own : PieceValue) (made : List PieceValue) → i < length items → own ≡ get_or items i own
    → ((h : Header) → (piece_has own h && keeps h) ≡ false) → Made keeps w (take i items) made → Made keeps w (take (i + 1) items) made
made_skip keeps w items i own made inside at none so_far = (
  λ h.
      so_far.0 h
      ∙ keeps_none (have (take i items) h) (piece_has own h) (keeps h) (none h)
      ∙ ap (λ (q : PieceValue). (have (take i items) h || piece_has q h) && keeps h) at
      ∙ ap (λ b. b && keeps h) (sym (list_any_more (λ q. piece_has q h) items i own inside)),
  so_far.1,
)

-- ---- the pieces of patterns

abbrev pub Listed : ℕ → List Pattern → List PieceValue → Type 0
Listed width seen made = ((h : Header) → have made h ≡ any_matches seen h) × All (λ piece. length piece.pattern ≡ width) made

-- ---- a list with one piece more

any_push : (ps : List PieceValue) (p : PieceValue) (h : Header) → have (ps ++ p ∷ []) h ≡ (have ps h || (piece_has p h || false))
any_push ps p h = list_any-append (λ q. piece_has q h) ps (p ∷ [])

pub record Least (width : ℕ) (ps : List PieceValue) (best : Header) : Type 0 where
  pub bits : length best ≡ width
  pub member : have ps best ≡ true
  pub least : (h : Header) → have ps h ≡ true → number_of best ≤ number_of h

pub record Greatest (width : ℕ) (ps : List PieceValue) (best : Header) : Type 0 where
  pub bits : length best ≡ width
  pub member : have ps best ≡ true
  pub greatest : (h : Header) → have ps h ≡ true → number_of h ≤ number_of best

alone : (p : PieceValue) (h : Header) → have (p ∷ []) h ≡ true → piece_has p h ≡ true
alone p h e = elim (or_cases (piece_has p h) false e) as (λ _. piece_has p h ≡ true) [
  | inl here ↦ here
  | inr none ↦ absurd (false≢true none)
]

pub least_one : (w : ℕ) (p : PieceValue) (best : Header) → length p.pattern ≡ w → piece_has p best ≡ true → ((h : Header) → piece_has p h ≡ true → header_cmp h best ≢ Less) → Least w (p ∷ []) best
least_one w p best width member least = record {
  bits = piece_length p best member ∙ width;
  member = or_left (piece_has p best) false member;
  least = λ h e. number_le h best (piece_length p h (alone p h e) ∙ sym (piece_length p best member)) (least h (alone p h e));
}

pub greatest_one : (w : ℕ) (p : PieceValue) (best : Header) → length p.pattern ≡ w → piece_has p best ≡ true → ((h : Header) → piece_has p h ≡ true → header_cmp best h ≢ Less) → Greatest w (p ∷ []) best
greatest_one w p best width member greatest = record {
  bits = piece_length p best member ∙ width;
  member = or_left (piece_has p best) false member;
  greatest = λ h e. number_le best h (piece_length p best member ∙ sym (piece_length p h (alone p h e))) (greatest h (alone p h e));
}

module _ (w : ℕ) (ps : List PieceValue) (own : PieceValue) (best other : Header) where
  in_front : (h : Header) → have ps h ≡ true → have (ps ++ own ∷ []) h ≡ true
  in_front h e = any_push ps own h ∙ or_left _ _ e

  at_end : (h : Header) → have (own ∷ []) h ≡ true → have (ps ++ own ∷ []) h ≡ true
  at_end h e = any_push ps own h ∙ or_right (have ps h) _ e

  -- what holds of the headers of both holds of those of the longer list
  both : (P : Header → Type 0) → ((h : Header) → have ps h ≡ true → P h) → ((h : Header) → have (own ∷ []) h ≡ true → P h) → (h : Header) → have (ps ++ own ∷ []) h ≡ true → P h
  both P front end h e = elim (or_cases (have ps h) (piece_has own h || false) (sym (any_push ps own h) ∙ e)) as (λ _. P h) [
    | inl f ↦ front h f
    | inr l ↦ end h l
  ]

  pub least_stays : Least w ps best → Least w (own ∷ []) other → number_of best ≤ number_of other → Least w (ps ++ own ∷ []) best
  least_stays a b le = record {
    bits = a.bits;
    member = in_front best a.member;
    least = both (λ h. number_of best ≤ number_of h) a.least (λ h e. let far = b.least h e in omega arith);
  }

  pub least_moves : Least w ps best → Least w (own ∷ []) other → number_of other ≤ number_of best → Least w (ps ++ own ∷ []) other
  least_moves a b le = record {
    bits = b.bits;
    member = at_end other b.member;
    least = both (λ h. number_of other ≤ number_of h) (λ h e. let far = a.least h e in omega arith) b.least;
  }

  pub greatest_stays : Greatest w ps best → Greatest w (own ∷ []) other → number_of other ≤ number_of best → Greatest w (ps ++ own ∷ []) best
  greatest_stays a b le = record {
    bits = a.bits;
    member = in_front best a.member;
    greatest = both (λ h. number_of h ≤ number_of best) a.greatest (λ h e. let far = b.greatest h e in omega arith);
  }

  pub greatest_moves : Greatest w ps best → Greatest w (own ∷ []) other → number_of best ≤ number_of other → Greatest w (ps ++ own ∷ []) other
  greatest_moves a b le = record {
    bits = b.bits;
    member = at_end other b.member;
    greatest = both (λ h. number_of h ≤ number_of other) (λ h e. let far = a.greatest h e in omega arith) b.greatest;
  }

-- ---- the whole list

pub least_of : (w : ℕ) (ps : List PieceValue) (best : Header) → All (λ p. length p.pattern ≡ w) ps → Least w ps best → (h : Header) → have ps h ≡ true → header_cmp h best ≢ Less
least_of w ps best widths is h e = le_number h best (any_width w ps widths h e ∙ sym is.bits) (is.least h e)

pub greatest_of : (w : ℕ) (ps : List PieceValue) (best : Header) → All (λ p. length p.pattern ≡ w) ps → Greatest w ps best → (h : Header) → have ps h ≡ true → header_cmp best h ≢ Less
greatest_of w ps best widths is h e = le_number best h (is.bits ∙ sym (any_width w ps widths h e)) (is.greatest h e)

-- ---- what contracts see of a space in place of its fields

pub space_of : (s t : SpaceValue) → s ≡ t → IsSpace s.width s.pieces → IsSpace t.width t.pieces
space_of s t same is = subst (λ (v : SpaceValue). IsSpace v.width v.pieces) same is

pub pieces_of : (s t : SpaceValue) (items : List PieceValue) → s ≡ t → items ≡ s.pieces → items ≡ t.pieces
pieces_of s t items same is = is ∙ ap (λ (v : SpaceValue). v.pieces) same

-- ---- a space's pieces one after another

rest_at : (xs : List PieceValue) (i : ℕ) (own : PieceValue) → i < length (drop 1 xs) → own ≡ get_or (drop 1 xs) i own → (suc i < length xs) × (own ≡ get_or xs (suc i) own)
rest_at [] i own inside at = absurd (omega arith)
rest_at (x ∷ xs) i own inside at = (omega arith, at)

rest_seen : (xs : List PieceValue) (i : ℕ) → 1 ≤ length xs → length (drop 1 xs) ≤ i → length xs ≤ suc i
rest_seen [] i some all = omega arith
rest_seen (x ∷ xs) i some all = omega arith

module _ (w : ℕ) (ps items : List PieceValue) (same : items ≡ ps) (is : IsSpace w ps) where
  width_at : (i : ℕ) (own : PieceValue) → i < length items → own ≡ get_or items i own → length own.pattern ≡ w
  width_at i own inside at =
      let all : All (λ p. length p.pattern ≡ w) items = rw same is.widths in ap (λ (p : PieceValue). length p.pattern) at ∙ all i own inside

  seen_one : (own : PieceValue) → 1 ≤ length items → own ≡ get_or items 0 own → own ∷ [] ≡ take 1 ps
  seen_one own some at =
      let more : take (0 + 1) items ≡ take 0 items ++ get_or items 0 own ∷ [] = take_more items 0 own (omega arith) in
      ap (λ (p : PieceValue). p ∷ []) at ∙ sym more ∙ ap (λ (qs : List PieceValue). take 1 qs) same

  seen_more : (i : ℕ) (own : PieceValue) → i < length (drop 1 items) → own ≡ get_or (drop 1 items) i own → take (suc i) ps ++ own ∷ [] ≡ take (suc (i + 1)) ps
  seen_more i own inside at =
      let next = rest_at items i own inside at in
      let more : take (suc i + 1) items ≡ take (suc i) items ++ get_or items (suc i) own ∷ [] = take_more items (suc i) own next.0 in
      let count : suc i + 1 ≡ suc (i + 1) = omega arith in
      ap (λ (qs : List PieceValue). take (suc i) qs ++ own ∷ []) (sym same)
      ∙ ap (λ (p : PieceValue). take (suc i) items ++ p ∷ []) next.1
      ∙ sym more ∙ ap (λ n. take n items) count ∙ ap (λ (qs : List PieceValue). take (suc (i + 1)) qs) same

  seen_all : (i : ℕ) → 1 ≤ length items → length (drop 1 items) ≤ i → take (suc i) ps ≡ ps
  seen_all i some all = take_all (suc i) ps (subst (λ (qs : List PieceValue). length qs ≤ suc i) same (rest_seen items i some all))

  pub least_begins : (first : PieceValue) (best : Header) → 1 ≤ length items → first ≡ get_or items 0 first
      → piece_has first best ≡ true → ((h : Header) → piece_has first h ≡ true → header_cmp h best ≢ Less) → Least w (take 1 ps) best
  least_begins first best some at member least =
      subst (λ (qs : List PieceValue). Least w qs best) (seen_one first some at) (least_one w first best (width_at 0 first (omega arith) at) member least)

  pub greatest_begins : (first : PieceValue) (best : Header) → 1 ≤ length items → first ≡ get_or items 0 first
      → piece_has first best ≡ true → ((h : Header) → piece_has first h ≡ true → header_cmp best h ≢ Less) → Greatest w (take 1 ps) best
  greatest_begins first best some at member greatest =
      subst (λ (qs : List PieceValue). Greatest w qs best) (seen_one first some at) (greatest_one w first best (width_at 0 first (omega arith) at) member greatest)

  module _ (rest : List PieceValue) (i : ℕ) (own : PieceValue) (best other : Header) (within : i < length rest) (there : own ≡ get_or rest i own) (all_but_first : rest ≡ drop 1 items) (member : piece_has own other ≡ true) where
    inside : i < length (drop 1 items)
    inside = rw (← all_but_first) within

    at : own ≡ get_or (drop 1 items) i own
    at = there ∙ ap (λ (qs : List PieceValue). get_or qs i own) all_but_first

    own_width : length own.pattern ≡ w
    own_width = let next = rest_at items i own inside at in width_at (suc i) own next.0 next.1

    pub least_keeps : ((h : Header) → piece_has own h ≡ true → header_cmp h other ≢ Less) → Least w (take (suc i) ps) best → number_of best ≤ number_of other → Least w (take (suc (i + 1)) ps) best
    least_keeps least so_far le =
        subst (λ (qs : List PieceValue). Least w qs best) (seen_more i own inside at)
        (least_stays w (take (suc i) ps) own best other so_far (least_one w own other own_width member least) le)

    pub least_takes : ((h : Header) → piece_has own h ≡ true → header_cmp h other ≢ Less) → Least w (take (suc i) ps) best → number_of other ≤ number_of best → Least w (take (suc (i + 1)) ps) other
    least_takes least so_far le =
        subst (λ (qs : List PieceValue). Least w qs other) (seen_more i own inside at)
        (least_moves w (take (suc i) ps) own best other so_far (least_one w own other own_width member least) le)

    pub greatest_keeps : ((h : Header) → piece_has own h ≡ true → header_cmp other h ≢ Less) → Greatest w (take (suc i) ps) best → number_of other ≤ number_of best → Greatest w (take (suc (i + 1)) ps) best
    greatest_keeps greatest so_far le =
        subst (λ (qs : List PieceValue). Greatest w qs best) (seen_more i own inside at)
        (greatest_stays w (take (suc i) ps) own best other so_far (greatest_one w own other own_width member greatest) le)

    pub greatest_takes : ((h : Header) → piece_has own h ≡ true → header_cmp other h ≢ Less) → Greatest w (take (suc i) ps) best → number_of best ≤ number_of other → Greatest w (take (suc (i + 1)) ps) other
    greatest_takes greatest so_far le =
        subst (λ (qs : List PieceValue). Greatest w qs other) (seen_more i own inside at)
        (greatest_moves w (take (suc i) ps) own best other so_far (greatest_one w own other own_width member greatest) le)

  pub least_ends : (rest : List PieceValue) (i : ℕ) (best : Header) → 1 ≤ length items → length rest ≤ i → rest ≡ drop 1 items → Least w (take (suc i) ps) best → (h : Header) → have ps h ≡ true → header_cmp h best ≢ Less
  least_ends rest i best some all all_but_first so_far =
      least_of w ps best is.widths (subst (λ (qs : List PieceValue). Least w qs best) (seen_all i some (subst (λ (qs : List PieceValue). length qs ≤ i) all_but_first all)) so_far)

  pub greatest_ends : (rest : List PieceValue) (i : ℕ) (best : Header) → 1 ≤ length items → length rest ≤ i → rest ≡ drop 1 items → Greatest w (take (suc i) ps) best → (h : Header) → have ps h ≡ true → header_cmp best h ≢ Less
  greatest_ends rest i best some all all_but_first so_far =
      greatest_of w ps best is.widths (subst (λ (qs : List PieceValue). Greatest w qs best) (seen_all i some (subst (λ (qs : List PieceValue). length qs ≤ i) all_but_first all)) so_far)

-- ---- a pattern that meets no piece's

neither : (m n r k : Bool) → (m && k) ≡ false → (r && k) ≡ false → (((m && n) || r) && k) ≡ false
neither true true r k e f = e
neither true false r k e f = f
neither false n r k e f = f

pub none_meets : (ps : List PieceValue) (p : Pattern) → list_any (λ piece. meets piece.pattern p) ps ≡ false → (h : Header) → (have ps h && matches p h) ≡ false
none_meets [] p e h = refl
none_meets (x ∷ ps) p e h =
    let parts = or_none (meets x.pattern p) (list_any (λ piece. meets piece.pattern p) ps) e in
    neither (matches x.pattern h) (not (any_matches x.without h)) (have ps h) (matches p h) (apart x.pattern p parts.0 h) (none_meets ps p parts.1 h)
  where
    or_none : (a b : Bool) → (a || b) ≡ false → (a ≡ false) × (b ≡ false)
    or_none true b e = absurd (true≢false e)
    or_none false b e = (refl, e)
