-- Links that move into slots and back, and what comes of the shares.
use Rattle.std.proofs.Common.{◌≡◌, ℕ, suc, ◌+◌, ◌-◌, ◌<◌, ◌≤◌, ◌^◌, Bool, true, false, List, [], ◌∷◌, ◌++◌, length, get_or, take, drop, map, Some, refl, sym, ap, ◌∙◌, subst, arith, sum_by, count_by, append_assoc, append-nil}
use Rattle.std.specs.Prelude.{reverse, slice_range}
use Rattle.std.specs.List.{All, AllZip, flat_map}
use Rattle.std.proofs.lemmas.List.{map-append, reverse-append, take-append-drop}
use Rattle.std.proofs.Math.Seq.{take-append_seam}
use Rattle.std.proofs.lemmas.List.Concat.{flat_map-cons}
use Rattle.std.proofs.lemmas.List.Elements.{All-push, All-head, All-tail, All-cons}
use Rattle.std.proofs.lemmas.List.Sums.{sum_by-cons}
use Rattle.std.proofs.lemmas.Grind.{common_steps, flat_map-append}
use Rattle.network_model.specs.Cover.{entry_at}
use Rattle.fault_model.specs.Follow.{verdict_of}
use Rattle.rule_cover.specs.PlanValue.{PlanValue}
use Rattle.probe_wire.specs.declared.probe.ProbeId.{ProbeId}
use Rattle.probe_agents.specs.declared.shot.Shot.{Shot}
use Rattle.probe_agents.specs.declared.shares.Slot.{Slot}
use Rattle.probe_agents.specs.Seeing.{Seen}
use Rattle.probe_agents.specs.Firing.{is_faulted, sure}
use Rattle.probe_agents.specs.Sharing.{SharesOut, IsKept, IsField, AreSure}
use Rattle.probe_agents.specs.Slots.{share, IsReady, HandsOut, HasDone, MovesBack, Ends}
use Rattle.probe_agents.proofs.Answered.{count-append, faults_rise, kept_itself}

pub zipped : {A : Type 0} (R : A → A → Type 0) (xs ys : List A) → length xs ≡ length ys → ((i : ℕ) (d : A) → i < length xs → R (get_or xs i d) (get_or ys i d)) → AllZip R xs ys
zipped R [] [] same each = tt
zipped R [] (y ∷ ys) same each = absurd (omega arith)
zipped R (x ∷ xs) [] same each = absurd (omega arith)
zipped R (x ∷ xs) (y ∷ ys) same each = (each 0 x (omega arith), zipped R xs ys (omega arith) (λ i d inside. each (suc i) d (omega arith)))

zipped_joined : {A : Type 0} (R : A → A → Type 0) (xs ys us vs : List A) → AllZip R xs ys → AllZip R us vs → AllZip R (xs ++ us) (ys ++ vs)
zipped_joined R [] [] us vs one two = two
zipped_joined R [] (y ∷ ys) us vs one two = absurd one
zipped_joined R (x ∷ xs) [] us vs one two = absurd one
zipped_joined R (x ∷ xs) (y ∷ ys) us vs one two = (one.0, zipped_joined R xs ys us vs one.1 two)

zipped_back : (A : Type 0) (R : A → A → Type 0) (xs ys : List A) → AllZip R xs ys → AllZip R (reverse xs) (reverse ys)
zipped_back A R [] [] one = tt
zipped_back A R [] (y ∷ ys) one = absurd one
zipped_back A R (x ∷ xs) [] one = absurd one
zipped_back A R (x ∷ xs) (y ∷ ys) one =
    subst (λ (us : List A). AllZip R us (reverse (y ∷ ys))) (sym (reverse-append (x ∷ []) xs))
    (subst (λ (vs : List A). AllZip R (reverse xs ++ x ∷ []) vs) (sym (reverse-append (y ∷ []) ys))
    (zipped_joined R (reverse xs) (reverse ys) (x ∷ []) (y ∷ []) (zipped_back A R xs ys one.1) (one.0, tt)))

pushed : {A : Type 0} (xs : List A) (x : A) → reverse (xs ++ x ∷ []) ≡ x ∷ reverse xs
pushed xs x = reverse-append xs (x ∷ [])

drop_both : {A : Type 0} (xs : List A) (m n : ℕ) → drop (m + n) xs ≡ drop n (drop m xs)
drop_both xs m n = grind (arith, common_steps)

next_share : (entries : List ℕ) (first end : ℕ) → first ≤ end → drop first entries ≡ slice_range entries first end ++ drop end entries
next_share entries first end within =
    let whole : first + (end - first) ≡ end = omega arith in
    sym (take-append-drop (end - first) (drop first entries))
    ∙ ap (λ (rest : List ℕ). slice_range entries first end ++ rest) (sym (drop_both entries first (end - first)) ∙ ap (λ k. drop k entries) whole)

-- one more link has its slot
pub hands_more : (L : Type 0) (all : List L) (entries : List ℕ) (links : List L) (end : ℕ) (slots : List (Slot L)) (slot : Slot L) → HandsOut all entries (links ++ slot.link ∷ []) end slots
    → slot.end ≡ end → slot.first ≤ end → slot.shots.items ≡ [] → HandsOut all entries links slot.first (slots ++ slot ∷ [])
hands_more L all entries links end slots slot handed at within empty =
    let link_of : Slot L → L = λ s. s.link in
    let back : reverse (slots ++ slot ∷ []) ≡ slot ∷ reverse slots = pushed slots slot in
    record {
      links_are = handed.links_are ∙ append_assoc links (slot.link ∷ []) (map link_of (reverse slots)) ∙ ap (λ (ss : List (Slot L)). links ++ map link_of ss) (sym back);
      entries_are = next_share entries slot.first slot.end (omega (arith, at, within))
          ∙ ap (λ (rest : List ℕ). share entries slot ++ rest) (ap (λ k. drop k entries) at ∙ handed.entries_are)
          ∙ sym (flat_map-cons (share entries) slot (reverse slots)) ∙ ap (flat_map (share entries)) (sym back);
      ready = All-push (IsReady entries) slots slot handed.ready (record { first = omega (arith, at, within); end = omega (arith, at, handed.within); shots = empty });
      within = omega (arith, within, handed.within);
    }

flat_map-one : {X A : Type 0} (f : X → List A) (xs : List X) (x : X) → flat_map f (xs ++ x ∷ []) ≡ flat_map f xs ++ f x
flat_map-one f xs x = flat_map-append f xs (x ∷ []) ∙ ap (λ ys. flat_map f xs ++ ys) (flat_map-cons f x [] ∙ append-nil (f x))

-- one more slot gave its link back
pub moves_more : (L : Type 0) (all left : List (Slot L)) (slot : Slot L) (links now_links : List L) (shots now_shots later_shots : List Shot) (enough later : Bool)
    → MovesBack all (left ++ slot ∷ []) links now_links shots now_shots enough
    → (later ≡ true → (enough ≡ true) × (slot.wanting ≡ false) × (later_shots ≡ now_shots ++ slot.shots.items))
    → MovesBack all left links (now_links ++ slot.link ∷ []) shots later_shots later
moves_more L all left slot links now_links shots now_shots later_shots enough later moved next = record {
  done = moved.done ++ slot ∷ [];
  all_are = moved.all_are ∙ ap (λ (ss : List (Slot L)). moved.done ++ ss) (pushed left slot) ∙ sym (append_assoc moved.done (slot ∷ []) (reverse left));
  links_are = ap (λ (ls : List L). ls ++ slot.link ∷ []) moved.links_are ∙ append_assoc links (map (λ (s : Slot L). s.link) moved.done) (slot.link ∷ [])
      ∙ ap (λ (ls : List L). links ++ ls) (sym (map-append (λ (s : Slot L). s.link) moved.done (slot ∷ [])));
  shots_are = λ yes'. (next yes').2 ∙ ap (λ (ss : List Shot). ss ++ slot.shots.items) (moved.shots_are (next yes').0)
      ∙ append_assoc shots (flat_map (λ (s : Slot L). s.shots.items) moved.done) slot.shots.items
      ∙ ap (λ (ss : List Shot). shots ++ ss) (sym (flat_map-one (λ (s : Slot L). s.shots.items) moved.done slot));
  none_wanting = λ yes'. All-push (λ (s : Slot L). s.wanting ≡ false) moved.done slot (moved.none_wanting (next yes').0) (next yes').1;
}

-- a slice that was lent is written back
pub written_back : {A : Type 0} (len : ℕ) (new old : List A) → len ≡ length new → take len (new ++ drop (length new) old) ≡ new
written_back len new old size = ap (λ n. take n (new ++ drop (length new) old)) size ∙ take-append_seam new (drop (length new) old)

module _ (L : Type 0) (see : L → Seen) (plan : PlanValue) (id : ProbeId) (entries : List ℕ) where
  abbrev link_of : Slot L → L
  link_of s = s.link

  abbrev shots_of : Slot L → List Shot
  shots_of s = s.shots.items

  abbrev Done : Slot L → Slot L → Type 0
  Done = HasDone see plan id entries

  abbrev IsEnough : Slot L → Type 0
  IsEnough s = s.wanting ≡ false

  own_kept : (olds news : List (Slot L)) → AllZip Done olds news → AllZip IsKept (map see (map link_of olds)) (map see (map link_of news))
  own_kept [] [] done = tt
  own_kept [] (new ∷ news) done = absurd done
  own_kept (old ∷ olds) [] done = absurd done
  own_kept (old ∷ olds) (new ∷ news) done = (done.0.kept, own_kept olds news done.1)

  own_shares : (olds news : List (Slot L)) → AllZip Done olds news → All IsEnough news
      → SharesOut plan.plan.table id (flat_map (share entries) olds) (flat_map shots_of news) (map see (map link_of olds)) (map see (map link_of news))
  own_shares [] [] done enough = (refl, refl)
  own_shares [] (new ∷ news) done enough = absurd done
  own_shares (old ∷ olds) [] done enough = absurd done
  own_shares (old ∷ olds) (new ∷ news) done enough = (
    flat_map (share entries) olds,
    flat_map shots_of news,
    record {
      share = share entries old;
      answers = new.shots.items;
      entries_are = flat_map-cons (share entries) old olds;
      shots_are = flat_map-cons shots_of new news;
      fired = done.0.fires (All-head IsEnough new news enough);
    },
    own_shares olds news done.1 (All-tail IsEnough new news enough),
  )

  abbrev faults_of : L → ℕ
  faults_of link = (see link).faults

  own_faults : (olds news : List (Slot L)) → AllZip Done olds news → All IsEnough news → All (λ (l : L). faults_of l < 2 ^ 64 - 1) (map link_of news)
      → count_by is_faulted (flat_map shots_of news) + sum_by faults_of (map link_of olds) ≤ sum_by faults_of (map link_of news)
  own_faults [] [] done enough below = omega arith
  own_faults [] (new ∷ news) done enough below = absurd done
  own_faults (old ∷ olds) [] done enough below = absurd done
  own_faults (old ∷ olds) (new ∷ news) done enough below =
      let here = faults_rise plan.plan.table id (share entries old) new.shots.items (see old.link) (see new.link) (done.0.fires (All-head IsEnough new news enough))
      (All-head (λ (l : L). faults_of l < 2 ^ 64 - 1) new.link (map link_of news) below) in
      let rest = own_faults olds news done.1 (All-tail IsEnough new news enough) (All-tail (λ (l : L). faults_of l < 2 ^ 64 - 1) new.link (map link_of news) below) in
      let count : count_by is_faulted (flat_map shots_of (new ∷ news)) ≡ count_by is_faulted new.shots.items + count_by is_faulted (flat_map shots_of news) =
      ap (count_by is_faulted) (flat_map-cons shots_of new news) ∙ count-append new.shots.items (flat_map shots_of news) in
      omega (arith, here.0, rest, count, sum_by-cons faults_of old.link (map link_of olds), sum_by-cons faults_of new.link (map link_of news))

  own_fields : (bad : List ℕ) (olds news : List (Slot L)) → AllZip Done olds news → All IsEnough news → All (λ (l : L). IsField plan.net plan.hops bad (see l)) (map link_of olds)
      → count_by is_faulted (flat_map shots_of news) ≡ 0
      → AreSure plan.net plan.hops bad plan.plan.table (flat_map (share entries) olds) (flat_map shots_of news) × All (λ (l : L). (see l).waiting ≡ Some []) (map link_of news)
  own_fields bad [] [] done enough fields none = (refl, λ k d inside. absurd (omega arith))
  own_fields bad [] (new ∷ news) done enough fields none = absurd done
  own_fields bad (old ∷ olds) [] done enough fields none = absurd done
  own_fields bad (old ∷ olds) (new ∷ news) done enough fields none =
      let count : count_by is_faulted (flat_map shots_of (new ∷ news)) ≡ count_by is_faulted new.shots.items + count_by is_faulted (flat_map shots_of news) =
      ap (count_by is_faulted) (flat_map-cons shots_of new news) ∙ count-append new.shots.items (flat_map shots_of news) in
      let here = done.0.sure (All-head IsEnough new news enough) bad (All-head (λ (l : L). IsField plan.net plan.hops bad (see l)) old.link (map link_of olds) fields) (omega (arith, count, none)) in
      let rest = own_fields bad olds news done.1 (All-tail IsEnough new news enough) (All-tail (λ (l : L). IsField plan.net plan.hops bad (see l)) old.link (map link_of olds) fields) (omega (arith, count, none)) in
      let of : ℕ → Shot = λ n. sure (verdict_of plan.net plan.hops bad (entry_at plan.plan.table n)) in (
        flat_map-cons shots_of new news ∙ (λ i. here.0 i ++ rest.0 i) ∙ sym (map-append of (share entries old) (flat_map (share entries) olds)) ∙ ap (map of) (sym (flat_map-cons (share entries) old olds)),
        All-cons (λ (l : L). (see l).waiting ≡ Some []) new.link (map link_of news) here.1.waiting rest.1,
      )

  pub ends_of : (all : List L) (one two : List (Slot L)) (links : List L) (shots : List Shot) (enough : Bool) → HandsOut all entries [] 0 one → AllZip Done one two
      → MovesBack two [] [] links [] shots enough → Ends see plan id entries all links shots enough
  ends_of all one two links shots enough handed done moved =
      let olds : List (Slot L) = reverse one in
      let news : List (Slot L) = reverse two in
      let pairs : AllZip Done olds news = zipped_back (Slot L) Done one two done in
      let done_is : moved.done ≡ news = sym (append-nil moved.done) ∙ sym moved.all_are in
      let all_is : all ≡ map link_of olds = handed.links_are in
      let links_is : links ≡ map link_of news = moved.links_are ∙ ap (map link_of) done_is in
      let entries_is : entries ≡ flat_map (share entries) olds = handed.entries_are in
      let shots_is : enough ≡ true → shots ≡ flat_map shots_of news = λ ok. moved.shots_are ok ∙ ap (flat_map shots_of) done_is in
      let none : enough ≡ true → All IsEnough news = λ ok. subst (λ (ss : List (Slot L)). All IsEnough ss) done_is (moved.none_wanting ok) in
      record {
        kept = subst (λ (xs : List L). AllZip IsKept (map see xs) (map see links)) (sym all_is)
            (subst (λ (ys : List L). AllZip IsKept (map see (map link_of olds)) (map see ys)) (sym links_is) (own_kept olds news pairs));
        shares = λ ok. subst (λ (ns : List ℕ). SharesOut plan.plan.table id ns shots (map see all) (map see links)) (sym entries_is)
            (subst (λ (ss : List Shot). SharesOut plan.plan.table id (flat_map (share entries) olds) ss (map see all) (map see links)) (sym (shots_is ok))
            (subst (λ (xs : List L). SharesOut plan.plan.table id (flat_map (share entries) olds) (flat_map shots_of news) (map see xs) (map see links)) (sym all_is)
            (subst (λ (ys : List L). SharesOut plan.plan.table id (flat_map (share entries) olds) (flat_map shots_of news) (map see (map link_of olds)) (map see ys)) (sym links_is)
            (own_shares olds news pairs (none ok)))));
        faulted = λ ok. subst (λ (ss : List Shot). All (λ (l : L). faults_of l < 2 ^ 64 - 1) links → count_by is_faulted ss + sum_by faults_of all ≤ sum_by faults_of links) (sym (shots_is ok))
            (subst (λ (xs : List L). All (λ (l : L). faults_of l < 2 ^ 64 - 1) links → count_by is_faulted (flat_map shots_of news) + sum_by faults_of xs ≤ sum_by faults_of links) (sym all_is)
            (subst (λ (ys : List L). All (λ (l : L). faults_of l < 2 ^ 64 - 1) ys → count_by is_faulted (flat_map shots_of news) + sum_by faults_of (map link_of olds) ≤ sum_by faults_of ys) (sym links_is)
            (own_faults olds news pairs (none ok))));
        fields = λ ok bad. subst (λ (ss : List Shot). All (λ (l : L). IsField plan.net plan.hops bad (see l)) all → count_by is_faulted ss ≡ 0
            → AreSure plan.net plan.hops bad plan.plan.table entries ss × All (λ (l : L). (see l).waiting ≡ Some []) links) (sym (shots_is ok))
            (subst (λ (ns : List ℕ). All (λ (l : L). IsField plan.net plan.hops bad (see l)) all → count_by is_faulted (flat_map shots_of news) ≡ 0
            → AreSure plan.net plan.hops bad plan.plan.table ns (flat_map shots_of news) × All (λ (l : L). (see l).waiting ≡ Some []) links) (sym entries_is)
            (subst (λ (xs : List L). All (λ (l : L). IsField plan.net plan.hops bad (see l)) xs → count_by is_faulted (flat_map shots_of news) ≡ 0
            → AreSure plan.net plan.hops bad plan.plan.table (flat_map (share entries) olds) (flat_map shots_of news) × All (λ (l : L). (see l).waiting ≡ Some []) links) (sym all_is)
            (subst (λ (ys : List L). All (λ (l : L). IsField plan.net plan.hops bad (see l)) (map link_of olds) → count_by is_faulted (flat_map shots_of news) ≡ 0
            → AreSure plan.net plan.hops bad plan.plan.table (flat_map (share entries) olds) (flat_map shots_of news) × All (λ (l : L). (see l).waiting ≡ Some []) ys) (sym links_is)
            (own_fields bad olds news pairs (none ok)))));
      }

pub all_kept : {L : Type 0} (see : L → Seen) (links : List L) → AllZip IsKept (map see links) (map see links)
all_kept see [] = tt
all_kept see (link ∷ links) = (kept_itself (see link), all_kept see links)
