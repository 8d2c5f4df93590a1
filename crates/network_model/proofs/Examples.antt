-- Worked examples, by computation.
use Rattle.std.specs.Prelude.{◌≡◌, ℕ, ◌+◌, ◌-◌, [], ◌∷◌, ◌++◌, map, refl, true, false, Bool}
use Rattle.std.specs.List.{range_with_len}
use Rattle.network_model.specs.Bits.{Bit, Any, Letter}
use Rattle.network_model.specs.Rewrites.{Old, Set}
use Rattle.network_model.specs.Network.{Network, AnyPort, OnePort, Out, Send, Receive}
use Rattle.network_model.specs.Walk.{Delivered, Unmatched, Overlong}
use Rattle.network_model.specs.Classes.{permits, walk_from}
use Rattle.network_model.specs.Cover.{gain}
use Rattle.network_model.specs.Plan.{Plan, reserved, idle}

abbrev o : Bool
o = false

abbrev l : Bool
l = true

abbrev x : Letter
x = Any

abbrev a : Letter
a = Bit false

abbrev b : Letter
b = Bit true

one_box : Network
one_box = record {
  width = 4;
  boxes = 1 ∷ [];
  ports = (11, 1) ∷ (12, 1) ∷ [];
  links = [];
  terminals = (1, record { port = 11; role = Send; permits = (x ∷ x ∷ x ∷ x ∷ []) ∷ []; forbids = [] }) ∷ (2, record { port = 12; role = Receive; permits = []; forbids = [] }) ∷ [];
  rules = (5, record { at = 1; priority = 10; inp = AnyPort; pattern = b ∷ x ∷ x ∷ a ∷ []; action = Out 12 (Old 1 ∷ Old 2 ∷ Old 3 ∷ Old 4 ∷ []) }) ∷ [];
}

delivered : walk_from one_box 16 1 (l ∷ o ∷ o ∷ o ∷ []) ≡ record { rules = 5 ∷ []; end = Delivered 2 (l ∷ o ∷ o ∷ o ∷ []) }
unfolding one_box
delivered = refl

unmatched : walk_from one_box 16 1 (l ∷ o ∷ o ∷ l ∷ []) ≡ record { rules = []; end = Unmatched }
unfolding one_box
unmatched = refl

-- a loop that is left when a bit is set: 2 boxes, back and forth
looped : Network
looped = record {
  width = 2;
  boxes = 1 ∷ 2 ∷ [];
  ports = (11, 1) ∷ (12, 1) ∷ (13, 1) ∷ (21, 2) ∷ (22, 2) ∷ (23, 2) ∷ [];
  links = (12, 21) ∷ (13, 22) ∷ (21, 12) ∷ (22, 13) ∷ [];
  terminals = (1, record { port = 11; role = Send; permits = (x ∷ x ∷ []) ∷ []; forbids = [] }) ∷ (2, record { port = 23; role = Receive; permits = []; forbids = [] }) ∷ [];
  rules = (1, record { at = 1; priority = 1; inp = AnyPort; pattern = x ∷ x ∷ []; action = Out 12 (Old 1 ∷ Old 2 ∷ []) })
      ∷ (2, record { at = 2; priority = 1; inp = AnyPort; pattern = a ∷ x ∷ []; action = Out 22 (Set l ∷ Old 2 ∷ []) })
      ∷ (3, record { at = 2; priority = 1; inp = AnyPort; pattern = b ∷ x ∷ []; action = Out 23 (Old 1 ∷ Old 2 ∷ []) }) ∷ [];
}

round_and_out : walk_from looped 16 1 (o ∷ o ∷ []) ≡ record { rules = 1 ∷ 2 ∷ 1 ∷ 3 ∷ []; end = Delivered 2 (l ∷ o ∷ []) }
unfolding looped
round_and_out = refl

too_few_hops : walk_from looped 3 1 (o ∷ o ∷ []) ≡ record { rules = 1 ∷ 2 ∷ 1 ∷ []; end = Overlong }
unfolding looped
too_few_hops = refl

straight_out : walk_from looped 3 1 (l ∷ o ∷ []) ≡ record { rules = 1 ∷ 3 ∷ []; end = Delivered 2 (l ∷ o ∷ []) }
unfolding looped
straight_out = refl

looped_plan : Plan
looped_plan = record {
  table = record { from = 1; to = 2; rules = 1 ∷ 2 ∷ 1 ∷ 3 ∷ []; least = o ∷ o ∷ []; greatest = o ∷ l ∷ []; arrives = l ∷ o ∷ [] }
      ∷ record { from = 1; to = 2; rules = 1 ∷ 3 ∷ []; least = l ∷ o ∷ []; greatest = l ∷ l ∷ []; arrives = l ∷ o ∷ [] } ∷ [];
  probes = 1 ∷ [];
}

-- a rule that is met twice counts once
met_twice : gain looped_plan.table [] 1 ≡ 3
unfolding looped_plan
met_twice = refl

straight_reserved : reserved looped_plan ≡ 2 ∷ []
unfolding looped_plan
straight_reserved = refl

-- with 3 hops the loop's second rule is idle, since no header that meets it is delivered
short_plan : Plan
short_plan = record {
  table = record { from = 1; to = 2; rules = 1 ∷ 3 ∷ []; least = l ∷ o ∷ []; greatest = l ∷ l ∷ []; arrives = l ∷ o ∷ [] } ∷ [];
  probes = 1 ∷ [];
}

never_left : idle looped short_plan ≡ 2 ∷ []
unfolding looped short_plan
never_left = refl

-- as many boxes in a row: box i has the ports 100 + i and 200 + i, and a rule from the first to the second
chain : ℕ → Network
chain boxes = record {
  width = 1;
  boxes = range_with_len 1 boxes;
  ports = map (λ i. (100 + i, i)) (range_with_len 1 boxes) ++ map (λ i. (200 + i, i)) (range_with_len 1 boxes);
  links = map (λ i. (101 + i, 200 + i)) (range_with_len 1 (boxes - 1)) ++ map (λ i. (200 + i, 101 + i)) (range_with_len 1 (boxes - 1));
  terminals = (1, record { port = 101; role = Send; permits = (x ∷ []) ∷ []; forbids = [] }) ∷ (2, record { port = 200 + boxes; role = Receive; permits = []; forbids = [] }) ∷ [];
  rules = map (λ i. (i, record { at = i; priority = 1; inp = OnePort (100 + i); pattern = x ∷ []; action = Out (200 + i) (Old 1 ∷ []) })) (range_with_len 1 boxes);
}

enough_hops : walk_from (chain 16) 16 1 (o ∷ []) ≡ record { rules = 1 ∷ 2 ∷ 3 ∷ 4 ∷ 5 ∷ 6 ∷ 7 ∷ 8 ∷ 9 ∷ 10 ∷ 11 ∷ 12 ∷ 13 ∷ 14 ∷ 15 ∷ 16 ∷ []; end = Delivered 2 (o ∷ []) }
unfolding chain
enough_hops = refl

one_hop_short : walk_from (chain 16) 15 1 (o ∷ []) ≡ record { rules = 1 ∷ 2 ∷ 3 ∷ 4 ∷ 5 ∷ 6 ∷ 7 ∷ 8 ∷ 9 ∷ 10 ∷ 11 ∷ 12 ∷ 13 ∷ 14 ∷ 15 ∷ []; end = Overlong }
unfolding chain
one_hop_short = refl

-- the first box sets the second bit, and the second box takes only headers that have it and the last bit
rewriting : Network
rewriting = record {
  width = 4;
  boxes = 1 ∷ 2 ∷ [];
  ports = (11, 1) ∷ (12, 1) ∷ (21, 2) ∷ (22, 2) ∷ [];
  links = (12, 21) ∷ (21, 12) ∷ [];
  terminals = (1, record { port = 11; role = Send; permits = (x ∷ a ∷ x ∷ x ∷ []) ∷ []; forbids = [] }) ∷ (2, record { port = 22; role = Receive; permits = []; forbids = [] }) ∷ [];
  rules = (1, record { at = 1; priority = 1; inp = OnePort 11; pattern = a ∷ x ∷ x ∷ x ∷ []; action = Out 12 (Old 1 ∷ Set l ∷ Old 3 ∷ Old 4 ∷ []) })
      ∷ (2, record { at = 2; priority = 1; inp = OnePort 21; pattern = x ∷ b ∷ x ∷ b ∷ []; action = Out 22 (Old 1 ∷ Old 2 ∷ Old 3 ∷ Old 4 ∷ []) }) ∷ [];
}

least_arrives_rewritten : walk_from rewriting 16 1 (o ∷ o ∷ o ∷ l ∷ []) ≡ record { rules = 1 ∷ 2 ∷ []; end = Delivered 2 (o ∷ l ∷ o ∷ l ∷ []) }
unfolding rewriting
least_arrives_rewritten = refl

greatest_arrives_rewritten : walk_from rewriting 16 1 (o ∷ o ∷ l ∷ l ∷ []) ≡ record { rules = 1 ∷ 2 ∷ []; end = Delivered 2 (o ∷ l ∷ l ∷ l ∷ []) }
unfolding rewriting
greatest_arrives_rewritten = refl

last_bit_missing : walk_from rewriting 16 1 (o ∷ o ∷ l ∷ o ∷ []) ≡ record { rules = 1 ∷ []; end = Unmatched }
unfolding rewriting
last_bit_missing = refl

second_bit_forbidden : permits rewriting 1 (o ∷ l ∷ o ∷ l ∷ []) ≡ false
unfolding rewriting
second_bit_forbidden = refl

-- two boxes that each sort headers by one bit
unfoldable pub sorting : Network
sorting = record {
  width = 2;
  boxes = 1 ∷ 2 ∷ [];
  ports = (11, 1) ∷ (12, 1) ∷ (21, 2) ∷ (22, 2) ∷ [];
  links = (12, 21) ∷ (21, 12) ∷ [];
  terminals = (1, record { port = 11; role = Send; permits = (a ∷ x ∷ []) ∷ (b ∷ b ∷ []) ∷ []; forbids = [] }) ∷ (2, record { port = 22; role = Receive; permits = []; forbids = [] }) ∷ [];
  rules = (1, record { at = 1; priority = 1; inp = AnyPort; pattern = a ∷ x ∷ []; action = Out 12 (Old 1 ∷ Old 2 ∷ []) })
      ∷ (2, record { at = 1; priority = 1; inp = AnyPort; pattern = b ∷ x ∷ []; action = Out 12 (Old 1 ∷ Old 2 ∷ []) })
      ∷ (3, record { at = 2; priority = 1; inp = AnyPort; pattern = x ∷ a ∷ []; action = Out 22 (Old 1 ∷ Old 2 ∷ []) })
      ∷ (4, record { at = 2; priority = 1; inp = AnyPort; pattern = x ∷ b ∷ []; action = Out 22 (Old 1 ∷ Old 2 ∷ []) }) ∷ [];
}

first_class : walk_from sorting 16 1 (o ∷ o ∷ []) ≡ record { rules = 1 ∷ 3 ∷ []; end = Delivered 2 (o ∷ o ∷ []) }
unfolding sorting
first_class = refl

second_class : walk_from sorting 16 1 (o ∷ l ∷ []) ≡ record { rules = 1 ∷ 4 ∷ []; end = Delivered 2 (o ∷ l ∷ []) }
unfolding sorting
second_class = refl

third_class : walk_from sorting 16 1 (l ∷ l ∷ []) ≡ record { rules = 2 ∷ 4 ∷ []; end = Delivered 2 (l ∷ l ∷ []) }
unfolding sorting
third_class = refl

not_permitted : permits sorting 1 (l ∷ o ∷ []) ≡ false
unfolding sorting
not_permitted = refl

unfoldable pub sorting_plan : Plan
sorting_plan = record {
  table = record { from = 1; to = 2; rules = 1 ∷ 3 ∷ []; least = o ∷ o ∷ []; greatest = o ∷ o ∷ []; arrives = o ∷ o ∷ [] }
      ∷ record { from = 1; to = 2; rules = 1 ∷ 4 ∷ []; least = o ∷ l ∷ []; greatest = o ∷ l ∷ []; arrives = o ∷ l ∷ [] }
      ∷ record { from = 1; to = 2; rules = 2 ∷ 4 ∷ []; least = l ∷ l ∷ []; greatest = l ∷ l ∷ []; arrives = l ∷ l ∷ [] } ∷ [];
  probes = 1 ∷ 3 ∷ [];
}

gains_at_first : map (gain sorting_plan.table []) (1 ∷ 2 ∷ 3 ∷ []) ≡ 2 ∷ 2 ∷ 2 ∷ []
unfolding sorting_plan
gains_at_first = refl

gains_after_one : map (gain sorting_plan.table (1 ∷ [])) (1 ∷ 2 ∷ 3 ∷ []) ≡ 0 ∷ 1 ∷ 2 ∷ []
unfolding sorting_plan
gains_after_one = refl

gains_at_last : map (gain sorting_plan.table (1 ∷ 3 ∷ [])) (1 ∷ 2 ∷ 3 ∷ []) ≡ 0 ∷ 0 ∷ 0 ∷ []
unfolding sorting_plan
gains_at_last = refl

second_reserved : reserved sorting_plan ≡ 2 ∷ []
unfolding sorting_plan
second_reserved = refl

none_idle : idle sorting sorting_plan ≡ []
unfolding sorting sorting_plan
none_idle = refl
