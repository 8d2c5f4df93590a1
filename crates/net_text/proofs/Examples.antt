-- Worked examples, by computation.
use Rattle.std.specs.Prelude.{◌≡◌, ℕ, List, [], ◌∷◌, ◌++◌, replicate, drop, codes, refl, true, false}
use Rattle.std.specs.Fmt.{digits}
use Rattle.network_model.specs.Bits.{Bit, Any}
use Rattle.network_model.specs.Rewrites.{Old}
use Rattle.network_model.specs.Network.{AnyPort, Out, Send, Receive}
use Rattle.net_types.specs.declared.fault.NetFault.TheVariants.{Twice, Unknown, Width, PortTaken, LinkTaken, EdgeLinked}
use Rattle.net_text.specs.declared.fault.TextFault.TheVariants.{NoHead, Version, Words, Number, Letters, Net}
use Rattle.net_text.specs.Declarations.{Declaration, DeclareBox, DeclarePort, DeclareTerminal, DeclarePermit, DeclareForbid, DeclareRule}
use Rattle.net_text.specs.Text.{Declared, Faulty, reading, network_of}
use Rattle.net_text.specs.Printing.{network_text}

-- the first six lines of one box, then with its permit, then with its rule
abbrev ports : List ℕ
ports =
    codes "atpg-net 1 4" ++ 10 ∷ codes "box 1" ++ 10 ∷ codes "port 11 1" ++ 10 ∷ codes "port 12 1" ++ 10
    ∷ codes "term 1 11 send" ++ 10 ∷ codes "term 2 12 receive" ++ 10 ∷ []

abbrev start : List ℕ
start = ports ++ codes "permit 1 xxxx" ++ 10 ∷ []

abbrev one_box : List ℕ
one_box = start ++ codes "rule 5 1 10 * 1xx0 12" ++ 10 ∷ []

abbrev declared : List Declaration
declared =
    DeclareBox 1 ∷ DeclarePort 11 1 ∷ DeclarePort 12 1 ∷ DeclareTerminal 1 11 Send ∷ DeclareTerminal 2 12 Receive
    ∷ DeclarePermit 1 (Any ∷ Any ∷ Any ∷ Any ∷ [])
    ∷ DeclareRule 5 (record { at = 1; priority = 10; inp = AnyPort; pattern = Bit true ∷ Any ∷ Any ∷ Bit false ∷ []; action = Out 12 (Old 1 ∷ Old 2 ∷ Old 3 ∷ Old 4 ∷ []) }) ∷ []

whole : reading one_box ≡ Declared 4 declared
whole = refl

comment : reading (one_box ++ codes "# " ++ 255 ∷ []) ≡ Declared 4 declared
comment = refl

head_alone : reading (codes "atpg-net 1 4") ≡ Declared 4 []
head_alone = refl

half_head : reading (codes "atpg-net 1 ") ≡ Faulty 1 NoHead
half_head = refl

nothing_read : reading [] ≡ Faulty 1 NoHead
nothing_read = refl

three_feeds : reading (10 ∷ 10 ∷ 10 ∷ []) ≡ Faulty 4 NoHead
three_feeds = refl

second_version : reading (codes "atpg-net 2 4") ≡ Declared 4 []
second_version = refl

other_version : reading (codes "atpg-net 3 x") ≡ Faulty 1 Version
other_version = refl

wide_head : reading (codes "atpg-net 1 129") ≡ Faulty 1 (Net Width)
wide_head = refl

narrow_permit : reading (ports ++ codes "permit 1 xxx") ≡ Faulty 7 (Net Width)
narrow_permit = refl

unknown_port : reading (start ++ codes "rule 5 1 10 99 1xx0 12" ++ 10 ∷ codes "bogus" ++ 10 ∷ []) ≡ Faulty 8 (Net Unknown)
unknown_port = refl

short_rule : reading (start ++ codes "rule 5 1 10 * 1xx0") ≡ Faulty 8 Words
short_rule = refl

wrong_byte : reading (one_box ++ 255 ∷ []) ≡ Faulty 9 Words
wrong_byte = refl

too_large : reading (one_box ++ codes "box 4294967296") ≡ Faulty 9 Number
too_large = refl

leading_zero : reading (one_box ++ codes "box 01") ≡ Faulty 9 Number
leading_zero = refl

long_pattern : reading (one_box ++ codes "permit 1 " ++ replicate 129 120) ≡ Faulty 9 Letters
long_pattern = refl

first_fault : reading (one_box ++ codes "rule 6 1 01 * 1x2x 12") ≡ Faulty 9 Number
first_fault = refl

drop_and_rewrite : reading (one_box ++ codes "rule 6 1 1 * xxxx drop ----") ≡ Faulty 9 Words
drop_and_rewrite = refl

box_twice : reading (one_box ++ codes "box 1") ≡ Faulty 9 (Net Twice)
box_twice = refl

terminal_at_edge : reading (one_box ++ codes "term 3 12 both") ≡ Faulty 9 (Net PortTaken)
terminal_at_edge = refl

link_to_itself : reading (one_box ++ codes "link 11 11") ≡ Faulty 9 (Net LinkTaken)
link_to_itself = refl

link_at_edge : reading (one_box ++ codes "link 11 12") ≡ Faulty 9 (Net EdgeLinked)
link_at_edge = refl

-- the same in version 2, where it may forbid headers
one_box_two : List ℕ
one_box_two = codes "atpg-net 2 4" ++ drop 12 one_box

forbidding : reading (one_box_two ++ codes "forbid 1 xx00") ≡ Declared 4 (declared ++ DeclareForbid 1 (Any ∷ Any ∷ Bit false ∷ Bit false ∷ []) ∷ [])
unfolding one_box_two
forbidding = refl

forbidding_in_one : reading (one_box ++ codes "forbid 1 xx00") ≡ Faulty 9 Words
forbidding_in_one = refl

printed : network_text (network_of 4 declared) ≡ one_box_two
unfolding digits one_box_two
printed = refl
