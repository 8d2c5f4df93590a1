-- The rules of the generated network, each with its number, from the words that it draws.
--     beginning       the pattern that asks for these bits first
--     as_it_is        the rewrite that keeps all bits
--     last_byte       the rewrite that sets the last eight bits to the lowest eight of a word, and keeps the others
--     outward         rule j of edge e for packets from its terminal, of the words a, b, c and f; the last one draws none
--     core            rule d of the core
--     inward          rule j of edge e for packets from the core, of the words a and b; the last one draws none
-- The first bit of a word is its most significant one.
use Rattle.std.specs.Prelude.{ℕ, ◌+◌, ◌-◌, ◌*◌, ◌%◌, ◌==◌, ◌++◌, map, length, take, replicate, if◌then◌else◌}
use Rattle.network_model.specs.Bits.{Header, Pattern, Bit, Any}
use Rattle.network_model.specs.Rewrites.{Rewrite, Set, kept}
use Rattle.network_model.specs.Network.{Numbered, AnyPort, OnePort, Action, Drop, Out}
use Rattle.ternary_bits.specs.Words.{header_of}
use Rattle.net_grow.specs.Places.{any_header}

unfoldable pub beginning : Header → Pattern
beginning bits = map Bit bits ++ replicate (128 - length bits) Any

unfoldable pub as_it_is : Rewrite
as_it_is = kept 128

unfoldable pub last_byte : ℕ → Rewrite
last_byte word = kept 120 ++ map Set (header_of 8 word)

abbrev pub outward_action : ℕ → ℕ → ℕ → Action
outward_action e j f = if j % 8 == 0 then Drop else Out (200 + e) (if j % 2 == 1 then last_byte f else as_it_is)

unfoldable pub outward : ℕ → ℕ → ℕ → ℕ → ℕ → ℕ → Numbered
outward e j a b c f =
    let size = 4 + a % 30 in (
      1000 + 64 * e + j,
      record {
        at = e;
        priority = size;
        inp = OnePort (100 + e);
        pattern = beginning (take size (header_of 32 b ++ header_of 32 c));
        action = outward_action e j f;
      },
    )

unfoldable pub outward_last : ℕ → Numbered
outward_last e = (
  1000 + 64 * e + 63,
  record {
    at = e;
    priority = 0;
    inp = OnePort (100 + e);
    pattern = any_header;
    action = Out (200 + e) as_it_is;
  },
)

unfoldable pub core : ℕ → Numbered
core d = (
  3000 + d,
  record {
    at = 16;
    priority = 10;
    inp = AnyPort;
    pattern = beginning (header_of 4 d);
    action = Out (300 + d) as_it_is;
  },
)

unfoldable pub inward : ℕ → ℕ → ℕ → ℕ → Numbered
inward e j a b =
    let size = 4 + a % 20 in (
      4000 + 32 * e + j,
      record {
        at = e;
        priority = size;
        inp = OnePort (200 + e);
        pattern = beginning (header_of 4 e ++ take (size - 4) (header_of 32 b));
        action = Out (100 + e) as_it_is;
      },
    )

unfoldable pub inward_last : ℕ → Numbered
inward_last e = (
  4000 + 32 * e + 31,
  record {
    at = e;
    priority = 0;
    inp = OnePort (200 + e);
    pattern = any_header;
    action = Out (100 + e) as_it_is;
  },
)
