-- Classes of headers that have met the same rules so far.
--     Belongs    a class has just the headers that stand behind its rules, and tells the port and what has become of them
use Rattle.std.specs.Prelude.{◌≡◌, ◌↔◌, length, IsTrue}
use Rattle.network_model.specs.Bits.{Header}
use Rattle.network_model.specs.Rewrites.{rewritten}
use Rattle.network_model.specs.Network.{Network}
use Rattle.network_model.specs.Prefixes.{Stands}
use Rattle.header_sets.specs.Spaces.{holds}
use Rattle.class_tree.specs.declared.class.Class.{Class}

pub record Belongs (net : Network) (class : Class) : Type 0 where
  pub space_width : class.space.width ≡ net.width
  pub rewrite_width : length class.rewrite ≡ net.width
  pub headers : (h : Header) → IsTrue (holds class.space h) ↔ Stands net class.«from» class.rules h
  pub port : (h : Header) (s : Stands net class.«from» class.rules h) → s.place.port ≡ class.port
  pub become : (h : Header) (s : Stands net class.«from» class.rules h) → s.place.header ≡ rewritten class.rewrite h
