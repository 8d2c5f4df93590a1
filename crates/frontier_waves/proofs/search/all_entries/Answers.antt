use Rattle.std.proofs.Common.{ℕ, ◌↔◌, map}
use Rattle.std.specs.List.{Contains}
use Rattle.std.proofs.lemmas.Result.{IfOk-weaker}
use Rattle.network_model.specs.Prefixes.{IsPrefixNumber, Touches}
use Rattle.path_table.specs.Entries.{entry_of, IsFound}
use Rattle.class_tree.specs.Searched.{IsSearched}
use Rattle.class_tree.proofs.Searching.{all_found, all_counted}
use Rattle.frontier_waves.specs.Starts.{starts_of}
use Rattle.frontier_waves.specs.Waves.{TouchedBy}
use Rattle.frontier_waves.proofs.Picks.{all_starts, all_touched, all_more}
use Rattle.frontier_waves.proofs.search.all_entries.Goals as goal

pub search-requires-clause-starts : goal.search-requires-clause-starts
search-requires-clause-starts g c κs lives = all_starts c.args.net.now c.in_ok-starts.starts.items c.in_ok-starts.ensures

pub returns-clause-entries : goal.returns-clause-entries
returns-clause-entries g c =
    let starts = c.in_ok-starts.starts.items in
    IfOk-weaker c.search.result
    (λ found. IsSearched c.args.net.now c.args.hops (starts_of starts) (map entry_of found.entries.items) found.classes)
    (λ found. IsFound c.args.net.now c.args.hops (map entry_of found.entries.items))
    (λ found is. all_found c.args.net.now c.args.hops starts (map entry_of found.entries.items) found.classes c.in_ok-starts.ensures is)
    c.search.ensures.searched

pub returns-clause-classes : goal.returns-clause-classes
returns-clause-classes g c =
    let starts = c.in_ok-starts.starts.items in
    IfOk-weaker c.search.result
    (λ found. IsSearched c.args.net.now c.args.hops (starts_of starts) (map entry_of found.entries.items) found.classes)
    (λ found. IsPrefixNumber c.args.net.now c.args.hops (λ start rules. Unit {0}) found.classes)
    (λ found is. all_counted c.args.net.now c.args.hops starts (map entry_of found.entries.items) found.classes c.in_ok-starts.ensures is)
    c.search.ensures.searched

pub returns-clause-touched : goal.returns-clause-touched
returns-clause-touched g c =
    let starts = c.in_ok-starts.starts.items in
    IfOk-weaker c.search.result
    (λ found. TouchedBy c.args.net.now c.args.hops (starts_of starts) found.touched)
    (λ found. (terminal box : ℕ) → Contains found.touched (terminal, box) ↔ Touches c.args.net.now c.args.hops terminal box)
    (λ found is. all_touched c.args.net.now c.args.hops starts found.touched c.in_ok-starts.ensures is)
    c.search.ensures.touched

pub returns-clause-full : goal.returns-clause-full
returns-clause-full g c most h =
    let full = c.search.ensures.full most h in
    (full.0, all_more c.args.net.now c.args.hops c.args.limit c.in_ok-starts.starts.items full.1)
