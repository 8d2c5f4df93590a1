use Rattle.std.proofs.Common.{map}
use Rattle.std.proofs.lemmas.Result.{IfOk-weaker}
use Rattle.path_table.specs.Entries.{entry_of}
use Rattle.class_tree.specs.Searched.{IsSearched}
use Rattle.frontier_waves.specs.Starts.{starts_of}
use Rattle.frontier_waves.specs.Waves.{TouchedBy}
use Rattle.frontier_waves.proofs.Picks.{picked_searched, picked_touched, picked_more}
use Rattle.frontier_waves.proofs.search.entries_from.Goals as goal

pub search-requires-clause-starts : goal.search-requires-clause-starts
search-requires-clause-starts g c κs lives = c.in_ok-starts.ensures.starts

pub returns-clause-searched : goal.returns-clause-searched
returns-clause-searched g c =
    let starts = c.in_ok-starts.starts.items in
    IfOk-weaker c.search.result
    (λ found. IsSearched c.args.net.now c.args.hops (starts_of starts) (map entry_of found.entries.items) found.classes)
    (λ found. IsSearched c.args.net.now c.args.hops c.args.from.now (map entry_of found.entries.items) found.classes)
    (λ found is. picked_searched c.args.net.now c.args.hops c.args.from.now starts (map entry_of found.entries.items) found.classes c.in_ok-starts.ensures is)
    c.search.ensures.searched

pub returns-clause-touched : goal.returns-clause-touched
returns-clause-touched g c =
    let starts = c.in_ok-starts.starts.items in
    IfOk-weaker c.search.result
    (λ found. TouchedBy c.args.net.now c.args.hops (starts_of starts) found.touched)
    (λ found. TouchedBy c.args.net.now c.args.hops c.args.from.now found.touched)
    (λ found is. picked_touched c.args.net.now c.args.hops c.args.from.now starts found.touched c.in_ok-starts.ensures is)
    c.search.ensures.touched

pub returns-clause-full : goal.returns-clause-full
returns-clause-full g c most h =
    let full = c.search.ensures.full most h in
    (full.0, picked_more c.args.net.now c.args.hops c.args.limit c.args.from.now c.in_ok-starts.starts.items c.in_ok-starts.ensures full.1)
