use Rattle.meetings.proofs.StraightPairs.{edges_close, straights_bad}
use Rattle.meetings.proofs.badness.are_straights_bad.Goals as goal

pub meet_badly-requires-clause-close : goal.meet_badly-requires-clause-close
meet_badly-requires-clause-close c =
    edges_close c.args.first.now c.args.second.now c.edge_between-edge.result
    c.edge_between-other.result c.edge_between-edge.ensures.ends c.edge_between-other.ensures.ends
    c.requires.placed

pub returns : goal.returns
returns c =
    let s = c.edge_between-edge.result in
    let t = c.edge_between-other.result in
    straights_bad c.args.first.now c.args.second.now s t c.edge_between-edge.ensures.ends
    c.edge_between-other.ensures.ends c.meet_badly.result c.requires.straights
    (c.edges_of_straights.ensures.bad s t c.args.first.now c.args.second.now
    c.edge_between-edge.ensures.ends c.edge_between-other.ensures.ends c.requires.straights.0
    c.requires.straights.1) c.meet_badly.ensures
