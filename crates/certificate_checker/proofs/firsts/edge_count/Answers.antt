use Rattle.certificate_checker.proofs.FirstEdges.{few_of_curve, half_arc_edges}
use Rattle.certificate_checker.proofs.firsts.edge_count.Goals as goal

pub returns-in-HalfArc-clause-count : goal.returns-in-HalfArc-clause-count
returns-in-HalfArc-clause-count c t =
    half_arc_edges c.args.curve.now c.args.level c.bay_count.result c.in-HalfArc.is
    (t c.in-HalfArc.is) c.bay_count.ensures

pub returns-in-HalfArc-clause-few : goal.returns-in-HalfArc-clause-few
returns-in-HalfArc-clause-few c =
    few_of_curve c.args.level c.bay_count.result c.requires.level c.bay_count.ensures
