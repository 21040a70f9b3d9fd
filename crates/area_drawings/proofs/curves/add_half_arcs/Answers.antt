use Rattle.field_values.specs.Places.{place_view}
use Rattle.area_drawings.proofs.CurveLemmas.{bent_places}
use Rattle.area_drawings.proofs.curves.add_half_arcs.Goals as goal

pub add_arc-requires-clause-bent : goal.add_arc-requires-clause-bent
add_arc-requires-clause-bent c =
    bent_places (place_view c.args.start) (place_view c.args.over.at)
    (place_view c.args.end.at) c.point_at-from.result c.point_at-on.result c.point_at-to.result
    c.point_at-from.ensures c.point_at-on.ensures c.point_at-to.ensures c.requires.bent
