use Rattle.field_values.specs.Places.{place_view}
use Rattle.area_drawings.proofs.CurveLemmas.{close_points, on_one_straight, left_of_straight}
use Rattle.area_drawings.proofs.CurveLemmas.{right_of_straight}
use Rattle.area_drawings.proofs.curves.are_collinear.Goals as goal

pub turn-requires-clause-b_close : goal.turn-requires-clause-b_close
turn-requires-clause-b_close c =
    close_points c.args.window (place_view c.args.start)
    (place_view c.args.over) c.point_at-from.result c.point_at-on.result c.point_at-from.ensures
    c.point_at-on.ensures c.requires.start_in c.requires.over_in

pub turn-requires-clause-c_close : goal.turn-requires-clause-c_close
turn-requires-clause-c_close c =
    close_points c.args.window (place_view c.args.start)
    (place_view c.args.end) c.point_at-from.result c.point_at-to.result c.point_at-from.ensures
    c.point_at-to.ensures c.requires.start_in c.requires.end_in

pub returns-in-Straight : goal.returns-in-Straight
returns-in-Straight c =
    on_one_straight (place_view c.args.start) (place_view c.args.over)
    (place_view c.args.end) c.point_at-from.result c.point_at-on.result c.point_at-to.result
    c.point_at-from.ensures c.point_at-on.ensures c.point_at-to.ensures c.in-Straight.ensures

pub returns-in-Left : goal.returns-in-Left
returns-in-Left c =
    left_of_straight (place_view c.args.start) (place_view c.args.over)
    (place_view c.args.end) c.point_at-from.result c.point_at-on.result c.point_at-to.result
    c.point_at-from.ensures c.point_at-on.ensures c.point_at-to.ensures c.in-Left.ensures

pub returns-in-Right : goal.returns-in-Right
returns-in-Right c =
    right_of_straight (place_view c.args.start) (place_view c.args.over)
    (place_view c.args.end) c.point_at-from.result c.point_at-on.result c.point_at-to.result
    c.point_at-from.ensures c.point_at-on.ensures c.point_at-to.ensures c.in-Right.ensures
