use Rattle.std.proofs.Common.{refl, arith}
use Rattle.std.proofs.lemmas.List.{take_rest}
use Rattle.area_drawings.proofs.StrokeSteps.{vertex_inside, rest_inside}
use Rattle.area_drawings.proofs.drawing.add_stroke.Goals as goal

pub add_after-requires-clause-start_in : goal.add_after-requires-clause-start_in
add_after-requires-clause-start_in c =
    let n = c.in-len1-up.len_at_least in
    vertex_inside c.args.drawing.now.window c.args.drawing.now.window c.args.vertices.now 0
    c.first-item.result (omega (arith, n)) c.first-item.is c.requires.inside refl

pub add_after-requires-clause-inside : goal.add_after-requires-clause-inside
add_after-requires-clause-inside c =
    rest_inside c.args.drawing.now.window 1 c.args.vertices.now _
    (take_rest c.args.vertices.now 1) c.requires.inside
