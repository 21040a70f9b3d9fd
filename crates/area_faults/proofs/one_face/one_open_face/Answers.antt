use Rattle.std.proofs.Common.{ℕ, None, ap, length, replicate, ◌∙◌, arith}
use Rattle.plane.specs.Rule.Plans.{plan}
use Rattle.fault_lists.specs.declared.faces.PointPlace.TheVariants.{InFace}
use Rattle.area_faults.proofs.OneFace.{one_face}
use Rattle.area_faults.proofs.one_face.one_open_face.Goals as goal

pub returns-clause-faces : goal.returns-clause-faces
returns-clause-faces c =
    let same = ap length c.deref.ensures.value in
    one_face (plan c.args.drawing.now) (record {
      «open» = c.in_ok-open.open;
      points = c.in_ok-points.points;
      curves = c.in_ok-curves.curves;
      next = c.new.result;
    }) c.has_curve.result
    (λ e. let l = c.has_curve.ensures.yes e in
    omega (arith, l, same)) (λ e. let l = c.has_curve.ensures.no e in
    omega (arith, l, same)) c.in_ok-open.ensures
    (c.in_ok-points.ensures
    ∙ ap (λ (n : ℕ). replicate n (InFace 0)) (c.len.ensures ∙ c.args.drawing.now.points.ok.0))
    (c.in_ok-curves.ensures
    ∙ ap (λ (n : ℕ). replicate n None) (c.len-2.ensures ∙ c.args.drawing.now.curves.ok.0))
