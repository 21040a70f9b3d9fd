use Rattle.std.proofs.Common.{suc, [], ◌∷◌, ◌++◌, List, length, arith, subst, ap}
use Rattle.plane.specs.declared.kinds.Point.{Point}
use Rattle.near_pairs.specs.Boxes.{box_of}
use Rattle.level_breaks.specs.Groups.{HoldsPoint, nth}
use Rattle.level_breaks.proofs.BoxPoints.{covered, covers_through}
use Rattle.level_breaks.proofs.parts.with_part.Goals as goal

pub returns-clause-kept : goal.returns-clause-kept
returns-clause-kept c =
    covers_through (box_of c.with_next.result) (box_of c.grown-over.result)
    (box_of c.args.reach) c.with_next.ensures.kept c.grown-over.ensures.kept

pub returns-clause-part : goal.returns-clause-part
returns-clause-part c =
    let b = box_of c.with_next.result in
    let n = c.args.number in
    let k = c.args.curve.now in
    let t = c.args.tube.now in
    let inner = c.deref-2.ensures.value in
    let sizes = c.requires.sizes in
    let z = ap length inner in
    let all = covers_through b (box_of c.grown-over.result)
    (box_of c.args.reach) c.with_next.ensures.kept c.grown-over.ensures.kept in
    record {
      inner = covered b (box_of c.args.reach) _ all c.requires.begins.inner;
      next = λ l. subst (λ (ps : List Point). HoldsPoint b (nth ps (suc n))) inner
          (c.with_next.ensures.next (omega (arith, l, sizes, z)));
      start = covered b (box_of c.args.reach) _ all c.requires.begins.outer;
      end = subst (λ (os : List Point). HoldsPoint b (nth (os ++ k.to ∷ []) n))
          c.deref.ensures.value
          (subst (HoldsPoint b) c.end.ensures
          (covered b (box_of c.grown-over.result) _ c.with_next.ensures.kept
          c.grown-over.ensures.point));
    }
