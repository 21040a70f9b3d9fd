use Rattle.std.proofs.Common.{List, ◌∷◌, arith, subst}
use Rattle.plane.specs.declared.kinds.Point.{Point}
use Rattle.near_pairs.specs.Boxes.{box_of}
use Rattle.level_breaks.specs.Groups.{HoldsPoint, nth}
use Rattle.level_breaks.specs.Parts.{HoldsTubePart}
use Rattle.level_breaks.proofs.BoxPoints.{covered}
use Rattle.level_breaks.proofs.PartEdges.{next_start, part_again}
use Rattle.level_breaks.proofs.StretchParts.{placed_again, placed_more, placed_to}
use Rattle.level_breaks.proofs.parts.tube_reach.Goals as goal

pub loop-number-init : goal.loop-number-init
loop-number-init c =
    let b = box_of c.grown-reach.result in
    let n = c.args.from in record {
      placed = λ i f l. absurd (omega (arith, f, l));
      begins = λ l. record {
        inner = subst (λ (ps : List Point). HoldsPoint b (nth ps n)) c.deref.ensures.value
            (subst (HoldsPoint b) c.point_at-first.ensures
            (covered b (box_of c.around.result) _ c.grown-reach.ensures.kept c.around.ensures));
        outer = subst (λ (os : List Point). HoldsPoint b (nth (c.args.curve.now.from ∷ os) n))
            c.deref-2.ensures.value
            (subst (HoldsPoint b) c.start.ensures c.grown-reach.ensures.point);
      };
    }

pub with_part-reach-requires-clause-begins : goal.with_part-reach-requires-clause-begins
with_part-reach-requires-clause-begins c =
    let l = c.loop-number-test.true in
    let t = c.requires.there in
    c.loop-number.invariant.begins (omega (arith, l, t))

pub loop-number-preserved : goal.loop-number-preserved
loop-number-preserved c =
    let k = c.args.curve.now in
    let t = c.args.tube.now in
    let b = box_of c.with_part-reach.result in
    let a = box_of c.loop-number.reach in record {
      placed = placed_more (HoldsTubePart k t b) c.args.from c.loop-number.number
          (placed_again (HoldsTubePart k t a) (HoldsTubePart k t b) c.args.from c.loop-number.number
          (part_again b a k t c.with_part-reach.ensures.kept) c.loop-number.invariant.placed)
          c.with_part-reach.ensures.part;
      begins = λ l. next_start b k t c.loop-number.number
          (omega (arith, l)) c.with_part-reach.ensures.part;
    }

pub returns : goal.returns
returns c = placed_to (HoldsTubePart c.args.curve.now c.args.tube.now (box_of c.loop-number.reach))
    c.args.from c.args.to c.loop-number.number c.loop-number-test.false
    c.loop-number.invariant.placed
