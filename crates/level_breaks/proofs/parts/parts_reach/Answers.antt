use Rattle.std.proofs.Common.{suc, ◌≤◌, sym, subst, Option}
use Rattle.near_pairs.specs.Boxes.{box_of}
use Rattle.tubes.specs.declared.kinds.Tube.{Tube}
use Rattle.level_breaks.specs.Groups.{IsEdged, bays_of}
use Rattle.level_breaks.specs.Parts.{HoldsPart}
use Rattle.level_breaks.specs.Stretches.{IsPlaced}
use Rattle.level_breaks.proofs.BoxPoints.{covered}
use Rattle.level_breaks.proofs.PartEdges.{sizes_of}
use Rattle.level_breaks.proofs.parts.parts_reach.Goals as goal

pub tube_reach-requires-clause-sizes : goal.tube_reach-requires-clause-sizes
tube_reach-requires-clause-sizes c =
    sizes_of c.args.group.now.curve.now c.in-Some.tube
    (subst (IsEdged c.args.group.now.curve.now) c.in-Some.is c.requires.edged)

pub tube_reach-requires-clause-there : goal.tube_reach-requires-clause-there
tube_reach-requires-clause-there c =
    subst (λ (t : Option Tube). c.args.to ≤ suc (bays_of t)) c.in-Some.is c.requires.there

pub returns-in-Some : goal.returns-in-Some
returns-in-Some c =
    subst (λ (t : Option Tube). IsPlaced
    (HoldsPart c.args.group.now.curve.now t (box_of c.tube_reach.result)) c.args.from c.args.to)
    (sym c.in-Some.is) c.tube_reach.ensures

pub returns-in-None : goal.returns-in-None
returns-in-None c =
    subst (λ (t : Option Tube). IsPlaced
    (HoldsPart c.args.group.now.curve.now t (box_of c.grown.result)) c.args.from c.args.to)
    (sym c.in-None.is)
    (λ i f l. (
      covered (box_of c.grown.result)
          (box_of c.around.result) c.args.group.now.curve.now.from c.grown.ensures.kept c.around.ensures,
      c.grown.ensures.point,
    ))
