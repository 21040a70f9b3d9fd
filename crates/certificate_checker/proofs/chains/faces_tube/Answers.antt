use Rattle.std.proofs.Common.{arith, ◌∙◌, sym}
use Rattle.plane.specs.Faces.Halves.{half_of}
use Rattle.certificate_checker.proofs.ChainSides.{faced_is, facing_half, facings_count, half_there}
use Rattle.certificate_checker.proofs.chains.faces_tube.Goals as goal

pub bounds-case-edge : goal.bounds-case-edge
bounds-case-edge c =
    let a = half_there c.args.case.now c.requires.fit c.args.h c.requires.half in
    let b = facings_count c.args.case.now c.requires.fit in
    let e = c.edge_of-edge.ensures in
    omega (arith, a, b, e)

pub returns : goal.returns
returns c =
    let x = faced_is c.args.case.now c.requires.fit (half_of c.args.h) _
    (facing_half c.args.case.now c.requires.fit c.args.h c.edge_of-edge.result _ c.requires.half
    c.edge_of-edge.ensures) in (
      (λ t. x.0 (c.are_same.ensures.0 t ∙ c.side_of.ensures)),
      (λ y. c.are_same.ensures.1 (x.1 y ∙ sym c.side_of.ensures)),
    )
