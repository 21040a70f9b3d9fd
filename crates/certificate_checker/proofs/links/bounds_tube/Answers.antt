use Rattle.std.proofs.Common.{◌∙◌, sym}
use Rattle.plane.specs.Faces.Halves.{half_of}
use Rattle.certificate_checker.specs.Cases.{judged}
use Rattle.certificate_checker.proofs.ListParts.{refused}
use Rattle.certificate_checker.proofs.OwnTubes.{beside_is, not_beside}
use Rattle.certificate_checker.proofs.links.bounds_tube.Goals as goal

pub returns-in-Cell : goal.returns-in-Cell
returns-in-Cell c =
    refused (not_beside (judged c.args.case.now) (half_of c.args.h) c.args.number _
    (sym c.place_of.ensures ∙ c.in-Cell.is))

pub returns-in-Tube : goal.returns-in-Tube
returns-in-Tube c =
    beside_is (judged c.args.case.now)
    (half_of c.args.h) c.args.number c.in-Tube.curve c.in-Tube.inside c.lies_outside.result
    (sym c.place_of.ensures ∙ c.in-Tube.is) c.lies_outside.ensures
