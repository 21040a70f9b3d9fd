use Rattle.delivery.proofs.SurfaceSteps.{first_named}
use Rattle.delivery.proofs.surfaces.row_at.Goals as goal

pub returns-in-Some : goal.returns-in-Some
returns-in-Some c =
    first_named c.args.named.now c.args.number c.in-Some.name.now
    c.in-Some.ensures.lookup.3.0 c.in-Some.ensures.lookup.1
