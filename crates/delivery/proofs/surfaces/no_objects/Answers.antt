use Rattle.delivery.proofs.SurfaceSteps.{object_added}
use Rattle.delivery.proofs.surfaces.no_objects.Goals as goal

pub loop-preserved : goal.loop-preserved
loop-preserved c =
    object_added c.loop.counter c.loop.objects.items c.push.new.self.items c.new.result
    c.in_ok-push.ensures.items c.new.ensures.items c.loop.invariant
