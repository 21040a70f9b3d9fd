use Rattle.certificate_checker.proofs.Spots.{spots_step}
use Rattle.certificate_checker.proofs.points.spots_of.Goals as goal

pub loop-j-preserved : goal.loop-j-preserved
loop-j-preserved c =
    spots_step c.args.points.now c.loop-j.j c.loop-j.spots.items c.push.new.self.items _ _
    c.loop-j-test.true c.in_ok-push.ensures.items c.loop-j.invariant
