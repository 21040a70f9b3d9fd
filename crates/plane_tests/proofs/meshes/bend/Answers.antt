use Rattle.std.proofs.Common.{arith}
use Rattle.plane_tests.proofs.meshes.bend.Goals as goal

pub returns-clause-back : goal.returns-clause-back
returns-clause-back c = c.link.ensures.links.next_is 1 (omega arith)

pub returns-clause-forth : goal.returns-clause-forth
returns-clause-forth c = c.link.ensures.links.next_is 0 (omega arith)
