use Rattle.plane.proofs.Turning.Classes.{connected_is, has_cell, has_wall}
use Rattle.plane.proofs.rotation.connected_half_edges_are_one_class.Goals as goal

pub returns-clause-class : goal.returns-clause-class
returns-clause-class given w m E steps x h c d run C D b k =
    connected_is w m E steps run x h c d C D b k

pub returns-clause-beside : goal.returns-clause-beside
returns-clause-beside given w m E steps h run l = has_cell w m E steps run h l

pub returns-clause-wall : goal.returns-clause-wall
returns-clause-wall given w m E steps c run C = has_wall w m E steps run c C
