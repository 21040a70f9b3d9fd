use Rattle.polygons.proofs.Bounding.{bounds}
use Rattle.polygons.proofs.laws.rings_bound_a_region.Goals as goal

pub returns : goal.returns
returns given w d E steps m at f a k i rings on whole mesh turned places faces located is inner p =
    bounds w d E steps on whole m mesh turned at places faces a k i located f is inner rings p
