-- Joined places by steps: the working form of a list of places.
use Rattle.plane.specs.Rule.Places.{Vector, Place, Same}
use Rattle.plane.specs.Rule.Plans.{Plan}
use Rattle.plane.specs.Rule.Partition.{IsOff, IsClear}

-- From p to q by places on no curve, over segments that hit no curve. The last place equals q.
pub data Path (d : Plan) : Vector → Vector → Type 0 where
  ends : (p q : Vector) → Same p q → IsOff d p → Path d p q
  goes : (p q s : Vector) → IsOff d p → Place q → IsClear d p q → Path d q s → Path d p s
