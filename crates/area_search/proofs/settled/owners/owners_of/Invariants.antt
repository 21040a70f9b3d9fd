use Rattle.std.proofs.Common.{◌≡◌, length}
use Rattle.area_search.specs.Settled.Owners.{AreOwners, AreShared}
use Rattle.area_search.proofs.settled.owners.owners_of.Given as goal

abbrev pub invariant-loop-point : goal.invariant-loop-point
invariant-loop-point l =
    (length l.owners.of_face.items ≡ l.count)
    × AreOwners l.faces l.point l.owners.of_face.items
    × AreShared l.faces l.point l.owners.shared
