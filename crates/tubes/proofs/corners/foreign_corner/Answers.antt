use Rattle.std.proofs.Common.{◌<◌, ◌≤◌, ℕ, List, length, subst, sym}
use Rattle.plane.specs.Rule.Plans.{plan}
use Rattle.plane.specs.declared.kinds.Curve.{Curve}
use Rattle.tubes.specs.Corners.{AreTubesByEvent}
use Rattle.tubes.specs.DrawnEdges.{AreAllStraight}
use Rattle.tubes.proofs.ForeignCorners.{first_foreign, least_read, none_foreign, straights_own}
use Rattle.tubes.proofs.LevelEdges.{list_sizes}
use Rattle.tubes.proofs.corners.foreign_corner.Goals as goal

pub returns-then-are_straights : goal.returns-then-are_straights
returns-then-are_straights c level table t timed of n =
    straights_own (plan c.args.drawing.now) level table
    (subst (λ (cs : List Curve). AreAllStraight cs) c.deref.ensures.value
    (c.are_straights.ensures.0 c.if-are_straights.true))

pub returns-then-first-events : goal.returns-then-first-events
returns-then-first-events c level table t timed of n =
    let d = plan c.args.drawing.now in
    let list = c.args.list.now in
    let low = c.args.low.now in
    let high = c.args.high.now in
    let tubes = c.in_ok-tubes.tubes.items in
    let first = c.first_shared-first.result in
    let by = subst (λ (k : ℕ). AreTubesByEvent d list low high k (length list.edges.items) tubes)
    (sym n) c.in_ok-tubes.ensures in
    let least = least_read list.owners.items _ tubes _ low high c.args.events (length table)
    (length list.edges.items) first c.deref-3.ensures.value c.deref-2.ensures.value n
    (list_sizes d level list t) c.first_shared-first.ensures in
    first_foreign d level list t table timed low high of tubes by first least
    (subst (λ (m : ℕ). first < m) (sym n) c.if-first-events.true)

pub returns : goal.returns
returns c level table t timed of n =
    let d = plan c.args.drawing.now in
    let list = c.args.list.now in
    let low = c.args.low.now in
    let high = c.args.high.now in
    let tubes = c.in_ok-tubes.tubes.items in
    let first = c.first_shared-first.result in
    let by = subst (λ (k : ℕ). AreTubesByEvent d list low high k (length list.edges.items) tubes)
    (sym n) c.in_ok-tubes.ensures in
    let least = least_read list.owners.items _ tubes _ low high c.args.events (length table)
    (length list.edges.items) first c.deref-3.ensures.value c.deref-2.ensures.value n
    (list_sizes d level list t) c.first_shared-first.ensures in
    none_foreign d level list t table timed low high of tubes by first least
    (subst (λ (m : ℕ). m ≤ first) (sym n) c.if-first-events.false)
