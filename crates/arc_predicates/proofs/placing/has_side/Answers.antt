use Rattle.std.proofs.Common.{to_z-of_z}
use Rattle.arc_predicates.proofs.TestParts.{both_of, none_of}
use Rattle.arc_predicates.proofs.placing.has_side.Goals as goal

pub returns-then-is_short : goal.returns-then-is_short
returns-then-is_short c =
    let x = c.ranges.x in
    let y = c.ranges.y in
    let n = c.ranges.n in
    both_of _ _ _ c.is_short-then-is_short.result
    (simp to_z-of_z at c.is_short-then-is_short.ensures)
    ((simp to_z-of_z at c.is_short.ensures).0 c.if-is_short.true) ((λ h. h), (λ h. h))

pub returns-else-is_short : goal.returns-else-is_short
returns-else-is_short c =
    let x = c.ranges.x in
    let y = c.ranges.y in
    let n = c.ranges.n in
    none_of _ _ _ c.is_short.result (simp to_z-of_z at c.is_short.ensures) c.if-is_short.false
    ((λ h. h), (λ h. h))
