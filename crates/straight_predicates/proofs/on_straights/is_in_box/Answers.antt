use Rattle.std.proofs.Common.{rules, FitsSigned, w64, to_z-of_z}
use Rattle.straight_predicates.proofs.Choices.{both_of, none_of}
use Rattle.straight_predicates.proofs.on_straights.is_in_box.Goals as goal

pub returns-then-is_between : goal.returns-then-is_between
returns-then-is_between c =
    let ax : FitsSigned w64 c.args.a.x = search rules in
    let bx : FitsSigned w64 c.args.b.x = search rules in
    let px : FitsSigned w64 c.args.p.x = search rules in
    let ay : FitsSigned w64 c.args.a.y = search rules in
    let by : FitsSigned w64 c.args.b.y = search rules in
    let py : FitsSigned w64 c.args.p.y = search rules in
    both_of _ _ _ (simp to_z-of_z at c.is_between-then-is_between.ensures)
    ((simp to_z-of_z at c.is_between.ensures).0 c.if-is_between.true)

pub returns-else-is_between : goal.returns-else-is_between
returns-else-is_between c =
    let ax : FitsSigned w64 c.args.a.x = search rules in
    let bx : FitsSigned w64 c.args.b.x = search rules in
    let px : FitsSigned w64 c.args.p.x = search rules in
    none_of _ _ _ (simp to_z-of_z at c.is_between.ensures) c.if-is_between.false
