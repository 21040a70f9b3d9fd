use Rattle.std.proofs.Common.{rules, ◌≡◌, ◌&&◌, Bool, true, false, refl, FitsSigned, to_z-of_z}
use Rattle.std.specs.Int.{w64}
use Rattle.field_values.proofs.places.is_between_places.Goals as goal

then_both : (a b x y : Bool) → a ≡ x → b ≡ y → a ≡ true → b ≡ (x && y)
then_both a b x y e f h = rw (← e, h, ← f) refl

else_both : (a x y : Bool) → a ≡ x → a ≡ false → a ≡ (x && y)
else_both a x y e h = rw (← e, h) refl

pub returns-then-across : goal.returns-then-across
returns-then-across c =
    let px : FitsSigned w64 c.args.p.x = search rules in
    let py : FitsSigned w64 c.args.p.y = search rules in
    let qx : FitsSigned w64 c.args.q.x = search rules in
    let qy : FitsSigned w64 c.args.q.y = search rules in
    let mx : FitsSigned w64 c.args.m.x = search rules in
    let my : FitsSigned w64 c.args.m.y = search rules in
    then_both _ _ _ _ (simp to_z-of_z at c.is_between-across.ensures)
    (simp to_z-of_z at c.is_between-upward.ensures) c.if-across.true

pub returns-else-across : goal.returns-else-across
returns-else-across c =
    let px : FitsSigned w64 c.args.p.x = search rules in
    let qx : FitsSigned w64 c.args.q.x = search rules in
    let mx : FitsSigned w64 c.args.m.x = search rules in
    else_both _ _ _ (simp to_z-of_z at c.is_between-across.ensures) c.if-across.false
