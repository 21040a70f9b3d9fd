-- The turn at three points, from each of them.
use Rattle.std.proofs.Common.{◌≡◌, pos, [], ◌∷◌, refl, subst}
use Rattle.plane.specs.declared.kinds.Point.{Point}
use Rattle.plane.specs.Rule.Turns.{cross}
use Rattle.plane.proofs.Algebra.Ring.{Expr, at, num, minus, times, vars, ring}

abbrev pub CROSS : Expr → Expr → Expr → Expr → Expr → Expr → Expr
CROSS ax ay bx by cx cy =
    minus (times (minus bx ax) (minus cy ay)) (times (minus by ay) (minus cx ax))

pub cross-first : (a c : Point) → cross a a c ≡ pos 0
cross-first a c =
    ring (CROSS (at 0) (at 1) (at 0) (at 1) (at 2) (at 3)) (num (pos 0))
    (vars (a.x ∷ a.y ∷ c.x ∷ c.y ∷ [])) refl

pub cross-last : (a b : Point) → cross a b b ≡ pos 0
cross-last a b =
    ring (CROSS (at 0) (at 1) (at 2) (at 3) (at 2) (at 3)) (num (pos 0))
    (vars (a.x ∷ a.y ∷ b.x ∷ b.y ∷ [])) refl

-- the turn is the same from each of the three points on
pub cross-round : (a b c : Point) → cross b c a ≡ cross a b c
cross-round a b c =
    ring (CROSS (at 2) (at 3) (at 4) (at 5) (at 0) (at 1))
    (CROSS (at 0) (at 1) (at 2) (at 3) (at 4) (at 5))
    (vars (a.x ∷ a.y ∷ b.x ∷ b.y ∷ c.x ∷ c.y ∷ [])) refl

-- points that are not collinear differ
pub differ_first : (a b c : Point) → (cross a b c ≡ pos 0 → ⊥) → a ≡ b → ⊥
differ_first a b c h e = h (subst (λ (p : Point). cross a p c ≡ pos 0) e (cross-first a c))
