-- A drawing has one ground of each kind.
use Rattle.std.proofs.Common.{◌≡◌, Bool, false, true, ℤ, List, ℕ, sym, ◌∙◌}
use Rattle.plane.specs.Rule.Plans.{Plan}
use Rattle.forks.specs.Grounds.{IsGround, bent, own}
use Rattle.forks.proofs.OneBent.{one_bent}

either : (b : Bool) → b ≡ false → b ≡ true → ⊥
either b x y = cc

pub one_ground : (t : ℤ) (d g h : Plan) (is_bent : Bool) (os ps : List ℕ)
    → IsGround t d is_bent g os → IsGround t d is_bent h ps → (g ≡ h) × (os ≡ ps)
one_ground t d g h b os ps (own x e i) (own y f j) = (e ∙ sym f, i ∙ sym j)
one_ground t d g h b os ps (own x e i) (bent y k) = absurd (either b x y)
one_ground t d g h b os ps (bent x k) (own y f j) = absurd (either b y x)
one_ground t d g h b os ps (bent x k) (bent y l) = one_bent t d g h os ps k l
