-- Points: when two are equal, and their order by x, then y.
use Rattle.std.proofs.Common.{◌≡◌, ◌<ℤ◌, ◌≤ℤ◌, inl, inr, Bool, ◌&&◌, arith, ap, sym, ◌∙◌}
use Rattle.std.proofs.lemmas.Int.{ints, by_lt_z}
use Rattle.std.specs.Ordering.{int_eq}
use Rattle.std.specs.Bool.{Decides}
use Rattle.std.proofs.lemmas.Bool.{and_from, and_parts}
use Rattle.std.proofs.lemmas.Bool.Decides.{Decides-int_eq}
use Rattle.plane.specs.declared.kinds.Point.{Point}
use Rattle.plane.specs.Forms.Vectors.{Before}

pub point_eq : (p q : Point) → p.x ≡ q.x → p.y ≡ q.y → p ≡ q
point_eq p q a b = λ i. record { x = a i; y = b i }

-- the program's comparison of two points decides whether they are equal
pub decides_equal : (p q : Point) (r : Bool) → r ≡ (int_eq p.x q.x && int_eq p.y q.y)
    → Decides r (p ≡ q)
decides_equal p q r e = (
  (λ h. let both = and_parts (int_eq p.x q.x) (int_eq p.y q.y) (sym e ∙ h) in
      point_eq p q ((Decides-int_eq p.x q.x).0 both.0) ((Decides-int_eq p.y q.y).0 both.1)),
  (λ h. e ∙ and_from (int_eq p.x q.x) (int_eq p.y q.y)
      ((Decides-int_eq p.x q.x).1 (ap (λ (r : Point). r.x) h))
      ((Decides-int_eq p.y q.y).1 (ap (λ (r : Point). r.y) h))),
)

-- of two different points the one or the other comes first
pub before_other : (p q : Point) → (Before p q → ⊥) → (p ≡ q → ⊥) → Before q p
before_other p q n m =
    by_lt_z q.x p.x
    (λ (l : q.x <ℤ p.x). inl l)
    (λ (l : p.x ≤ℤ q.x). by_lt_z p.x q.x
    (λ (k : p.x <ℤ q.x). absurd (n (inl k)))
    (λ (k : q.x ≤ℤ p.x).
    let e : p.x ≡ q.x = omega (arith, ints, l, k) in
    by_lt_z q.y p.y
    (λ (g : q.y <ℤ p.y). inr (sym e, g))
    (λ (g : p.y ≤ℤ q.y). by_lt_z p.y q.y
    (λ (h : p.y <ℤ q.y). absurd (n (inr (e, h))))
    (λ (h : q.y ≤ℤ p.y). absurd (m (point_eq p q e (omega (arith, ints, g, h))))))))
