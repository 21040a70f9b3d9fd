-- Curves that may be added to a drawing, and what is added.
use Rattle.std.proofs.Common.{◌≡◌, ℕ, zero, suc, ◌<◌, ℤ, pos, ◌-ℤ◌, ◌*ℤ◌, ◌<ℤ◌, Bool, true, false}
use Rattle.std.proofs.Common.{List, [], ◌∷◌, length, map, get_or, refl, sym, ap, ◌∙◌, subst, arith}
use Rattle.std.specs.List.{All}
use Rattle.std.proofs.lemmas.Int.{ints}
use Rattle.std.proofs.lemmas.List.Elements.{All-head, All-tail}
use Rattle.field_values.specs.Places.{Place, is_same, are_collinear}
use Rattle.plane.specs.Rule.Turns.{cross}
use Rattle.plane.specs.Rule.Windows.{IsInside}
use Rattle.plane.specs.declared.kinds.Point.{Point}
use Rattle.plane.specs.declared.window.Window2.{Window2}
use Rattle.straight_predicates.specs.Meetings.{AreClose}
use Rattle.straight_predicates.proofs.WindowEdges.{inside_close}
use Rattle.area_drawings.specs.Drawable.{IsIn}
use Rattle.area_drawings.specs.Drawings.{point_at}

-- ---- numbers
same_as : (a b : ℤ) → a ≡ b → is_same a b ≡ true
same_as a b e = grind (arith, ints, e)

same_from : (a b : ℤ) → is_same a b ≡ true → a ≡ b
same_from a b e = grind (arith, ints, e)

-- ---- arcs
difference_zero : (a b : ℤ) → (a -ℤ b) ≡ pos 0 → a ≡ b
difference_zero a b h = omega (arith, ints, h)

zero_difference : (a b : ℤ) → a ≡ b → (a -ℤ b) ≡ pos 0
zero_difference a b h = omega (arith, ints, h)

pub collinear_from : (s m e : Place) → cross (point_at s) (point_at m) (point_at e) ≡ pos 0
    → are_collinear s m e ≡ true
collinear_from s m e h =
    same_as _ _ (difference_zero ((m.x -ℤ s.x) *ℤ (e.y -ℤ s.y)) ((m.y -ℤ s.y) *ℤ (e.x -ℤ s.x)) h)

pub not_collinear : (s m e : Place) → (cross (point_at s) (point_at m) (point_at e) ≡ pos 0 → ⊥)
    → are_collinear s m e ≡ false
not_collinear s m e h =
    by (are_collinear s m e)
    (λ t. h (zero_difference ((m.x -ℤ s.x) *ℤ (e.y -ℤ s.y)) ((m.y -ℤ s.y) *ℤ (e.x -ℤ s.x))
    (same_from _ _ t)))
  where
    by : (b : Bool) → (b ≡ true → ⊥) → b ≡ false
    by true n = absurd (n refl)
    by false n = refl

-- the same, for the points of the three places
module _ (s m e : Place) (p q r : Point) (f : p ≡ point_at s) (g : q ≡ point_at m)
    (h : r ≡ point_at e) where
  same_cross : cross p q r ≡ cross (point_at s) (point_at m) (point_at e)
  same_cross = ap (λ (x : Point). cross x q r) f ∙ ap (λ (x : Point). cross (point_at s) x r) g
      ∙ ap (λ (x : Point). cross (point_at s) (point_at m) x) h

  pub on_one_straight : cross p q r ≡ pos 0 → true ≡ are_collinear s m e
  on_one_straight z = sym (collinear_from s m e (sym same_cross ∙ z))

  pub left_of_straight : pos 0 <ℤ cross p q r → false ≡ are_collinear s m e
  left_of_straight z =
      sym (not_collinear s m e (λ n. let k = same_cross ∙ n in omega (arith, ints, z, k)))

  pub right_of_straight : cross p q r <ℤ pos 0 → false ≡ are_collinear s m e
  right_of_straight z =
      sym (not_collinear s m e (λ n. let k = same_cross ∙ n in omega (arith, ints, z, k)))

  pub bent_places : are_collinear s m e ≡ false → cross p q r ≡ pos 0 → ⊥
  bent_places c z = let t = sym (collinear_from s m e (sym same_cross ∙ z)) ∙ c in cc

-- places of one window are close
pub close_points : (w : Window2) (s t : Place) (p q : Point) → p ≡ point_at s → q ≡ point_at t
    → IsIn w s → IsIn w t → AreClose p q
close_points w s t p q e f h k =
    inside_close w.low w.high p q w.narrow (subst (IsInside w.low w.high) (sym e) h)
    (subst (IsInside w.low w.high) (sym f) k)

-- ---- what stands at a place of a list
pub mapped_at : {X Y : Type 0} (f : X → Y) (P : Y → Type 0) (xs : List X) (i : ℕ) (x : X)
    → All P (map f xs) → i < length xs → x ≡ get_or xs i x → P (f x)
mapped_at f P [] i x h l e = absurd (omega (arith, l))
mapped_at f P (y ∷ xs) zero x h l e = subst (λ z. P (f z)) (sym e) (All-head P (f y) (map f xs) h)
mapped_at f P (y ∷ xs) (suc i) x h l e =
    mapped_at f P xs i x (All-tail P (f y) (map f xs) h) (omega (arith, l)) e
