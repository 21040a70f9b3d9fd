-- A drawing becomes one thing when its forks are bent.
use Rattle.std.proofs.Common.{◌≡◌, inl, inr, ℕ, zero, suc, ◌<◌, Bool, true, false, Option, None}
use Rattle.std.proofs.Common.{Some, ℤ, List, [], ◌∷◌, length, get_or, refl, arith, ap, sym, ◌∙◌}
use Rattle.std.proofs.Common.{subst}
use Rattle.plane.specs.declared.kinds.Curve.{Curve}
use Rattle.plane.specs.declared.kinds.CurveKind.{CurveKind}
use Rattle.plane.specs.declared.kinds.CurveKind.TheVariants as kind
use Rattle.plane.specs.declared.kinds.Point.{Point}
use Rattle.plane.specs.Rule.Plans.{Plan, curve}
use Rattle.forks.specs.Bent.{BendsAt, IsBendAt, IsBentOf, IsRun, StandBy, StandFor, StandForKind}
use Rattle.forks.specs.Bent.{all_of, numbers_of}
use Rattle.forks.proofs.OneZone.{one_zone}

no_smaller : (i j : ℕ) (P : Type 0) → (i < j → ⊥) → (j < i → ⊥) → (i ≡ j → P) → P
no_smaller zero zero P f g k = k refl
no_smaller zero (suc j) P f g k = absurd (f (omega arith))
no_smaller (suc i) zero P f g k = absurd (g (omega arith))
no_smaller (suc i) (suc j) P f g k =
    no_smaller i j P (λ l. f (omega (arith, l))) (λ l. g (omega (arith, l))) (λ e. k (ap suc e))

pub same_bend : (t : ℤ) (d : Plan) (i : ℕ) (a : Bool) (x y : Option Point) → IsBendAt t d i a x
    → IsBendAt t d i a y → x ≡ y
same_bend t d i a None None h k = refl
same_bend t d i a None (Some b) h (k, z, l) = absurd (h k b z)
same_bend t d i a (Some b) None (k, z, l) h = absurd (h k b z)
same_bend t d i a (Some b) (Some c) (k, z, l) (m, w, n) =
    no_smaller k m (Some b ≡ Some c) (λ x. n k b x z) (λ x. l m c x w) (λ e.
    let same : BendsAt t d i a m b = subst (λ (x : ℕ). BendsAt t d i a x b) e z in
    ap (λ (p : Point). Some p) (one_zone t (curve d m) (curve d i) a a b c same.zone w.zone).1)

same_run : (d : Plan) (s : Curve) (first last : Option Point) (cs ds : List Curve)
    → IsRun d s first last cs → IsRun d s first last ds → cs ≡ ds
same_run d s first last cs ds (inl (h, e)) (inl (k, f)) = e ∙ sym f
same_run d s first last cs ds (inr (h, e)) (inr (k, f)) = e ∙ sym f
same_run d s first last cs ds (inl (h, e)) (inr (k, f)) = absurd (k h)
same_run d s first last cs ds (inr (h, e)) (inl (k, f)) = absurd (h k)

same_stand : (d : Plan) (s : Curve) (first last : Option Point) (cs ds : List Curve)
    → StandBy d s first last cs → StandBy d s first last ds → cs ≡ ds
same_stand d s None None cs ds e f = e ∙ sym f
same_stand d s None (Some b) cs ds h k = same_run d s None (Some b) cs ds h k
same_stand d s (Some b) last cs ds h k = same_run d s (Some b) last cs ds h k

same_kind : (k : CurveKind) (t : ℤ) (d : Plan) (i : ℕ) (cs ds : List Curve)
    → StandForKind k t d i cs → StandForKind k t d i ds → cs ≡ ds
same_kind kind.HalfArc t d i cs ds e f = e ∙ sym f
same_kind kind.Straight t d i cs ds h k =
    let a = same_bend t d i true h.first k.first h.at_from k.at_from in
    let b = same_bend t d i false h.last k.last h.at_to k.at_to in
    same_stand d (curve d i) k.first k.last cs ds
    (subst (λ (x : Option Point). StandBy d (curve d i) x k.last cs) a
    (subst (λ (y : Option Point). StandBy d (curve d i) h.first y cs) b h.stand)) k.stand

pub same_pieces : (t : ℤ) (d : Plan) (i : ℕ) (cs ds : List Curve) → StandFor t d i cs
    → StandFor t d i ds → cs ≡ ds
same_pieces t d i cs ds h k = same_kind (curve d i).kind t d i cs ds h k

same_lists : (xs ys : List (List Curve)) → length xs ≡ length ys
    → ((i : ℕ) → i < length xs → get_or xs i [] ≡ get_or ys i []) → xs ≡ ys
same_lists [] [] e f = refl
same_lists [] (y ∷ ys) e f = absurd (omega (arith, e))
same_lists (x ∷ xs) [] e f = absurd (omega (arith, e))
same_lists (x ∷ xs) (y ∷ ys) e f =
    both x y xs ys (f 0 (omega arith))
    (same_lists xs ys (omega (arith, e)) (λ i l. f (suc i) (omega (arith, l))))
  where
    both : (x y : List Curve) (xs ys : List (List Curve)) → x ≡ y → xs ≡ ys → x ∷ xs ≡ y ∷ ys
    both x y xs ys e f = cc

pub plan_is : (g h : Plan) → g.window ≡ h.window → g.curves ≡ h.curves → g.points ≡ h.points → g ≡ h
plan_is g h a b c = λ i. record { window = a i; curves = b i; points = c i }

pub one_bent : (t : ℤ) (d g h : Plan) (os ps : List ℕ) → IsBentOf t d g os → IsBentOf t d h ps
    → (g ≡ h) × (os ≡ ps)
one_bent t d g h os ps a b =
    let e : a.pieces ≡ b.pieces = same_lists a.pieces b.pieces (a.count ∙ sym b.count) (λ i l.
    let m : i < length d.curves = (let c = a.count in omega (arith, l, c)) in
    same_pieces t d i (get_or a.pieces i []) (get_or b.pieces i []) (a.each i m) (b.each i m)) in (
      plan_is g h (a.window ∙ sym b.window) (a.curves ∙ ap all_of e ∙ sym b.curves) (a.points
          ∙ sym b.points),
      a.origins ∙ ap (numbers_of 0) e ∙ sym b.origins,
    )
