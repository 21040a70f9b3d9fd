-- The points on curves that stay and on those that are left out are all points on curves.
use Rattle.std.proofs.Common.{◌≡◌, ◌⊎◌, inl, inr, ℕ, ◌<◌, ◌≤◌, min, Bool, true, false, Option, Some}
use Rattle.std.proofs.Common.{None, List, length, refl, sym, ◌∙◌, ap, subst, arith}
use Rattle.std.specs.List.{Contains}
use Rattle.plane.specs.Rule.LeftOut.{IsRestOf}
use Rattle.plane.specs.Rule.Partition.{IsOff}
use Rattle.plane.specs.Rule.Places.{point}
use Rattle.plane.specs.Rule.Curves.{IsOn}
use Rattle.plane.specs.Rule.Plans.{Plan, curve, object}
use Rattle.plane.specs.declared.kinds.Curve.{Curve}
use Rattle.fault_lists.specs.DrawingFaces.{AreDrawingFaces, IsLeastOn, IsPointPlace, face_count}
use Rattle.fault_lists.specs.DrawingFaces.{place_of}
use Rattle.fault_lists.specs.FaceLists.{HasExactly}
use Rattle.fault_lists.specs.Faults.{LiesOn}
use Rattle.fault_lists.specs.FaultLists.{ArePointsOn}
use Rattle.fault_lists.specs.declared.faces.DrawingFaces.{DrawingFaces}
use Rattle.fault_lists.specs.declared.faces.PointPlace.{PointPlace}
use Rattle.fault_lists.specs.declared.faces.PointPlace.TheVariants.{InFace, OnCurve}
use Rattle.fault_lists.specs.declared.kinds.OnAt.{OnAt}
use Rattle.area_faults.specs.PointLists.{AreLeast, ArePairsFor, IsChosen, TellsLeast, chosen}
use Rattle.area_faults.specs.PointLists.{least_at, lesser, pair_at}
use Rattle.area_faults.proofs.ChosenCurves.{none_some, same_some}
use Rattle.area_faults.proofs.LeastCurves.{by_lt}
use Rattle.std.proofs.lemmas.List.{get_or_default}

module _ (d r : Plan) (out : ℕ → Bool) (rest : IsRestOf d r out) (f : DrawingFaces)
    (h : AreDrawingFaces d r out rest f)
    (pairs : List OnAt) (for : ArePairsFor d out pairs)
    (least : List (Option ℕ)) (tells : AreLeast pairs (length pairs) least) where
  -- ---- pairs
  pair_lies : (j c : ℕ) → TellsLeast pairs (length pairs) j (Some c) → LiesOn d j c
  pair_lies j c t =
      subst (λ (k : ℕ). LiesOn d k c) t.point
      (subst (λ (i : ℕ). LiesOn d (pair_at pairs t.k).point i) t.curve_is
      (for.lie (pair_at pairs t.k) (
        t.k,
        t.first,
        get_or_default pairs t.k (pair_at pairs t.k) _ t.first,
      )))

  pair_here : (j i : ℕ) → Contains pairs (record { point = j; curve = i }) → (o : Option ℕ)
      → TellsLeast pairs (length pairs) j o → (c : ℕ) × (o ≡ Some c) × (c ≤ i)
  pair_here j i (k, l, e) None t =
      absurd (t k l (ap (λ (o : OnAt). o.point) (get_or_default pairs k _ _ l ∙ e)))
  pair_here j i (k, l, e) (Some c) t = (
    c,
    refl,
    subst (λ (n : ℕ). c ≤ n)
        (ap (λ (o : OnAt). o.curve) (get_or_default pairs k _ _ l ∙ e))
        (t.least k l (ap (λ (o : OnAt). o.point) (get_or_default pairs k _ _ l ∙ e))),
  )

  -- ---- curves that stay
  is_out : (i : ℕ) → (out i ≡ true) ⊎ (out i ≡ true → ⊥)
  is_out i = by (out i) refl
    where
      differ : false ≡ true → ⊥
      differ e = cc

      by : (b : Bool) → out i ≡ b → (out i ≡ true) ⊎ (out i ≡ true → ⊥)
      by true e = inl e
      by false e = inr (λ t. differ (sym e ∙ t))

  off_none : (j i : ℕ) → IsOff r (point (object d j)) → LiesOn d j i → (out i ≡ true → ⊥) → ⊥
  off_none j i off on kept = by (rest.whole i on.curve_there)
    where
      by : (out i ≡ true) ⊎ ((k : ℕ) × (k < length r.curves) × (rest.number k ≡ i)) → ⊥
      by (inl o) = kept o
      by (inr (k, l, e)) =
          off k l (subst (λ (c : Curve). IsOn c (point (object d j)))
          (ap (λ (n : ℕ). curve d n) (sym e) ∙ rest.is k l) on.on)

  -- ---- what is chosen lies on the curve
  chosen_lies : (j c : ℕ) (p : PointPlace) (o : Option ℕ)
      → IsPointPlace d r out (face_count f) h.at j p → TellsLeast pairs (length pairs) j o
      → chosen p o ≡ Some c → LiesOn d j c
  chosen_lies j c (OnCurve i) None x t e = subst (λ (n : ℕ). LiesOn d j n) (same_some i c e) x.on
  chosen_lies j c (OnCurve i) (Some k) x t e =
      subst (λ (n : ℕ). LiesOn d j n) (same_some (min i k) c e) (by_min i k x.on (pair_lies j k t))
    where
      by_min : (i k : ℕ) → LiesOn d j i → LiesOn d j k → LiesOn d j (min i k)
      by_min i k a b =
          elim (either i k) [
            | inl q ↦ subst (λ (n : ℕ). LiesOn d j n) (sym q) a
            | inr q ↦ subst (λ (n : ℕ). LiesOn d j n) (sym q) b
          ]
        where
          either : (i k : ℕ) → (min i k ≡ i) ⊎ (min i k ≡ k)
          either i k =
              by_lt i k (λ (l : i < k). inl (omega (arith, l)))
              (λ (l : k ≤ i). inr (omega (arith, l)))
  chosen_lies j c (InFace n) None x t e = absurd (none_some c e)
  chosen_lies j c (InFace n) (Some k) x t e =
      subst (λ (n : ℕ). LiesOn d j n) (same_some k c e) (pair_lies j k t)

  kept_most : (j i k : ℕ) → IsLeastOn d out j k → LiesOn d j i → (out i ≡ true → ⊥) → k ≤ i
  kept_most j i k x on kept =
      by_lt i k (λ (l : i < k). absurd (x.least i l kept on)) (λ (l : k ≤ i). l)

  -- a lesser curve is none of the point's, and some curve is chosen where there is one
  chosen_most : (j i : ℕ) (p : PointPlace) (o : Option ℕ)
      → IsPointPlace d r out (face_count f) h.at j p → TellsLeast pairs (length pairs) j o
      → LiesOn d j i → (c : ℕ) × (chosen p o ≡ Some c) × (c ≤ i)
  chosen_most j i p o x t on = by (is_out i) p o x t
    where
      by : (out i ≡ true) ⊎ (out i ≡ true → ⊥) → (p : PointPlace) (o : Option ℕ)
          → IsPointPlace d r out (face_count f) h.at j p → TellsLeast pairs (length pairs) j o
          → (c : ℕ) × (chosen p o ≡ Some c) × (c ≤ i)
      by (inl m) (OnCurve k) o x t =
          let (c, e, l) = pair_here j i (for.all j i on m) o t in
          (min k c, ap (λ (q : Option ℕ). Some (lesser k q)) e, omega (arith, l))
      by (inl m) (InFace n) o x t =
          let (c, e, l) = pair_here j i (for.all j i on m) o t in (c, e, l)
      by (inr m) (OnCurve k) None x t = (k, refl, kept_most j i k x on m)
      by (inr m) (OnCurve k) (Some c) x t =
          (min k c, refl, (let l = kept_most j i k x on m in omega (arith, l)))
      by (inr m) (InFace n) o x t = absurd (off_none j i x.off on m)

  module _ (ons : List OnAt)
      (exact : HasExactly (IsChosen f.points.items least) (λ (o : OnAt). o.point) ons) where
    there : (o : OnAt) → IsChosen f.points.items least o → o.point < length d.points
    there o is = let l = is.there in let n = h.point_count in omega (arith, l, n)

    told_lies : (o : OnAt) → Contains ons o → LiesOn d o.point o.curve
    told_lies o c =
        let is = (exact.is o).0 c in
        chosen_lies o.point o.curve (place_of f o.point) (least_at least o.point)
        (h.points o.point (there o is)) (tells o.point) is.is

    told_least : (o : OnAt) (i : ℕ) → Contains ons o → i < o.curve → LiesOn d o.point i → ⊥
    told_least o i c l on =
        let is = (exact.is o).0 c in
        let (k, e, m) = chosen_most o.point i (place_of f o.point) (least_at least o.point)
        (h.points o.point (there o is)) (tells o.point) on in
        let q = same_some o.curve k (sym is.is ∙ e) in
        omega (arith, l, m, q)

    told_all : (j i : ℕ) → LiesOn d j i → (o : OnAt) × Contains ons o × (o.point ≡ j)
    told_all j i on =
        let (c, e, m) = chosen_most j i (place_of f j) (least_at least j)
        (h.points j on.point_there) (tells j) on in
        let o : OnAt = record { point = j; curve = c } in
        let l = on.point_there in
        let n = h.point_count in
        (o, (exact.is o).1 (record { there = omega (arith, l, n); is = e }), refl)

    pub points_are_on : ArePointsOn d ons
    points_are_on = record { on = told_lies; least = told_least; all = told_all; rise = exact.rise }
