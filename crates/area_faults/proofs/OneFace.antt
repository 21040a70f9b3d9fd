-- Where all curves are left out the plane is one face, which each curve enters.
use Rattle.std.proofs.Common.{◌≡◌, inl, ℕ, zero, suc, ◌<◌, ℤ, pos, ◌-ℤ◌, Bool, true, false, List}
use Rattle.std.proofs.Common.{[], ◌∷◌, Option, None, length, replicate, slice_index_or, refl, sym}
use Rattle.std.proofs.Common.{◌∙◌, subst, ap, arith}
use Rattle.std.proofs.lemmas.Int.{ints}
use Rattle.std.proofs.lemmas.List.{length-replicate}
use Rattle.plane.specs.Rule.Curves.{Hits}
use Rattle.plane.specs.Rule.LeftOut.{IsOpen, IsRestOf}
use Rattle.plane.specs.Rule.Partition.{IsOff, IsOuter, Joined}
use Rattle.plane.specs.Rule.Places.{Vector, Place, point}
use Rattle.plane.specs.Rule.Plans.{Plan, curve, object}
use Rattle.plane.proofs.Covers.CurvePlaces.{control_on, hits_alone}
use Rattle.plane.proofs.Linear.EdgePlaces.{place_point}
use Rattle.fault_lists.specs.DrawingFaces.{AreCurveFaces, AreFacePlaces, HasFaces, IsPointInFace}
use Rattle.fault_lists.specs.DrawingFaces.{IsPointPlace, face_count, faces_of, is_open, place_of}
use Rattle.fault_lists.specs.declared.faces.CurveFaces.{CurveFaces}
use Rattle.fault_lists.specs.declared.faces.DrawingFaces.{DrawingFaces}
use Rattle.fault_lists.specs.declared.faces.PointPlace.{PointPlace}
use Rattle.fault_lists.specs.declared.faces.PointPlace.TheVariants.{InFace}

-- the same points without a curve
abbrev bare : Plan → Plan
bare d = record d { curves = [] }

abbrev out : ℕ → Bool
out i = true

none : {X : Type 0} (i : ℕ) → i < 0 → X
none i l = absurd (omega (arith, l))

module _ (d : Plan) where
  off : (z : Vector) → IsOff (bare d) z
  off z i l = none i l

  -- any two places are joined
  joined : (p q : Vector) → Place p → Place q → Joined (bare d) p q
  joined p q P Q = record {
    first = p;
    rest = q ∷ [];
    begins = record { x = refl; y = refl };
    ends = record { x = refl; y = refl };
    places = ((P, off p), ((Q, off q), tt));
    clear = ((λ i l. none i l), (tt, tt));
  }

  abbrev far : ℤ → Vector
  far b = record { x = b -ℤ pos 1; y = pos 0; n = pos 1 }

  outer : (p : Vector) → Place p → IsOuter (bare d) p
  outer p P b = (far b, omega arith, joined p (far b) P (omega arith), omega (arith, ints))

  rest : IsRestOf d (bare d) out
  rest = record {
    number = λ k. k;
    there = λ k l. none k l;
    is = λ k l. none k l;
    once = λ k j l. none k l;
    whole = λ i l. inl refl;
    points = refl;
  }

  abbrev here : Vector
  here = point (curve d 0).from

  there : Place here
  there = place_point (curve d 0).from

  entered : Hits (curve d 0) here here
  entered = (hits_alone (curve d 0) here there).1
      (control_on (curve d 0) here there (inl (record { x = refl; y = refl })))

  opened : 0 < length d.curves → IsOpen d (bare d) out here
  opened some = record {
    i = 0;
    there = some;
    left_out = refl;
    q = here;
    s = here;
    q_place = there;
    s_place = there;
    joined = joined here here there there;
    off = off here;
    clear = λ i l. none i l;
    hits = entered;
  }

  places : AreFacePlaces (bare d) 1 (λ n. here)
  places = record {
    some = omega arith;
    place = λ n l. there;
    off = λ n l. off here;
    once = λ m n l k j. omega (arith, l, k);
    outer = λ n l. ((λ o. omega (arith, l)), (λ e. outer here there));
    all = λ z Z o. (0, omega arith, joined z here Z there);
  }

  -- ---- as the lists say it
  replicated : {X : Type 0} (n : ℕ) (x : X) (j : ℕ) → slice_index_or (replicate n x) j x ≡ x
  replicated zero x j = refl
  replicated (suc n) x zero = refl
  replicated (suc n) x (suc j) = replicated n x j

  pub one_face : (f : DrawingFaces) (any : Bool) → (any ≡ true → 0 < length d.curves)
      → (any ≡ false → length d.curves ≡ 0) → f.open.items ≡ any ∷ []
      → f.points.items ≡ replicate (length d.points) (InFace 0)
      → f.curves.items ≡ replicate (length d.curves) None → HasFaces d (λ i. true) f
  one_face f any some nothing opens points curves = (
    bare d,
    rest,
    record {
      at = λ n. here;
      none_out = λ k l. none k l;
      places = subst (λ (k : ℕ). AreFacePlaces (bare d) k (λ n. here)) (sym count) places;
      closed = λ n l e i m. absurd (let k = nothing (sym (open_at n l) ∙ e) in omega (arith, m, k));
      broken = λ n l e. opened (some (sym (open_at n l) ∙ e));
      point_count = ap (λ (xs : List PointPlace). length xs) points
          ∙ length-replicate (length d.points) (InFace 0);
      points = λ j l. subst
          (λ (p : PointPlace). IsPointPlace d (bare d) out (face_count f) (λ n. here) j p)
          (sym (placed j)) (in_face j);
      curve_count = ap (λ (xs : List (Option CurveFaces)). length xs) curves
          ∙ length-replicate (length d.curves) None;
      sides = λ n l k. absurd (k (let a = count in omega (arith, l, a)));
      curves = λ i l. subst
          (λ (c : Option CurveFaces). AreCurveFaces d (bare d) out rest (face_count f)
          (λ n. here) i c) (sym (beside i)) refl;
    },
  )
    where
      count : face_count f ≡ 1
      count = ap (λ (xs : List Bool). length xs) opens

      open_at : (n : ℕ) → n < face_count f → is_open f n ≡ any
      open_at n l = first n (subst (λ (k : ℕ). n < k) count l)
        where
          first : (n : ℕ) → n < 1 → is_open f n ≡ any
          first zero l = ap (λ (xs : List Bool). slice_index_or xs 0 false) opens
          first (suc n) l = absurd (omega (arith, l))

      placed : (j : ℕ) → place_of f j ≡ InFace 0
      placed j = ap (λ (xs : List PointPlace). slice_index_or xs j (InFace 0)) points
          ∙ replicated (length d.points) (InFace 0) j

      in_face : (j : ℕ) → IsPointInFace d (bare d) (face_count f) (λ n. here) j 0
      in_face j = record {
        off = off (point (object d j));
        in_face = record {
          there = omega (arith, count);
          joined = joined (point (object d j)) here (place_point (object d j)) there;
        };
      }

      beside : (i : ℕ) → faces_of f i ≡ None
      beside i = ap (λ (xs : List (Option CurveFaces)). slice_index_or xs i None) curves
          ∙ replicated (length d.curves) None i
