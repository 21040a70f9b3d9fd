-- Faces depend on what is left out by its values at the curves alone.
use Rattle.std.proofs.Common.{◌≡◌, ◌⊎◌, inl, inr, ℕ, ◌<◌, Bool, true, Option, Some, None, length}
use Rattle.std.proofs.Common.{sym, ◌∙◌, arith}
use Rattle.plane.specs.Rule.LeftOut.{IsClosed, IsOpen, IsRestOf}
use Rattle.plane.specs.Rule.Places.{Vector}
use Rattle.plane.specs.Rule.Plans.{Plan}
use Rattle.fault_lists.specs.DrawingFaces.{AreCurveFaces, AreDrawingFaces, HasCurveFaces, HasFaces}
use Rattle.fault_lists.specs.DrawingFaces.{IsPointPlace, face_count, faces_of, place_of}
use Rattle.fault_lists.specs.declared.faces.CurveFaces.{CurveFaces}
use Rattle.fault_lists.specs.declared.faces.DrawingFaces.{DrawingFaces}
use Rattle.fault_lists.specs.declared.faces.PointPlace.{PointPlace}
use Rattle.fault_lists.specs.declared.faces.PointPlace.TheVariants.{InFace, OnCurve}

module _ (d : Plan) (out other : ℕ → Bool) (same : (i : ℕ) → i < length d.curves
    → out i ≡ other i) where
  -- what is left out of the one is left out of the other
  over : (i : ℕ) → i < length d.curves → out i ≡ true → other i ≡ true
  over i l o = sym (same i l) ∙ o

  back : (i : ℕ) → i < length d.curves → other i ≡ true → out i ≡ true
  back i l o = same i l ∙ o

  module _ (r : Plan) (rest : IsRestOf d r out) where
    rest_over : IsRestOf d r other
    rest_over = record {
      number = rest.number;
      there = rest.there;
      is = rest.is;
      once = rest.once;
      whole = λ i l. by i l (rest.whole i l);
      points = rest.points;
    }
      where
        by : (i : ℕ) → i < length d.curves
            → (out i ≡ true) ⊎ ((k : ℕ) × (k < length r.curves) × (rest.number k ≡ i))
            → (other i ≡ true) ⊎ ((k : ℕ) × (k < length r.curves) × (rest.number k ≡ i))
        by i l (inl o) = inl (over i l o)
        by i l (inr k) = inr k

    closed_over : (p : Vector) → IsClosed d r out p → IsClosed d r other p
    closed_over p c i l o q s Q S j off clear hits = c i l (back i l o) q s Q S j off clear hits

    closed_back : (p : Vector) → IsClosed d r other p → IsClosed d r out p
    closed_back p c i l o q s Q S j off clear hits = c i l (over i l o) q s Q S j off clear hits

    open_over : (p : Vector) → IsOpen d r out p → IsOpen d r other p
    open_over p o = record {
      i = o.i;
      there = o.there;
      left_out = over o.i o.there o.left_out;
      q = o.q;
      s = o.s;
      q_place = o.q_place;
      s_place = o.s_place;
      joined = o.joined;
      off = o.off;
      clear = o.clear;
      hits = o.hits;
    }

    module _ (count : ℕ) (at : ℕ → Vector) where
      point_over : (j : ℕ) (p : PointPlace) → IsPointPlace d r out count at j p
          → IsPointPlace d r other count at j p
      point_over j (OnCurve i) x = record {
        on = x.on;
        kept = λ o. x.kept (back i x.on.curve_there o);
        least = λ k l kept on. x.least k l
            (λ o. kept (over k (let a = x.on.curve_there in omega (arith, l, a)) o)) on;
      }
      point_over j (InFace n) x = x

      faces_over : (k : ℕ) (f : CurveFaces) → HasCurveFaces d r out rest count at k f
          → HasCurveFaces d r other rest_over count at k f
      unfolding rest_over
      faces_over k f x = record {
        p = x.p;
        q = x.q;
        crossing = x.crossing;
        left = x.left;
        right = x.right;
        stays = λ a b. x.stays (closed_back x.p a) (closed_back x.q b);
      }

      curve_over : (i : ℕ) (f : Option CurveFaces) → i < length d.curves
          → AreCurveFaces d r out rest count at i f → AreCurveFaces d r other rest_over count at i f
      unfolding rest_over
      curve_over i None l o = over i l o
      curve_over i (Some f) l x =
          ((λ o. x.0 (back i l o)), (x.1.0, x.1.1, x.1.2, faces_over x.1.0 f x.1.3))

    none_over : ((k : ℕ) → k < length r.curves → out (rest.number k) ≡ true → ⊥)
        → (k : ℕ) → k < length r.curves → other (rest_over.number k) ≡ true → ⊥
    unfolding rest_over
    none_over h k l o = h k l (back (rest.number k) (rest.there k l) o)

    drawing_over : (f : DrawingFaces) → AreDrawingFaces d r out rest f
        → AreDrawingFaces d r other rest_over f
    drawing_over f x = record {
      at = x.at;
      none_out = none_over x.none_out;
      places = x.places;
      closed = λ n l o. closed_over (x.at n) (x.closed n l o);
      broken = λ n l o. open_over (x.at n) (x.broken n l o);
      point_count = x.point_count;
      points = λ j l. point_over (face_count f) x.at j (place_of f j) (x.points j l);
      curve_count = x.curve_count;
      sides = x.sides;
      curves = λ i l. curve_over (face_count f) x.at i (faces_of f i) l (x.curves i l);
    }

  pub same_faces : (f : DrawingFaces) → HasFaces d out f → HasFaces d other f
  same_faces f (r, rest, x) = (r, rest_over r rest, drawing_over r rest f x)
