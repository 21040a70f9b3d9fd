-- Curves that are set aside: half arcs, or those without which the last level settles the drawing
-- of the others.
use Rattle.std.proofs.Common.{◌≡◌, ◌⊎◌, inl, inr, ℕ, ◌<◌, ◌≤◌, Bool, true, false, Option, Some}
use Rattle.std.proofs.Common.{None, List, length, slice_index, get_or, arith, refl, ap, sym, ◌∙◌}
use Rattle.std.proofs.Common.{subst, All}
use Rattle.plane.specs.Rule.BadPairs.{AreBad, IsBadPair}
use Rattle.plane.specs.Rule.Curves.{IsOn, arc}
use Rattle.plane.specs.Rule.HalfArcs.{HasSide}
use Rattle.plane.specs.Rule.Places.{point}
use Rattle.plane.specs.Rule.Plans.{IsHalfArc, Plan, curve, object, plan}
use Rattle.plane.specs.Rule.Windows.{IsDrawn}
use Rattle.plane.specs.declared.kinds.Curve.{Curve}
use Rattle.plane.specs.declared.kinds.CurveKind.{CurveKind}
use Rattle.plane.specs.declared.kinds.CurveKind.TheVariants as kind
use Rattle.plane.specs.declared.kinds.Placed.{Placed}
use Rattle.plane.specs.declared.kinds.Point.{Point}
use Rattle.straight_predicates.specs.EdgeLists.{no_point}
use Rattle.near_pairs.specs.Boxes.{IsOneMarked, mark_of}
use Rattle.near_pairs.specs.LeastPairs.{IsLess}
use Rattle.meetings.specs.CurvePairs.{HaveHalfArc, IsArcPair}
use Rattle.tubes.specs.Settled.{Breaks}
use Rattle.area_search.specs.declared.points.OnCurve.{OnCurve}
use Rattle.area_search.specs.declared.unsettled.rest.SubDrawing.{SubDrawing}
use Rattle.area_search.specs.Answers.{HasNoBadPair}
use Rattle.area_search.specs.Unsettled.CurvePoints.{AreNumbers, IsFirstOnCurve, IsLeastOf}
use Rattle.area_search.specs.Unsettled.CurvePoints.{LiesOnMarked, LiesOnStraight}
use Rattle.area_search.specs.Faults.{LiesOn}
use Rattle.area_search.specs.Unsettled.SetAside.{AreArcMarks, AreAside, AreCurvesAt, HasNoBreak}
use Rattle.area_search.specs.Unsettled.SetAside.{IsNumbered, IsRest}
use Rattle.area_search.proofs.SettledLemmas.CaseEdges.{get_same}
use Rattle.area_search.proofs.PlaneLaws.{no_curve}
use Rattle.area_search.proofs.Small.{by_lt}

no_mark : {P : Type 0} → false ≡ true → P
no_mark e = cc

-- ---- half arcs
module _ (d : Plan) (marks : List Bool) (a : AreArcMarks d.curves (length d.curves) marks) where
  on_straight : (j i : ℕ) → LiesOnMarked d marks false j i → LiesOnStraight d j i
  on_straight j i h = record { on = h.on; straight = by (curve d i).kind refl }
    where
      by : (k : CurveKind) → (curve d i).kind ≡ k → (curve d i).kind ≡ kind.Straight
      by kind.Straight e = e
      by kind.HalfArc e = no_mark (sym h.mark_is ∙ a.half_arc i h.on.curve_there e)

  on_unmarked : (j i : ℕ) → LiesOnStraight d j i → LiesOnMarked d marks false j i
  on_unmarked j i h = record { on = h.on; mark_is = a.straight i h.on.curve_there h.straight }

  least_unmarked : (on : Option OnCurve) → IsLeastOf (LiesOnStraight d) on
      → IsLeastOf (LiesOnMarked d marks false) on
  least_unmarked None f = λ j i h. f j i (on_straight j i h)
  least_unmarked (Some p) f =
      (on_unmarked p.point p.curve f.0, (λ j i h less. f.1 j i (on_straight j i h) less))

  one_marked : (i j : ℕ) → IsArcPair d i j → IsOneMarked marks i j
  one_marked i j p = by p.half_arc
    where
      by : HaveHalfArc (curve d i) (curve d j) → IsOneMarked marks i j
      by (inl h) =
          inl (a.half_arc i (let o = p.pair.order in let t = p.pair.there in omega (arith, o, t)) h)
      by (inr h) = inr (a.half_arc j p.pair.there h)

  pub arcs_aside : ((i j : ℕ) → Breaks d (λ n. 5) i j → IsHalfArc d i ⊎ IsHalfArc d j)
      → (on : Option OnCurve) → IsLeastOf (LiesOnStraight d) on → AreAside d marks on
  arcs_aside law on f = record {
    size = a.size;
    pairs = one_marked;
    breaks = λ i j l m b. elim (law i j b) [
      | inl h ↦ inl (a.half_arc i h.there h.kind)
      | inr h ↦ inr (a.half_arc j h.there h.kind)
    ];
    points = least_unmarked on f;
  }

-- ---- the curves that are left
pub left_are : (all lent curves : List Curve) (numbers lent_numbers : List ℕ) → lent ≡ all
    → lent_numbers ≡ numbers → AreCurvesAt lent lent_numbers (length lent_numbers) curves
    → AreCurvesAt all numbers (length numbers) curves
left_are all lent curves numbers lent_numbers e f are =
    subst (λ (ns : List ℕ). AreCurvesAt all ns (length ns) curves) f
    (subst (λ (cs : List Curve). AreCurvesAt cs lent_numbers (length lent_numbers) curves) e
    are)

pub left_drawn : (low high : Point) (all lent curves : List Curve) (numbers lent_numbers : List ℕ)
    → lent ≡ all → lent_numbers ≡ numbers → AreNumbers (length all) numbers
    → AreCurvesAt lent lent_numbers (length lent_numbers) curves
    → All (λ (c : Curve). IsDrawn low high c) all
    → All (λ (c : Curve). IsDrawn low high c) curves
left_drawn low high all lent curves numbers lent_numbers e f known are drawn k x l =
    let at : AreCurvesAt all numbers (length numbers) curves = left_are all lent curves numbers
    lent_numbers e f are in
    let m : k < length numbers = (let s = at.size in omega (arith, l, s)) in
    subst (IsDrawn low high) (sym (get_same curves k x no_curve l ∙ at.each k m))
    (drawn (slice_index numbers k) no_curve (known k m))

-- ---- curves without which the last level settles the drawing
module _ (d : Plan) (marks : List Bool) (points : List Placed) (r : SubDrawing)
    (is : IsRest d marks points r) where
  abbrev e : Plan
  e = plan r.drawing

  abbrev number : ℕ → ℕ
  number a = slice_index r.numbers.items a

  same : (a : ℕ) → a < length r.numbers.items → curve e a ≡ curve d (number a)
  same a l = is.curves.each a l

  -- the place of a curve among those that are left
  record HasPlace (i : ℕ) : Type 0 where
    a : ℕ
    known : a < length r.numbers.items
    there : a < length e.curves
    is_at : number a ≡ i
    curve_is : curve d i ≡ curve e a

  placed : (i : ℕ) → i < length d.curves → mark_of marks i ≡ false → HasPlace i
  placed i l u =
      let w = is.numbers.whole i l u in record {
        a = w.0;
        known = w.1;
        there = (let c = is.curves.size in let k = w.1 in omega (arith, c, k));
        is_at = w.2;
        curve_is = ap (curve d) (sym w.2) ∙ sym (same w.0 w.1);
      }

  in_order : (a b : ℕ) → a < length r.numbers.items → b < length r.numbers.items
      → number a < number b → a < b
  in_order a b la lb l =
      by_lt a b (λ (x : a < b). x)
      (λ (x : b ≤ a). absurd (by_lt b a (λ (y : b < a). let w = is.numbers.rising b a y la in
      omega (arith, w, l)) (λ (y : a ≤ b). let w = ap number (both x y) in
      omega (arith, w, l))))
    where
      both : b ≤ a → a ≤ b → a ≡ b
      both x y = omega (arith, x, y)

  -- ---- pairs
  no_bad : HasNoBadPair e → (i j : ℕ) → IsBadPair d i j → mark_of marks i ≡ false
      → mark_of marks j ≡ false → ⊥
  no_bad none i j p u v =
      let o = p.order in
      let t = p.there in
      let x = placed i (omega (arith, o, t)) u in
      let y = placed j t v in
      let ex = x.is_at in
      let ey = y.is_at in
      none x.a y.a (record {
        order = in_order x.a y.a x.known y.known (omega (arith, ex, ey, o));
        there = y.there;
        bad = subst (λ (c : Curve). AreBad c (curve e y.a)) x.curve_is
            (subst (λ (c : Curve). AreBad (curve d i) c) y.curve_is p.bad);
      })

  pub no_break : ((i j a b : ℕ) → a < length e.curves → b < length e.curves → curve d i ≡ curve e a
      → curve d j ≡ curve e b → (i ≡ j → ⊥) → (a ≡ b → ⊥) → Breaks d (λ n. 5) i j → Breaks e (λ n. 5) a b)
      → HasNoBreak e
      → (i j : ℕ) → i < j → j < length d.curves → Breaks d (λ n. 5) i j → mark_of marks i ≡ false
      → mark_of marks j ≡ false → ⊥
  no_break law none i j o t h u v =
      let x = placed i (omega (arith, o, t)) u in
      let y = placed j t v in
      let ex = x.is_at in
      let ey = y.is_at in
      let l = in_order x.a y.a x.known y.known (omega (arith, ex, ey, o)) in
      none x.a y.a
      (law i j x.a y.a x.there y.there x.curve_is y.curve_is (λ q. omega (arith, q, o))
      (λ q. omega (arith, q, l)) h)

  one_of : (i j : ℕ) → (mark_of marks i ≡ false → mark_of marks j ≡ false → ⊥)
      → IsOneMarked marks i j
  one_of i j f = by (mark_of marks i) (mark_of marks j) refl refl
    where
      by : (x y : Bool) → mark_of marks i ≡ x → mark_of marks j ≡ y → IsOneMarked marks i j
      by true y p q = inl p
      by false true p q = inr q
      by false false p q = absurd (f p q)

  -- ---- points
  abbrev HasAllPoints : Type 0
  HasAllPoints = points ≡ d.points

  object_is : HasAllPoints → (j : ℕ) → object e j ≡ object d j
  object_is all j =
      ap (λ (ps : List Placed). (get_or ps j (record { at = no_point; line = 0 })).at)
      (is.points_are ∙ all)

  lies_there : HasAllPoints → (j i : ℕ) → LiesOn d j i → (x : HasPlace i) → LiesOn e j x.a
  lies_there all j i h x = record {
    point_there =
        subst (λ (ps : List Placed). j < length ps) (sym (is.points_are ∙ all)) h.point_there;
    curve_there = x.there;
    on = subst (λ (c : Curve). IsOn c (point (object e j))) x.curve_is
        (subst (λ (v : Point). IsOn (curve d i) (point v)) (sym (object_is all j)) h.on);
    has_side = subst (λ (c : Curve). c.kind ≡ kind.HalfArc
        → HasSide (arc c) (point (object e j))) x.curve_is
        (subst (λ (v : Point). (curve d i).kind ≡ kind.HalfArc
        → HasSide (arc (curve d i)) (point v)) (sym (object_is all j)) h.has_side);
  }

  lies_here : HasAllPoints → (j a : ℕ) → LiesOn e j a → LiesOnMarked d marks false j (number a)
  lies_here all j a h =
      let l : a < length r.numbers.items = (let c = is.curves.size in let k = h.curve_there in
      omega (arith, c, k)) in
      record {
        on = record {
          point_there =
              subst (λ (ps : List Placed). j < length ps) (is.points_are ∙ all) h.point_there;
          curve_there = is.numbers.known a l;
          on = subst (λ (c : Curve). IsOn c (point (object d j))) (same a l)
              (subst (λ (v : Point). IsOn (curve e a) (point v)) (object_is all j) h.on);
          has_side = subst (λ (c : Curve). c.kind ≡ kind.HalfArc
              → HasSide (arc c) (point (object d j))) (same a l)
              (subst (λ (v : Point). (curve e a).kind ≡ kind.HalfArc
              → HasSide (arc (curve e a)) (point v)) (object_is all j) h.has_side);
        };
        mark_is = is.numbers.mark_is a l;
      }

  pub on_known : (p : OnCurve) → IsFirstOnCurve e (Some p) → p.curve < length r.numbers.items
  on_known p f = let c = is.curves.size in let k = f.on.curve_there in omega (arith, c, k)

  least_here : HasAllPoints → (on found : Option OnCurve) → IsFirstOnCurve e on
      → IsNumbered r.numbers.items on found → IsLeastOf (LiesOnMarked d marks false) found
  least_here all None found f q =
      subst (IsLeastOf (LiesOnMarked d marks false)) (sym q)
      (λ j i h. let x = placed i h.on.curve_there h.mark_is in f j x.a (lies_there all j i h.on x))
  least_here all (Some p) found f q =
      subst (IsLeastOf (LiesOnMarked d marks false)) (sym q)
      (lies_here all p.point p.curve f.on, not_less)
    where
      not_less : (j i : ℕ) → LiesOnMarked d marks false j i → IsLess j i p.point (number p.curve)
          → ⊥
      not_less j i h (inl l) =
          let x = placed i h.on.curve_there h.mark_is in
          f.no_point j x.a l (lies_there all j i h.on x)
      not_less j i h (inr (q, l)) =
          let x = placed i h.on.curve_there h.mark_is in
          let ex = x.is_at in
          f.no_curve x.a (in_order x.a p.curve x.known (on_known p f) (omega (arith, ex, l)))
          (subst (λ (k : ℕ). LiesOn e k x.a) q (lies_there all j i h.on x))

  pub few_are_aside : ((i j a b : ℕ) → a < length e.curves → b < length e.curves
      → curve d i ≡ curve e a → curve d j ≡ curve e b → (i ≡ j → ⊥) → (a ≡ b → ⊥) → Breaks d (λ n. 5) i j
      → Breaks e (λ n. 5) a b)
      → HasAllPoints → length marks ≡ length d.curves → HasNoBadPair e → HasNoBreak e
      → (on found : Option OnCurve) → IsFirstOnCurve e on → IsNumbered r.numbers.items on found
      → AreAside d marks found
  few_are_aside law all size bad break on found f q = record {
    size = size;
    pairs = λ i j p. one_of i j (no_bad bad i j p.pair);
    breaks = λ i j l m h. one_of i j (no_break law break i j l m h);
    points = least_here all on found f q;
  }
