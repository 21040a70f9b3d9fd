-- The least point on a straight, on a marked curve, and on a curve of any kind.
use Rattle.std.proofs.Common.{◌≡◌, ◌⊎◌, inl, inr, ℕ, ◌+◌, ◌-◌, ◌<◌, ◌≤◌, Bool, true, false, Option}
use Rattle.std.proofs.Common.{Some, None, List, [], length, get_or, map, pos, slice_index}
use Rattle.std.proofs.Common.{slice_index_or, arith, refl, ap, sym, ◌∙◌, subst, All}
use Rattle.std.proofs.lemmas.Int.{ints}
use Rattle.std.proofs.lemmas.List.{length-map}
use Rattle.plane.specs.Forms.Boxes.{Box, HoldsCurve, InBox}
use Rattle.plane.specs.Forms.Meets.{OnStraight}
use Rattle.plane.specs.Rule.Curves.{IsOn, arc}
use Rattle.plane.specs.Rule.HalfArcs.{HasSide}
use Rattle.plane.specs.Rule.Places.{Place as IsPlace, Vector, point}
use Rattle.plane.specs.Rule.Plans.{Plan, curve, object}
use Rattle.plane.specs.Rule.Windows.{IsDrawn, IsInside}
use Rattle.plane.specs.Runs.Moves.{Move, steps_from}
use Rattle.plane.specs.Runs.Steps.{Run}
use Rattle.plane.specs.declared.kinds.Curve.{Curve}
use Rattle.plane.specs.declared.kinds.CurveKind.TheVariants as kind
use Rattle.plane.specs.declared.kinds.Edge.{Edge}
use Rattle.plane.specs.declared.kinds.Placed.{Placed}
use Rattle.plane.specs.declared.kinds.Point.{Point}
use Rattle.point_location.specs.Places.{ArePlaces, IsCell, IsPlaceOf, no_place}
use Rattle.point_location.specs.declared.places.Place.{Place}
use Rattle.point_location.specs.declared.places.Place.TheVariants as place
use Rattle.straight_predicates.proofs.WindowEdges.{inside_close}
use Rattle.straight_predicates.specs.EdgeLists.{IsCloseToAll, edge_of, no_point}
use Rattle.near_pairs.specs.Boxes.{AreMarkedFrom, AreNear, box_of, mark_of, reach_of}
use Rattle.near_pairs.specs.LeastPairs.{IsLeastPair, IsLess}
use Rattle.near_pairs.specs.declared.pairs.NearPair.{NearPair}
use Rattle.near_pairs.specs.declared.reaches.Reach.{Reach}
use Rattle.meetings.specs.CurvePairs.{IsJudgedOn}
use Rattle.meetings.specs.PlacedCurves.{IsPlacedWith}
use Rattle.meetings.specs.StraightEdges.{AreStraightsTo}
use Rattle.meetings.proofs.StraightLists.{all_close, inside}
use Rattle.area_search.specs.Unsettled.CurvePoints.{AreCurveBoxes, AreMarkedTo, IsFirstOn}
use Rattle.area_search.specs.Unsettled.CurvePoints.{IsFirstOnCurve, IsInCell, IsLeastOf, IsLesserOn}
use Rattle.area_search.specs.Unsettled.CurvePoints.{IsNotAfter, IsPointOnCurve, LiesOnMarked}
use Rattle.area_search.specs.Unsettled.CurvePoints.{LiesOnStraight}
use Rattle.area_search.specs.Faults.{LiesOn}
use Rattle.area_search.specs.declared.points.OnCurve.{OnCurve}
use Rattle.area_search.proofs.PlaneLaws.{located_off, on_edge_is}
use Rattle.area_search.proofs.SettledLemmas.CaseEdges.{get_same}
use Rattle.area_search.proofs.SettledLemmas.ListPlaces.{nth_point}
use Rattle.area_search.proofs.Small.{by_lt}

a_place : (p : Point) → IsPlace (point p)
a_place p = omega (arith, ints)

abbrev no_placed : Placed
no_placed = record { at = no_point; line = 0 }

two_kinds : {P : Type 0} → kind.Straight ≡ kind.HalfArc → P
two_kinds e = cc

-- ---- points on straights
module _ (d : Plan) (edges : List Edge) (numbers : List ℕ) (vs : List Move)
    (s : AreStraightsTo d.curves (length d.curves) edges numbers)
    (run : Run (length edges) (edge_of edges) (steps_from [] vs)) where
  abbrev number : ℕ → ℕ
  number m = slice_index numbers m

  lies : (j m : ℕ) → j < length d.points → m < length edges
      → OnStraight (edge_of edges m) (point (object d j)) → LiesOnStraight d j (number m)
  lies j m lj lm h =
      let e = s.each m lm in record {
        on = record {
          point_there = lj;
          curve_there = e.known;
          on = (on_edge_is (edge_of edges m) (curve d (number m)) (point (object d j)) e.ends e.kind
              (a_place (object d j))).0 h;
          has_side = λ q. two_kinds (sym e.kind ∙ q);
        };
        straight = e.kind;
      }

  on_edge : (j i : ℕ) → LiesOnStraight d j i
      → (m : ℕ) × (m < length edges) × (number m ≡ i)
      × OnStraight (edge_of edges m) (point (object d j))
  on_edge j i h =
      let (m, lm, em) = s.whole i h.on.curve_there h.straight in
      let e = s.each m lm in (
        m,
        lm,
        em,
        (on_edge_is (edge_of edges m) (curve d (number m))
            (point (object d j)) e.ends e.kind (a_place (object d j))).1
            (subst (λ (k : ℕ). IsOn (curve d k) (point (object d j))) (sym em) h.on.on),
      )

  off_cell : (v : Point) (i m : ℕ) (l u : Option ℕ) → IsCell edges vs v i l u → m < length edges
      → OnStraight (edge_of edges m) (point v) → ⊥
  off_cell v i m l u c lm h =
      located_off (pos 0) (length edges) (edge_of edges) (steps_from [] vs) v c.events i m run
      (c.located (pos 0)) lm h

  module _ (points : List Point) (places : List Place)
      (p : points ≡ map (λ (x : Placed). x.at) d.points)
      (are : ArePlaces edges vs points places) where
    count : length points ≡ length d.points
    count = ap length p ∙ length-map d.points (λ (x : Placed). x.at)

    own_place : (j : ℕ) → j < length d.points
        → IsPlaceOf edges vs (object d j) (slice_index_or places j no_place)
    own_place j l =
        subst (λ (v : Point). IsPlaceOf edges vs v (slice_index_or places j no_place))
        (ap (λ ps. slice_index_or ps j no_point) p ∙ nth_point d.points j _ l)
        (are.each j (let e = count in omega (arith, l, e)))

    -- in a cell is on no straight
    in_cell_off : (j i : ℕ) → j < length d.points → IsInCell (slice_index_or places j no_place)
        → LiesOnStraight d j i → ⊥
    in_cell_off j i l c h = by (slice_index_or places j no_place) c (own_place j l) (on_edge j i h)
      where
        by : (x : Place) → IsInCell x → IsPlaceOf edges vs (object d j) x
            → (m : ℕ) × (m < length edges) × (number m ≡ i)
            × OnStraight (edge_of edges m) (point (object d j))
            → ⊥
        by (place.Cell position lower upper) c here (m, lm, em, on) =
            off_cell (object d j) position m lower upper here lm on
        by (place.OnEdge e) c here on = c

    pub none_on : IsFirstOn places None → IsLeastOf (LiesOnStraight d) None
    none_on f j i h =
        in_cell_off j i h.on.point_there (f j (let n = are.size in let e = count in
        let l = h.on.point_there in omega (arith, n, e, l))) h

    pub edge_here : (q : OnCurve) → IsFirstOn places (Some q) → q.curve < length edges
    edge_here q f =
        (subst (IsPlaceOf edges vs (object d q.point)) f.2
        (own_place q.point (let n = are.size in let e = count in let l = f.1 in
        omega (arith, n, e, l)))).known

    pub first_is : (q r : OnCurve) → IsFirstOn places (Some q) → r.point ≡ q.point
        → r.curve ≡ number q.curve → IsLeastOf (LiesOnStraight d) (Some r)
    first_is q r f ep ec = (
      subst (λ (n : ℕ). LiesOnStraight d n r.curve) (sym ep)
          (subst (λ (n : ℕ). LiesOnStraight d q.point n) (sym ec)
          (lies q.point q.curve there here.known here.on)),
      (λ j i h less. not_less j i h
          (subst (λ (n : ℕ). IsLess j i n (number q.curve)) ep
          (subst (λ (n : ℕ). IsLess j i r.point n) ec less))),
    )
      where
        there : q.point < length d.points
        there = let n = are.size in let e = count in let l = f.1 in omega (arith, n, e, l)

        here : IsPlaceOf edges vs (object d q.point) (place.OnEdge q.curve)
        here = subst (IsPlaceOf edges vs (object d q.point)) f.2 (own_place q.point there)

        not_less : (j i : ℕ) → LiesOnStraight d j i → IsLess j i q.point (number q.curve) → ⊥
        not_less j i h (inl l) = in_cell_off j i h.on.point_there (f.0 j l) h
        not_less j i h (inr (e, l)) =
            let (m, lm, em, on) = on_edge j i h in
            by_lt m q.curve
            (λ (g : m < q.curve). here.least m g
            (subst (λ (n : ℕ). OnStraight (edge_of edges m) (point (object d n))) e on))
            (λ (g : q.curve ≤ m). by_lt q.curve m
            (λ (k : q.curve < m). let w = s.rising q.curve m k (let z = s.size in
            omega (arith, z, lm)) in omega (arith, w, em, l))
            (λ (k : m ≤ q.curve). let w = ap number (both m q.curve g k) in
            omega (arith, w, em, l)))
          where
            both : (m n : ℕ) → n ≤ m → m ≤ n → m ≡ n
            both m n g k = omega (arith, g, k)

  pub points_close : (points : List Point) → points ≡ map (λ (x : Placed). x.at) d.points
      → All (λ (c : Curve). IsDrawn d.window.low d.window.high c) d.curves
      → All (λ (x : Placed). IsInside d.window.low d.window.high x.at) d.points → (j : ℕ)
      → j < length points
      → IsCloseToAll edges (slice_index_or points j no_point)
  points_close points p drawn placed j l =
      let lj : j < length d.points = (let e = ap length p
      ∙ length-map d.points (λ (x : Placed). x.at) in omega (arith, l, e)) in
      let w = d.window in record {
        ends = λ m lm.
            (all_close w.low w.high d.curves edges numbers w.narrow drawn s m m lm lm).first;
        point = λ m lm. inside_close w.low w.high (edge_of edges m).low
            (slice_index_or points j no_point) w.narrow
            (inside w.low w.high d.curves edges numbers w.narrow drawn s m lm).0
            (subst (IsInside w.low w.high)
            (sym (ap (λ ps. slice_index_or ps j no_point) p
            ∙ nth_point d.points j no_placed lj)) (placed j no_placed lj));
      }

-- ---- points on marked curves
module _ (d : Plan) (aside : List Bool) (numbers : List ℕ)
    (a : AreMarkedTo aside true (length d.curves) numbers) where
  abbrev P : ℕ
  P = length d.points

  abbrev number_at : ℕ → ℕ
  number_at m = slice_index numbers m

  pub placed_with : (i m : ℕ) → i < P → m < length numbers
      → All (λ (c : Curve). IsDrawn d.window.low d.window.high c) d.curves
      → All (λ (x : Placed). IsInside d.window.low d.window.high x.at) d.points
      → IsPlacedWith (curve d (number_at m)) (object d i)
  placed_with i m l k drawn placed = record {
    low = d.window.low;
    high = d.window.high;
    narrow = d.window.narrow;
    drawn = drawn (number_at m) _ (a.known m k);
    inside = placed i _ l;
  }

  pub lies_on : (i j : ℕ) → IsPointOnCurve d numbers i j
      → LiesOnMarked d aside true i (number_at (j - P))
  lies_on i j h = record {
    on = record {
      point_there = h.point_there;
      curve_there = a.known (j - P) h.within;
      on = h.judged.on;
      has_side = h.judged.side;
    };
    mark_is = a.mark_is (j - P) h.within;
  }

  pub numbered : (j i : ℕ) → LiesOnMarked d aside true j i
      → (m : ℕ) × (m < length numbers) × (number_at m ≡ i) × IsPointOnCurve d numbers j (P + m)
  numbered j i h =
      let (m, lm, em) = a.whole i h.on.curve_there h.mark_is in
      let e : (P + m) - P ≡ m = omega arith in (
        m,
        lm,
        em,
        record {
          point_there = h.on.point_there;
          after = omega arith;
          within = subst (λ (n : ℕ). n < length numbers) (sym e) lm;
          judged = subst (λ (n : ℕ). IsJudgedOn (curve d (number_at n)) (object d j)) (sym e)
              (subst (λ (n : ℕ). IsJudgedOn (curve d n) (object d j)) (sym em)
              (record { on = h.on.on; side = h.on.has_side }));
        },
      )

  module _ (boxes : List Reach) (marks : List Bool)
      (b : AreCurveBoxes d numbers (length numbers) boxes) (count : ℕ)
      (n : count ≡ P + length numbers) (k : AreMarkedFrom P count marks)
      (law : (c : Curve) (x : Box) (z : Vector) → HoldsCurve x c → IsPlace z
      → (c.kind ≡ kind.HalfArc → HasSide (arc c) z) → IsOn c z → InBox x z) where
    pub on_is_near : (i j : ℕ) → IsPointOnCurve d numbers i j → AreNear boxes marks i j
    on_is_near i j h =
        let f = h.after in
        let g = h.within in
        let e : P + (j - P) ≡ j = omega (arith, f) in record {
          mark = inr (k.marked j f (omega (arith, n, f, g)));
          place = (
            point (object d i),
            a_place (object d i),
            b.points i h.point_there,
            subst (λ (m : ℕ). InBox (box_of (reach_of boxes m)) (point (object d i))) e
                (law (curve d (number_at (j - P))) (box_of (reach_of boxes (P + (j - P))))
                (point (object d i)) (b.holds (j - P) g)
                (a_place (object d i)) h.judged.side h.judged.on),
          );
        }

  -- what was found
  pub pair_within : (n : ℕ) (p : NearPair) → IsLeastPair (IsPointOnCurve d numbers) n p
      → ((p.second - P) < length numbers) × (P ≤ p.second)
  pair_within n p h = (h.pair.sought.within, h.pair.sought.after)

  pub least_marked : (n : ℕ) (p : NearPair) (r : OnCurve) → n ≡ P + length numbers
      → IsLeastPair (IsPointOnCurve d numbers) n p → r.point ≡ p.first
      → r.curve ≡ number_at (p.second - P) → IsLeastOf (LiesOnMarked d aside true) (Some r)
  least_marked n p r size h ep ec = (
    subst (λ (k : ℕ). LiesOnMarked d aside true k r.curve) (sym ep)
        (subst (λ (k : ℕ). LiesOnMarked d aside true p.first k) (sym ec)
        (lies_on p.first p.second h.pair.sought)),
    (λ j i o less. not_less j i o
        (subst (λ (k : ℕ). IsLess j i k (number_at (p.second - P))) ep
        (subst (λ (k : ℕ). IsLess j i r.point k) ec less))),
  )
    where
      not_less : (j i : ℕ) → LiesOnMarked d aside true j i
          → IsLess j i p.first (number_at (p.second - P)) → ⊥
      not_less j i o less =
          let (m, lm, em, on) = numbered j i o in
          let lj = o.on.point_there in
          h.least j (P + m) (omega (arith, lj)) (omega (arith, lm, size)) on (by m lm em less)
        where
          by : (m : ℕ) → m < length numbers → number_at m ≡ i
              → IsLess j i p.first (number_at (p.second - P)) → IsLess j (P + m) p.first p.second
          by m lm em (inl l) = inl l
          by m lm em (inr (e, l)) = inr (
            e,
            by_lt m (p.second - P)
                (λ (g : m < p.second - P). let f = h.pair.sought.after in omega (arith, g, f))
                (λ (g : p.second - P ≤ m). absurd (by_lt (p.second - P) m
                (λ (k : p.second - P < m). let w = a.rising (p.second - P) m k lm in
                omega (arith, w, em, l))
                (λ (k : m ≤ p.second - P). let w = ap number_at (both m (p.second - P) g k) in
                omega (arith, w, em, l)))),
          )
            where
              both : (m n : ℕ) → n ≤ m → m ≤ n → m ≡ n
              both m n g k = omega (arith, g, k)

  pub no_marked : (n : ℕ) → n ≡ P + length numbers
      → ((i j : ℕ) → i < j → j < n → IsPointOnCurve d numbers i j → ⊥)
      → IsLeastOf (LiesOnMarked d aside true) None
  no_marked n size none j i o =
      let (m, lm, em, on) = numbered j i o in
      let lj = o.on.point_there in none j (P + m) (omega (arith, lj)) (omega (arith, lm, size)) on

-- ---- points on curves with any mark
by_mark : (d : Plan) (aside : List Bool) (j i : ℕ) → LiesOn d j i
    → LiesOnMarked d aside false j i ⊎ LiesOnMarked d aside true j i
by_mark d aside j i h = by (mark_of aside i) refl
  where
    by : (b : Bool) → mark_of aside i ≡ b
        → LiesOnMarked d aside false j i ⊎ LiesOnMarked d aside true j i
    by false e = inl (record { on = h; mark_is = e })
    by true e = inr (record { on = h; mark_is = e })

-- what is less than one that is not after another is less than that
less_through : (j i : ℕ) (q p : OnCurve) → (IsLess p.point p.curve q.point q.curve → ⊥)
    → IsLess j i q.point q.curve → IsLess j i p.point p.curve
less_through j i q p n (inl l) =
    by_lt j p.point (λ (x : j < p.point). inl x)
    (λ (x : p.point ≤ j). absurd (n (inl (omega (arith, x, l)))))
less_through j i q p n (inr (e, l)) =
    by_lt j p.point (λ (x : j < p.point). inl x)
    (λ (x : p.point ≤ j). by_lt p.point j
    (λ (y : p.point < j). absurd (n (inl (omega (arith, y, e)))))
    (λ (y : j ≤ p.point). by_lt i p.curve (λ (z : i < p.curve). inr (omega (arith, x, y), z))
    (λ (z : p.curve ≤ i). absurd (n (inr (omega (arith, x, y, e), omega (arith, z, l)))))))

not_less : (R : ℕ → ℕ → Type 0) (a : Option OnCurve) (r : OnCurve) → IsLeastOf R a
    → IsNotAfter (Some r) a → (j i : ℕ) → R j i → IsLess j i r.point r.curve → ⊥
not_less R None r f n j i h less = f j i h
not_less R (Some p) r f n j i h less = f.1 j i h (less_through j i r p n less)

none_of : (R : ℕ → ℕ → Type 0) (a : Option OnCurve) → IsLeastOf R a → IsNotAfter None a → (j i : ℕ)
    → R j i → ⊥
none_of R None f n j i h = f j i h
none_of R (Some p) f n j i h = n

pub lesser_is_first : (d : Plan) (aside : List Bool) (a b r : Option OnCurve) → IsLesserOn a b r
    → IsLeastOf (LiesOnMarked d aside false) a → IsLeastOf (LiesOnMarked d aside true) b
    → IsFirstOnCurve d r
lesser_is_first d aside a b None h f g =
    λ j i o. elim (by_mark d aside j i o) [
      | inl s ↦ none_of (LiesOnMarked d aside false) a f h.not_first j i s
      | inr s ↦ none_of (LiesOnMarked d aside true) b g h.not_second j i s
    ]
lesser_is_first d aside a b (Some r) h f g = record {
  on = lies h.is;
  no_point = λ k l m o. no_less k l o (inl m);
  no_curve = λ l m o. no_less r.point l o (inr (refl, m));
}
  where
    no_less : (k l : ℕ) → LiesOn d k l → IsLess k l r.point r.curve → ⊥
    no_less k l o less =
        elim (by_mark d aside k l o) [
          | inl s ↦ not_less
              (LiesOnMarked d aside false) a r f h.not_first k l s less
          | inr s ↦ not_less (LiesOnMarked d aside true) b r g h.not_second k l s less
        ]

    lies : (Some r ≡ a) ⊎ (Some r ≡ b) → LiesOn d r.point r.curve
    lies (inl e) = (subst (IsLeastOf (LiesOnMarked d aside false)) (sym e) f).0.on
    lies (inr e) = (subst (IsLeastOf (LiesOnMarked d aside true)) (sym e) g).0.on

-- ---- the lists of marked curves as they are lent
module _ (d : Plan) (aside : List Bool) (points : List Placed) (numbers lent lent_too : List ℕ)
    (boxes boxes_lent boxes_seen : List Reach) (marks marks_lent : List Bool)
    (ec : length aside ≡ length d.curves) (ep : points ≡ d.points) (ea : lent ≡ numbers)
    (eb : lent_too ≡ numbers) (fb : boxes_lent ≡ boxes) (gb : boxes_seen ≡ boxes)
    (em : marks_lent ≡ marks)
    (a : AreMarkedTo aside true (length aside) numbers)
    (b : AreCurveBoxes d lent (length lent) boxes)
    (k : AreMarkedFrom (length points) (length boxes_seen) marks) where
  pub lent_numbers : AreMarkedTo aside true (length d.curves) numbers
  lent_numbers = subst (λ (n : ℕ). AreMarkedTo aside true n numbers) ec a

  pub lent_boxes : AreCurveBoxes d numbers (length numbers) boxes_lent
  lent_boxes =
      subst (λ bs. AreCurveBoxes d numbers (length numbers) bs) (sym fb)
      (subst (λ xs. AreCurveBoxes d xs (length xs) boxes) ea b)

  lent_marks : AreMarkedFrom (length d.points) (length boxes_seen) marks_lent
  lent_marks =
      subst (λ ms. AreMarkedFrom (length d.points) (length boxes_seen) ms) (sym em)
      (subst (λ ps. AreMarkedFrom (length ps) (length boxes_seen) marks) ep k)

  pub lent_count : length boxes_lent ≡ length d.points + length numbers
  lent_count = lent_boxes.size

  seen_count : length boxes_seen ≡ length d.points + length numbers
  seen_count = ap length (gb ∙ sym fb) ∙ lent_count

  pub lent_near : ((c : Curve) (x : Box) (z : Vector) → HoldsCurve x c → IsPlace z
      → (c.kind ≡ kind.HalfArc → HasSide (arc c) z) → IsOn c z → InBox x z)
      → (i j : ℕ) → IsPointOnCurve d lent_too i j → AreNear boxes_lent marks_lent i j
  lent_near law i j h =
      on_is_near d aside numbers lent_numbers boxes_lent marks_lent lent_boxes
      (length boxes_seen) seen_count lent_marks law i j (subst (λ xs. IsPointOnCurve d xs i j) eb h)

  pub lent_least : (p : NearPair) (r : OnCurve)
      → IsLeastPair (IsPointOnCurve d lent_too) (length boxes_lent) p → r.point ≡ p.first
      → r.curve ≡ get_or numbers (p.second - length points) r.curve
      → IsLeastOf (LiesOnMarked d aside true) (Some r)
  lent_least p r h e f =
      let g = subst (λ xs. IsLeastPair (IsPointOnCurve d xs) (length boxes_lent) p) eb h in
      let w = pair_within d aside numbers lent_numbers (length boxes_lent) p g in
      least_marked d aside numbers lent_numbers (length boxes_lent) p r lent_count g e (f
      ∙ ap (λ ps. get_or numbers (p.second - length ps) r.curve) ep
      ∙ get_same numbers (p.second - length d.points) r.curve 0 w.0)

  pub lent_none : ((i j : ℕ) → i < j → j < length boxes_lent → IsPointOnCurve d lent_too i j → ⊥)
      → IsLeastOf (LiesOnMarked d aside true) None
  lent_none none =
      no_marked d aside numbers lent_numbers (length boxes_lent) lent_count
      (λ i j l m h. none i j l m (subst (λ xs. IsPointOnCurve d xs i j) (sym eb) h))
