-- The edges of a drawing's straights, and which pairs of them are bad.
use Rattle.std.proofs.Common.{◌≡◌, ◌↔◌, Bool, false, IsTrue, ℕ, ◌+◌, ◌<◌, ◌≤◌, inl, inr, List, []}
use Rattle.std.proofs.Common.{◌∷◌, ◌++◌, length, get_or, refl, arith, ap, sym, ◌∙◌, subst, All}
use Rattle.std.proofs.lemmas.List.{length-append, get_or_append_left}
use Rattle.std.proofs.Math.Seq.{get_or-append_seam}
use Rattle.plane.specs.declared.kinds.Point.{Point}
use Rattle.plane.specs.declared.kinds.Curve.{Curve}
use Rattle.plane.specs.declared.kinds.CurveKind.{CurveKind}
use Rattle.plane.specs.declared.kinds.CurveKind.TheVariants as kind
use Rattle.plane.specs.declared.kinds.Edge.{Edge}
use Rattle.plane.specs.Rule.BadPairs.{AreBad as CurvesAreBad, straights_meet, end_meets, crossed}
use Rattle.plane.specs.Rule.BadPairs.{one_arc, IsBadPair}
use Rattle.plane.specs.Forms.Meets.{Bad}
use Rattle.plane.specs.Rule.Plans.{Plan, curve}
use Rattle.plane.specs.Forms.Segments.{IsEdgeOf}
use Rattle.plane.specs.Forms.Vectors.{Before}
use Rattle.plane.specs.Rule.Windows.{IsDrawn, IsInside, IsNarrow}
use Rattle.plane.proofs.Covers.CurveEdges.{bad_edges_is}
use Rattle.straight_predicates.specs.EdgeLists.{edge_of, no_edge, AreSorted, AreAllClose}
use Rattle.straight_predicates.proofs.Orders.{by_lt}
use Rattle.straight_predicates.proofs.WindowEdges.{window_close}
use Rattle.line_sweep.specs.Kinds.{AreBad}
use Rattle.meetings.specs.CurvePairs.{AreBothStraight, IsArcPair}
use Rattle.meetings.specs.StraightEdges.{AreStraightsTo, IsRising, IsStraightEdge, curve_of}
use Rattle.meetings.proofs.Choices.{clash, last}
use Rattle.meetings.proofs.BadCurves.{not_half_arc}

abbrev number_of : List ℕ → ℕ → ℕ
number_of numbers m = get_or numbers m 0

-- ---- one curve more
pub none_yet : (curves : List Curve) (edges : List Edge) (numbers : List ℕ) → edges ≡ []
    → numbers ≡ [] → AreStraightsTo curves 0 edges numbers
none_yet curves edges numbers e f =
    let s = ap length e in
    let t = ap length f in
    record {
      size = omega (arith, s, t);
      few = omega (arith, s);
      each = λ m l. absurd (omega (arith, l, s));
      rising = λ m n l k. absurd (omega (arith, k, t));
      whole = λ i l. absurd (omega (arith, l));
    }

kept : (curves : List Curve) (k : ℕ) (e : Edge) (n : ℕ) → IsStraightEdge curves k e n
    → IsStraightEdge curves (k + 1) e n
kept curves k e n s = record {
  known = (let l = s.known in omega (arith, l));
  kind = s.kind;
  sorted = s.sorted;
  ends = s.ends;
}

module _ (curves : List Curve) (k : ℕ) (edges : List Edge) (numbers : List ℕ)
    (a : AreStraightsTo curves k edges numbers) where
  pub passed_over : ((curve_of curves k).kind ≡ kind.Straight → ⊥)
      → AreStraightsTo curves (k + 1) edges numbers
  passed_over n = record {
    size = a.size;
    few = (let f = a.few in omega (arith, f));
    each = λ m l. kept curves k (edge_of edges m) (number_of numbers m) (a.each m l);
    rising = a.rising;
    whole = λ i l s. by_lt i k (λ (b : i < k). a.whole i b s)
        (λ (b : k ≤ i). absurd
        (n (subst (λ (j : ℕ). (curve_of curves j).kind ≡ kind.Straight) (last i k l b) s)));
  }

  module _ (e : Edge) (new : List Edge) (more : List ℕ) (q : new ≡ edges ++ e ∷ [])
      (r : more ≡ numbers ++ k ∷ []) where
    new_size : length new ≡ length edges + 1
    new_size = ap length q ∙ length-append edges (e ∷ [])

    more_size : length more ≡ length numbers + 1
    more_size = ap length r ∙ length-append numbers (k ∷ [])

    edge_front : (m : ℕ) → m < length edges → edge_of new m ≡ edge_of edges m
    edge_front m l = ap (λ es. edge_of es m) q ∙ get_or_append_left edges (e ∷ []) no_edge m l

    edge_back : (m : ℕ) → m ≡ length edges → edge_of new m ≡ e
    edge_back m l = ap (λ es. edge_of es m) q ∙ ap (λ (j : ℕ). edge_of (edges ++ e ∷ []) j) l
        ∙ get_or-append_seam edges e [] no_edge

    number_front : (m : ℕ) → m < length edges → number_of more m ≡ number_of numbers m
    number_front m l = ap (λ ns. number_of ns m) r
        ∙ get_or_append_left numbers (k ∷ []) 0 m (let z = a.size in omega (arith, l, z))

    number_back : (m : ℕ) → m ≡ length edges → number_of more m ≡ k
    number_back m l = ap (λ ns. number_of ns m) r
        ∙ ap (λ (j : ℕ). number_of (numbers ++ k ∷ []) j) (l ∙ sym a.size)
        ∙ get_or-append_seam numbers k [] 0

    pub one_more : (curve_of curves k).kind ≡ kind.Straight → Before e.low e.high
        → IsEdgeOf e (curve_of curves k) → AreStraightsTo curves (k + 1) new more
    one_more s b ends = record {
      size = (let z = a.size in let x = new_size in let y = more_size in omega (arith, x, y, z));
      few = (let f = a.few in let x = new_size in omega (arith, f, x));
      each = λ m l. by_lt m (length edges)
          (λ (g : m < length edges). subst
          (λ (x : Edge). IsStraightEdge curves (k + 1) x (number_of more m))
          (sym (edge_front m g))
          (subst (λ (x : ℕ). IsStraightEdge curves (k + 1) (edge_of edges m) x)
          (sym (number_front m g))
          (kept curves k (edge_of edges m) (number_of numbers m) (a.each m g))))
          (λ (g : length edges ≤ m). let p = at_end m l g in
          subst (λ (x : Edge). IsStraightEdge curves (k + 1) x (number_of more m))
          (sym (edge_back m p))
          (subst (λ (x : ℕ). IsStraightEdge curves (k + 1) e x) (sym (number_back m p))
          (record { known = omega arith; kind = s; sorted = b; ends = ends })));
      rising = λ m n l g. by_lt n (length edges)
          (λ (h : n < length edges). let x = number_front m (omega (arith, l, h)) in
          let y = number_front n h in let z = a.size in
          let w = a.rising m n l (omega (arith, h, z)) in omega (arith, x, y, w))
          (λ (h : length edges ≤ n). let y = number_back n (at_last n g h) in
          let mm = front_of m n l g in let x = number_front m mm in
          let w = (a.each m mm).known in omega (arith, x, y, w));
      whole = λ i l t. by_lt i k
          (λ (g : i < k). let (m, lm, em) = a.whole i g t in
          (m, let x = new_size in omega (arith, lm, x), number_front m lm ∙ em))
          (λ (g : k ≤ i). (
            length edges,
            let x = new_size in
                omega (arith, x),
            number_back (length edges) refl ∙ sym (last i k l g),
          ));
    }
      where
        at_end : (m : ℕ) → m < length new → length edges ≤ m → m ≡ length edges
        at_end m l g = let x = new_size in omega (arith, l, g, x)

        at_last : (n : ℕ) → n < length more → length edges ≤ n → n ≡ length edges
        at_last n l g = let x = more_size in let z = a.size in omega (arith, l, g, x, z)

        front_of : (m n : ℕ) → m < n → n < length more → m < length edges
        front_of m n l g = let x = more_size in let z = a.size in omega (arith, l, g, x, z)

-- as the loop lends the curves
pub more_lent : (lent curves : List Curve) (k : ℕ) (edges : List Edge) (numbers : List ℕ) (e : Edge)
    (new : List Edge) (more : List ℕ)
    → lent ≡ curves → AreStraightsTo curves k edges numbers → new ≡ edges ++ e ∷ []
    → more ≡ numbers ++ k ∷ []
    → (curve_of lent k).kind ≡ kind.Straight → Before e.low e.high → IsEdgeOf e (curve_of lent k)
    → AreStraightsTo curves (k + 1) new more
more_lent lent curves k edges numbers e new more v a q r s b ends =
    one_more curves k edges numbers a e new more q r
    (subst (λ (cs : List Curve). (curve_of cs k).kind ≡ kind.Straight) v s) b
    (subst (λ (cs : List Curve). IsEdgeOf e (curve_of cs k)) v ends)

pub over_lent : (lent curves : List Curve) (k : ℕ) (edges : List Edge) (numbers : List ℕ)
    (new : List Edge) (more : List ℕ) (t : Bool)
    → lent ≡ curves → AreStraightsTo curves k edges numbers → new ≡ edges → more ≡ numbers
    → (IsTrue t ↔ ((curve_of lent k).kind ≡ kind.Straight)) → t ≡ false
    → AreStraightsTo curves (k + 1) new more
over_lent lent curves k edges numbers new more t v a q r h f =
    subst (λ (es : List Edge). AreStraightsTo curves (k + 1) es more) (sym q)
    (subst (λ (ns : List ℕ). AreStraightsTo curves (k + 1) edges ns) (sym r)
    (passed_over curves k edges numbers a
    (λ s. clash (sym f
    ∙ h.1 (subst (λ (cs : List Curve). (curve_of cs k).kind ≡ kind.Straight) (sym v) s)))))

pub whole_list : (curves : List Curve) (k : ℕ) (edges : List Edge) (numbers : List ℕ)
    → length curves ≤ k → k ≤ length curves → AreStraightsTo curves k edges numbers
    → AreStraightsTo curves (length curves) edges numbers
whole_list curves k edges numbers l m a =
    subst (λ (n : ℕ). AreStraightsTo curves n edges numbers) (omega (arith, l, m)) a

-- ---- the edges of a window
module _ (low high : Point) (curves : List Curve) (edges : List Edge) (numbers : List ℕ)
    (n : IsNarrow low high) (drawn : All (IsDrawn low high) curves)
    (a : AreStraightsTo curves (length curves) edges numbers) where
  pub all_sorted : AreSorted edges
  all_sorted m l = (a.each m l).sorted

  both_inside : (e : Edge) (c : Curve) → IsDrawn low high c → IsEdgeOf e c
      → IsInside low high e.low × IsInside low high e.high
  both_inside e c d (inl q) =
      (subst (IsInside low high) (sym q.0) d.from, subst (IsInside low high) (sym q.1) d.to)
  both_inside e c d (inr q) =
      (subst (IsInside low high) (sym q.0) d.to, subst (IsInside low high) (sym q.1) d.from)

  pub inside : (m : ℕ) → m < length edges
      → IsInside low high (edge_of edges m).low × IsInside low high (edge_of edges m).high
  inside m l =
      let s = a.each m l in
      both_inside (edge_of edges m) (curve_of curves (number_of numbers m))
      (drawn (number_of numbers m) _ s.known) s.ends

  pub all_close : AreAllClose edges
  all_close i j l m =
      let p = inside i l in
      let q = inside j m in
      window_close low high (edge_of edges i) (edge_of edges j) n p.0 p.1 q.0 q.1

-- ---- pairs
module _ (d : Plan) (edges : List Edge) (numbers : List ℕ)
    (e : AreStraightsTo d.curves (length d.curves) edges numbers) where
  pub pair_is_bad : (first second a b : ℕ) → AreBad edges a b → first ≡ number_of numbers a
      → second ≡ number_of numbers b → first < second → IsBadPair d first second
  pair_is_bad first second a b h f g l =
      let p = e.each a h.first in
      let q = e.each b h.second in
      let bad : CurvesAreBad (curve d (number_of numbers a)) (curve d (number_of numbers b)) =
      straights_meet
      ((bad_edges_is (edge_of edges a) (edge_of edges b) (curve d (number_of numbers a))
      (curve d (number_of numbers b)) p.ends q.ends p.kind q.kind).0 h.bad) in
      record {
        order = l;
        there = (let k = q.known in omega (arith, g, k));
        bad = subst (λ (i : ℕ). CurvesAreBad (curve d i) (curve d second)) (sym f)
            (subst (λ (j : ℕ). CurvesAreBad (curve d (number_of numbers a)) (curve d j))
            (sym g) bad);
      }

  pub none_is_bad : ((a b : ℕ) → a < length edges → b < length edges → (a ≡ b → ⊥)
      → Bad (edge_of edges a) (edge_of edges b) → ⊥)
      → (i j : ℕ) → AreBothStraight (curve d i) (curve d j) → IsBadPair d i j → ⊥
  none_is_bad clear i j s p = by_cases p.bad
    where
      first : i < length d.curves
      first = let o = p.order in let t = p.there in omega (arith, o, t)

      by_cases : CurvesAreBad (curve d i) (curve d j) → ⊥
      by_cases (straights_meet h) =
          let (m, lm, em) = e.whole i first s.0 in
          let (n, ln, en) = e.whole j p.there s.1 in
          let ends_m : IsEdgeOf (edge_of edges m) (curve d i) = subst
          (λ (k : ℕ). IsEdgeOf (edge_of edges m) (curve d k)) em (e.each m lm).ends in
          let ends_n : IsEdgeOf (edge_of edges n) (curve d j) = subst
          (λ (k : ℕ). IsEdgeOf (edge_of edges n) (curve d k)) en (e.each n ln).ends in
          clear m n lm ln (λ q. let o = p.order in
          let same = ap (λ (k : ℕ). number_of numbers k) q in omega (arith, o, em, en, same))
          ((bad_edges_is (edge_of edges m) (edge_of edges n) (curve d i)
          (curve d j) ends_m ends_n s.0 s.1).1 h)
      by_cases (end_meets h) =
          elim h.half_arc [
            | inl q ↦ not_half_arc (curve d i) s.0 q
            | inr q ↦ not_half_arc (curve d j) s.1 q
          ]
      by_cases (crossed (inl h)) = not_half_arc (curve d j) s.1 h.half_arc
      by_cases (crossed (inr h)) = not_half_arc (curve d i) s.0 h.half_arc
      by_cases (one_arc h) = not_half_arc (curve d i) s.0 h.first

pub lesser_number : (numbers : List ℕ) (m n a b : ℕ) → IsRising numbers → (m ≡ n → ⊥)
    → m < length numbers → n < length numbers → a ≡ number_of numbers m → b ≡ number_of numbers n
    → b ≤ a → b < a
lesser_number numbers m n a b up differ l k e f h =
    by_lt m n
    (λ (q : m < n). let w = up m n q k in absurd (omega (arith, w, e, f, h)))
    (λ (q : n ≤ m). let w = up n m (omega (arith, q, differ)) l in omega (arith, w, e, f))

-- ---- straights and half arcs
by_kind : {P : Type 0} (c : Curve) → (c.kind ≡ kind.Straight → P) → (c.kind ≡ kind.HalfArc → P) → P
by_kind {P} c f g = by c.kind f g
  where
    by : (k : CurveKind) → (k ≡ kind.Straight → P) → (k ≡ kind.HalfArc → P) → P
    by kind.Straight f g = f refl
    by kind.HalfArc f g = g refl

pub none_of_both : (d : Plan)
    → ((i j : ℕ) → AreBothStraight (curve d i) (curve d j) → IsBadPair d i j → ⊥)
    → ((i j : ℕ) → IsArcPair d i j → ⊥) → (i j : ℕ) → IsBadPair d i j → ⊥
none_of_both d f g i j p =
    by_kind (curve d i)
    (λ (s : (curve d i).kind ≡ kind.Straight). by_kind (curve d j)
    (λ (t : (curve d j).kind ≡ kind.Straight). f i j (s, t) p)
    (λ (t : (curve d j).kind ≡ kind.HalfArc). g i j (record { pair = p; half_arc = inr t })))
    (λ (s : (curve d i).kind ≡ kind.HalfArc). g i j (record { pair = p; half_arc = inl s }))
