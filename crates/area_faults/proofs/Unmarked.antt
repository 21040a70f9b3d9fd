-- The edges of the curves that are not marked, and what a sweep of them shows.
use Rattle.std.proofs.Common.{◌≡◌, ◌↔◌, inl, inr, Bool, true, false, IsTrue, ℕ, zero, suc, ◌+◌, ◌<◌}
use Rattle.std.proofs.Common.{◌≤◌, List, [], ◌∷◌, ◌++◌, length, get_or, replicate, refl, arith, ap}
use Rattle.std.proofs.Common.{sym, ◌∙◌, subst, All}
use Rattle.std.proofs.lemmas.List.{length-append, length-replicate, get_or_append_left}
use Rattle.std.proofs.Math.Seq.{get_or-append_seam}
use Rattle.plane.specs.declared.kinds.Point.{Point}
use Rattle.plane.specs.declared.kinds.Curve.{Curve}
use Rattle.plane.specs.declared.kinds.CurveKind.{CurveKind}
use Rattle.plane.specs.declared.kinds.CurveKind.TheVariants as kind
use Rattle.plane.specs.declared.kinds.Edge.{Edge}
use Rattle.plane.specs.Forms.Meets.{Bad}
use Rattle.plane.specs.Forms.Segments.{IsEdgeOf}
use Rattle.plane.specs.Forms.Vectors.{Before}
use Rattle.plane.specs.Rule.BadPairs.{AreBad, StraightsMeet, straights_meet, end_meets, crossed}
use Rattle.plane.specs.Rule.BadPairs.{one_arc, IsBadPair}
use Rattle.plane.specs.Rule.Plans.{Plan, curve}
use Rattle.plane.specs.Rule.Windows.{IsDrawn, IsInside, IsNarrow}
use Rattle.plane.proofs.Covers.CurveEdges.{bad_edges_is}
use Rattle.straight_predicates.specs.EdgeLists.{edge_of, no_edge, AreSorted, AreAllClose}
use Rattle.straight_predicates.proofs.Orders.{by_lt}
use Rattle.straight_predicates.proofs.WindowEdges.{window_close}
use Rattle.near_pairs.specs.Boxes.{mark_of}
use Rattle.meetings.specs.CurvePairs.{AreBothStraight}
use Rattle.meetings.specs.StraightEdges.{curve_of}
use Rattle.meetings.proofs.BadCurves.{not_half_arc}
use Rattle.meetings.proofs.Choices.{clash, last}
use Rattle.area_faults.specs.MeetingMarks.{AreMeetingMarks, AreMoreMarks, AreUnmarkedTo}
use Rattle.area_faults.specs.MeetingMarks.{HasArcMarks, IsCurveEdge}

abbrev number_of : List ℕ → ℕ → ℕ
number_of numbers m = get_or numbers m 0

-- what is not unmarked is marked
pub refuted_mark : (marks : List Bool) (i : ℕ) (r : Bool) → (IsTrue r ↔ (mark_of marks i ≡ false))
    → r ≡ false → mark_of marks i ≡ true
refuted_mark marks i r h f = by (mark_of marks i) (λ e. clash (sym f ∙ h.1 e))
  where
    by : (b : Bool) → (b ≡ false → b ≡ true) → b ≡ true
    by true g = refl
    by false g = g refl

-- ---- one curve more
pub none_yet : (curves : List Curve) (marks : List Bool) (edges : List Edge) (numbers : List ℕ)
    → edges ≡ [] → numbers ≡ [] → AreUnmarkedTo curves marks 0 edges numbers
none_yet curves marks edges numbers e f =
    let s = ap length e in
    let t = ap length f in
    record {
      size = omega (arith, s, t);
      few = omega (arith, s);
      each = λ m l. absurd (omega (arith, l, s));
      whole = λ i l. absurd (omega (arith, l));
    }

kept : (curves : List Curve) (k : ℕ) (e : Edge) (n : ℕ) → IsCurveEdge curves k e n
    → IsCurveEdge curves (k + 1) e n
kept curves k e n s = record {
  known = (let l = s.known in omega (arith, l));
  sorted = s.sorted;
  ends = s.ends;
}

module _ (curves : List Curve) (marks : List Bool) (k : ℕ) (edges : List Edge) (numbers : List ℕ)
    (a : AreUnmarkedTo curves marks k edges numbers) where
  pub passed_over : mark_of marks k ≡ true → (edges2 : List Edge) (numbers2 : List ℕ)
      → edges2 ≡ edges → numbers2 ≡ numbers → AreUnmarkedTo curves marks (k + 1) edges2 numbers2
  passed_over t edges2 numbers2 q r =
      subst (λ (es : List Edge). AreUnmarkedTo curves marks (k + 1) es numbers2) (sym q)
      (subst (λ (ns : List ℕ). AreUnmarkedTo curves marks (k + 1) edges ns) (sym r) (record {
        size = a.size;
        few = (let f = a.few in omega (arith, f));
        each = λ m l. kept curves k (edge_of edges m) (number_of numbers m) (a.each m l);
        whole = λ i l s. by_lt i k (λ (b : i < k). a.whole i b s)
            (λ (b : k ≤ i). clash (sym (subst (λ (j : ℕ). mark_of marks j ≡ false) (last i k l b) s)
            ∙ t));
      }))

  module _ (e : Edge) (new : List Edge) (more : List ℕ) (q : new ≡ edges ++ e ∷ [])
      (r : more ≡ numbers ++ k ∷ []) where
    new_size : length new ≡ length edges + 1
    new_size = ap length q ∙ length-append edges (e ∷ [])

    more_size : length more ≡ length numbers + 1
    more_size = ap length r ∙ length-append numbers (k ∷ [])

    edge_front : (m : ℕ) → m < length edges → edge_of new m ≡ edge_of edges m
    edge_front m l = ap (λ es. edge_of es m) q ∙ get_or_append_left edges (e ∷ []) no_edge m l

    edge_back : (m : ℕ) → m ≡ length edges → edge_of new m ≡ e
    edge_back m l = ap (λ es. edge_of es m) q ∙ ap (λ (j : ℕ). edge_of (edges ++ e ∷ []) j) l
        ∙ get_or-append_seam edges e [] no_edge

    number_front : (m : ℕ) → m < length edges → number_of more m ≡ number_of numbers m
    number_front m l = ap (λ ns. number_of ns m) r
        ∙ get_or_append_left numbers (k ∷ []) 0 m (let z = a.size in omega (arith, l, z))

    number_back : (m : ℕ) → m ≡ length edges → number_of more m ≡ k
    number_back m l = ap (λ ns. number_of ns m) r
        ∙ ap (λ (j : ℕ). number_of (numbers ++ k ∷ []) j) (l ∙ sym a.size)
        ∙ get_or-append_seam numbers k [] 0

    pub one_more : Before e.low e.high → IsEdgeOf e (curve_of curves k)
        → AreUnmarkedTo curves marks (k + 1) new more
    one_more b ends = record {
      size = (let z = a.size in let x = new_size in let y = more_size in omega (arith, x, y, z));
      few = (let f = a.few in let x = new_size in omega (arith, f, x));
      each = λ m l. by_lt m (length edges)
          (λ (g : m < length edges). subst
          (λ (x : Edge). IsCurveEdge curves (k + 1) x (number_of more m)) (sym (edge_front m g))
          (subst (λ (x : ℕ). IsCurveEdge curves (k + 1) (edge_of edges m) x)
          (sym (number_front m g))
          (kept curves k (edge_of edges m) (number_of numbers m) (a.each m g))))
          (λ (g : length edges ≤ m). let p = at_end m l g in
          subst (λ (x : Edge). IsCurveEdge curves (k + 1) x (number_of more m))
          (sym (edge_back m p))
          (subst (λ (x : ℕ). IsCurveEdge curves (k + 1) e x) (sym (number_back m p))
          (record { known = omega arith; sorted = b; ends = ends })));
      whole = λ i l t. by_lt i k
          (λ (g : i < k). let (m, lm, em) = a.whole i g t in
          (m, let x = new_size in omega (arith, lm, x), number_front m lm ∙ em))
          (λ (g : k ≤ i). (
            length edges,
            let x = new_size in
                omega (arith, x),
            number_back (length edges) refl ∙ sym (last i k l g),
          ));
    }
      where
        at_end : (m : ℕ) → m < length new → length edges ≤ m → m ≡ length edges
        at_end m l g = let x = new_size in omega (arith, l, g, x)

pub all_curves : (curves : List Curve) (marks : List Bool) (k : ℕ) (edges : List Edge)
    (numbers : List ℕ)
    → length curves ≤ k → k ≤ length curves → AreUnmarkedTo curves marks k edges numbers
    → AreUnmarkedTo curves marks (length curves) edges numbers
all_curves curves marks k edges numbers l m a =
    subst (λ (n : ℕ). AreUnmarkedTo curves marks n edges numbers) (omega (arith, l, m)) a

-- ---- the edges of a window
module _ (low high : Point) (curves : List Curve) (marks : List Bool) (edges : List Edge)
    (numbers : List ℕ) (a : AreUnmarkedTo curves marks (length curves) edges numbers) where
  pub all_sorted : AreSorted edges
  all_sorted m l = (a.each m l).sorted

  both_inside : (e : Edge) (c : Curve) → IsDrawn low high c → IsEdgeOf e c
      → IsInside low high e.low × IsInside low high e.high
  both_inside e c d (inl q) =
      (subst (IsInside low high) (sym q.0) d.from, subst (IsInside low high) (sym q.1) d.to)
  both_inside e c d (inr q) =
      (subst (IsInside low high) (sym q.0) d.to, subst (IsInside low high) (sym q.1) d.from)

  inside : All (IsDrawn low high) curves → (m : ℕ) → m < length edges
      → IsInside low high (edge_of edges m).low × IsInside low high (edge_of edges m).high
  inside drawn m l =
      let s = a.each m l in
      both_inside (edge_of edges m) (curve_of curves (number_of numbers m))
      (drawn (number_of numbers m) _ s.known) s.ends

  pub all_close : IsNarrow low high → All (IsDrawn low high) curves → AreAllClose edges
  all_close n drawn i j l m =
      let p = inside drawn i l in
      let q = inside drawn j m in
      window_close low high (edge_of edges i) (edge_of edges j) n p.0 p.1 q.0 q.1

-- ---- pairs
pub straights_only : (c e : Curve) → AreBothStraight c e → AreBad c e → StraightsMeet c e
straights_only c e k (straights_meet m) = m
straights_only c e k (end_meets m) =
    elim m.half_arc [
      | inl q ↦ absurd (not_half_arc c k.0 q)
      | inr q ↦ absurd (not_half_arc e k.1 q)
    ]
straights_only c e k (crossed (inl m)) = absurd (not_half_arc e k.1 m.half_arc)
straights_only c e k (crossed (inr m)) = absurd (not_half_arc c k.0 m.half_arc)
straights_only c e k (one_arc m) = absurd (not_half_arc c k.0 m.first)

by_kind : {P : Type 0} (c : Curve) → (c.kind ≡ kind.Straight → P) → (c.kind ≡ kind.HalfArc → P) → P
by_kind {P} c f g = by c.kind f g
  where
    by : (k : CurveKind) → (k ≡ kind.Straight → P) → (k ≡ kind.HalfArc → P) → P
    by kind.Straight f g = f refl
    by kind.HalfArc f g = g refl

by_mark : {P : Type 0} (marks : List Bool) (i : ℕ) → (mark_of marks i ≡ true → P)
    → (mark_of marks i ≡ false → P) → P
by_mark {P} marks i f g = by (mark_of marks i) f g
  where
    by : (b : Bool) → (b ≡ true → P) → (b ≡ false → P) → P
    by true f g = f refl
    by false f g = g refl

module _ (d : Plan) (marks : List Bool) (edges : List Edge) (numbers : List ℕ)
    (arcs : HasArcMarks d marks)
    (e : AreUnmarkedTo d.curves marks (length d.curves) edges numbers) where
  -- a curve that is not marked is a straight
  straight : (i : ℕ) → i < length d.curves → mark_of marks i ≡ false
      → (curve d i).kind ≡ kind.Straight
  straight i l f =
      by_kind (curve d i) (λ (s : (curve d i).kind ≡ kind.Straight). s)
      (λ (h : (curve d i).kind ≡ kind.HalfArc). clash (sym f ∙ arcs.half_arc i l h))

  pub marks_are_enough : ((a b : ℕ) → a < length edges → b < length edges → (a ≡ b → ⊥)
      → Bad (edge_of edges a) (edge_of edges b) → ⊥)
      → AreMeetingMarks d marks
  marks_are_enough clear = record {
    size = arcs.size;
    pairs = λ i j p. by_mark marks i (λ (m : mark_of marks i ≡ true). inl m)
        (λ (f : mark_of marks i ≡ false). by_mark marks j (λ (m : mark_of marks j ≡ true). inr m)
        (λ (g : mark_of marks j ≡ false). absurd (none i j p f g)));
  }
    where
      none : (i j : ℕ) → IsBadPair d i j → mark_of marks i ≡ false → mark_of marks j ≡ false → ⊥
      none i j p f g =
          let o = p.order in
          let t = p.there in
          let first : i < length d.curves = omega (arith, o, t) in
          let si = straight i first f in
          let sj = straight j t g in
          let h = straights_only (curve d i) (curve d j) (si, sj) p.bad in
          let (m, lm, em) = e.whole i first f in
          let (n, ln, en) = e.whole j t g in
          let ends_m : IsEdgeOf (edge_of edges m) (curve d i) = subst
          (λ (k : ℕ). IsEdgeOf (edge_of edges m) (curve d k)) em (e.each m lm).ends in
          let ends_n : IsEdgeOf (edge_of edges n) (curve d j) = subst
          (λ (k : ℕ). IsEdgeOf (edge_of edges n) (curve d k)) en (e.each n ln).ends in
          clear m n lm ln (λ q. let same = ap (λ (k : ℕ). number_of numbers k) q in
          omega (arith, o, em, en, same))
          ((bad_edges_is (edge_of edges m) (edge_of edges n) (curve d i)
          (curve d j) ends_m ends_n si sj).1 h)

-- ---- marks
pub more_arc_marks : (d : Plan) (before after : List Bool) → HasArcMarks d before
    → AreMoreMarks before after → HasArcMarks d after
more_arc_marks d before after a m =
    record { size = m.size ∙ a.size; half_arc = λ i l h. m.kept i (a.half_arc i l h) }

pub all_are_enough : (d : Plan) (n : ℕ) (marks : List Bool) → n ≡ length d.curves
    → marks ≡ replicate n true → AreMeetingMarks d marks
all_are_enough d n marks e f = record {
  size = ap length f ∙ length-replicate n true ∙ e;
  pairs = λ i j p. inr (ap (λ ms. mark_of ms j) f
      ∙ all n j (let t = p.there in omega (arith, t, e)));
}
  where
    all : (n j : ℕ) → j < n → mark_of (replicate n true) j ≡ true
    all zero j l = absurd (omega (arith, l))
    all (suc n) zero l = refl
    all (suc n) (suc j) l = all n j (omega (arith, l))

-- marks of either list, as far as number k
pub record AreMoreTo (first : List Bool) (k : ℕ) (marks : List Bool) : Type 0 where
  pub size : length marks ≡ k
  pub kept : (i : ℕ) → i < k → mark_of first i ≡ true → mark_of marks i ≡ true

pub more_one : (first : List Bool) (k : ℕ) (marks new : List Bool) (b : Bool)
    → AreMoreTo first k marks → new ≡ marks ++ b ∷ [] → (mark_of first k ≡ true → b ≡ true)
    → AreMoreTo first (k + 1) new
more_one first k marks new b a q h = record {
  size = (let s = ap length q ∙ length-append marks (b ∷ []) in let z = a.size in
      omega (arith, s, z));
  kept = λ i l t. by_lt i k
      (λ (m : i < k). front i m ∙ a.kept i m t)
      (λ (m : k ≤ i). back i (last i k l m)
      ∙ h (subst (λ (j : ℕ). mark_of first j ≡ true) (last i k l m) t));
}
  where
    front : (i : ℕ) → i < k → mark_of new i ≡ mark_of marks i
    front i m = ap (λ ms. mark_of ms i) q
        ∙ get_or_append_left marks (b ∷ []) false i (let z = a.size in omega (arith, m, z))

    back : (i : ℕ) → i ≡ k → mark_of new i ≡ b
    back i m = ap (λ ms. mark_of ms i) q
        ∙ ap (λ (j : ℕ). mark_of (marks ++ b ∷ []) j) (m ∙ sym a.size)
        ∙ get_or-append_seam marks b [] false

pub more_all : (first : List Bool) (k : ℕ) (marks : List Bool) → length first ≤ k → k ≤ length first
    → AreMoreTo first k marks → AreMoreMarks first marks
more_all first k marks l m a = record {
  size = (let z = a.size in omega (arith, z, l, m));
  kept = λ i t. a.kept i (omega (arith, l, there first i t)) t;
}
  where
    there : (bs : List Bool) (i : ℕ) → mark_of bs i ≡ true → i < length bs
    there [] i t = clash t
    there (b ∷ bs) zero t = omega arith
    there (b ∷ bs) (suc i) t = let r = there bs i t in omega (arith, r)
