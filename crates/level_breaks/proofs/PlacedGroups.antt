-- Two curves with their tubes in one window: their corners are close, and their edges can be
-- tested.
use Rattle.std.proofs.Common.{◌≡◌, inr, ℕ, suc, ◌<◌, Option, Some, None, List, [], ◌∷◌, ◌++◌}
use Rattle.std.proofs.Common.{length, arith, ap, sym, ◌∙◌, subst}
use Rattle.std.proofs.lemmas.List.{length-append}
use Rattle.plane.specs.CurveRuns.TubedRuns as runs
use Rattle.plane.specs.Forms.Boxes.{Box}
use Rattle.plane.specs.Forms.Meets.{IsEnd}
use Rattle.plane.specs.Lists.{Each, Has}
use Rattle.plane.specs.Rule.Curves.{arc}
use Rattle.plane.specs.Rule.Windows.{IsDrawn, IsNarrow}
use Rattle.plane.specs.declared.kinds.Curve.{Curve}
use Rattle.plane.specs.declared.kinds.CurveKind.TheVariants as kind
use Rattle.plane.specs.declared.kinds.Edge.{Edge}
use Rattle.plane.specs.declared.kinds.Point.{Point}
use Rattle.straight_predicates.proofs.WindowEdges.{inside_close}
use Rattle.straight_predicates.specs.EdgeLists.{edge_of, no_edge, no_point}
use Rattle.straight_predicates.specs.Meetings.{AreClose, EdgesAreClose}
use Rattle.near_pairs.specs.Boxes.{box_of}
use Rattle.tubes.specs.TubedEdges.{HasTube, bays_at, edge_as}
use Rattle.tubes.specs.declared.kinds.Tube.{Tube}
use Rattle.tubes.proofs.UsableEdges.{IsAbout, IsGood, about_close, about_each, each_map, edge_at}
use Rattle.tubes.proofs.UsableEdges.{good_curve, inside_about}
use Rattle.level_breaks.specs.GroupBreaks.{IsChordJudged}
use Rattle.level_breaks.specs.Parts.{AreTurnableAt, HoldsPart, HoldsTubePart, IsBeside}
use Rattle.level_breaks.specs.Stretches.{IsPlaced, IsStretch}
use Rattle.level_breaks.specs.declared.halves.Stretch.{Stretch}
use Rattle.level_breaks.specs.Groups.{AreGroups, HoldsAll, HoldsPoint, IsEdged, IsTubed, bays_of}
use Rattle.level_breaks.specs.Groups.{corners, edges_with, nth}
use Rattle.level_breaks.specs.declared.groups.Group.{Group}
use Rattle.level_breaks.proofs.GroupEdges.{at_has, edged_with, edges_map, ends_are, has_left}
use Rattle.level_breaks.proofs.GroupEdges.{to_is_inner}
use Rattle.tubes.proofs.TubeTriangles.{made_turnable}
use Rattle.level_breaks.proofs.TubePlaces.{each_has}

two_kinds : {P : Type 0} → kind.Straight ≡ kind.HalfArc → P
two_kinds e = cc

each_joined : (P : Point → Type 0) (xs ys : List Point) → Each P xs → Each P ys → Each P (xs ++ ys)
each_joined P [] ys h k = k
each_joined P (x ∷ xs) ys h k = (h.0, each_joined P xs ys h.1 k)

each_front : (P : Point → Type 0) (xs ys : List Point) → Each P (xs ++ ys) → Each P xs
each_front P [] ys h = tt
each_front P (x ∷ xs) ys h = (h.0, each_front P xs ys h.1)

each_back : (P : Point → Type 0) (xs ys : List Point) → Each P (xs ++ ys) → Each P ys
each_back P [] ys h = h
each_back P (x ∷ xs) ys h = each_back P xs ys h.1

each_mapped : (P Q : Point → Type 0) (xs : List Point) → ((p : Point) → P p → Q p) → Each P xs
    → Each Q xs
each_mapped P Q [] f h = tt
each_mapped P Q (x ∷ xs) f h = (f x h.0, each_mapped P Q xs f h.1)

pub each_nth : (P : Point → Type 0) (ps : List Point) (k : ℕ) → Each P ps → k < length ps
    → P (nth ps k)
each_nth P ps k h l = each_has P ps (nth ps k) h (at_has no_point ps k l)

-- ---- one curve
module _ (low high : Point) (level : ℕ) where
  pub about_corners : (c : Curve) (t : Option Tube) → IsDrawn low high c → IsTubed level c t
      → Each (IsAbout low high) (corners c t)
  about_corners c None d e =
      (inside_about low high c.from d.from, (inside_about low high c.to d.to, tt))
  about_corners c (Some t) d (e, m) =
      each_joined (IsAbout low high) t.inner.items t.outer.items
      (subst (Each (IsAbout low high)) (sym m.inner) (
        inside_about low high c.from d.from,
        about_each low high c.from m.after d.from m.tube.inner_near,
      ))
      (about_each low high c.from t.outer.items d.from m.tube.outer_near)

  has_tube : (c : Curve) (t : Option Tube) → IsTubed level c t → c.kind ≡ kind.HalfArc
      → HasTube (arc c) level
  has_tube c None s e = two_kinds (sym s ∙ e)
  has_tube c (Some t) s e = (s.1.after, t.outer.items, s.1.tube)

  pub good_edges : (c : Curve) (t : Option Tube) → IsDrawn low high c → IsTubed level c t → (k : ℕ)
      → k < length (edges_with c t) → IsGood low high (edge_of (edges_with c t) k)
  good_edges c t d h k l =
      let all = each_map (IsGood low high) edge_as
      (runs.edges_of 0 c.kind c (bays_at (arc c) level))
      (good_curve low high 0 c level d (has_tube c t h)) in
      edge_at low high (edges_with c t) k l
      (subst (Each (IsGood low high)) (edges_map 0 level c t h) all)

  -- the ends of an edge of a number are corners
  pub end_has : (c : Curve) (t : Option Tube) (k : ℕ) (p : Point) → IsTubed level c t
      → k < length (edges_with c t) → IsEnd (edge_of (edges_with c t) k) p → Has p (corners c t)
  end_has c t k p h l e =
      (ends_are level c t p h).0 (
        edge_of (edges_with c t) k,
        at_has no_edge (edges_with c t) k l,
        e,
      )

good_close : (low high : Point) (a b : Edge) → IsNarrow low high → IsGood low high a
    → IsGood low high b → EdgesAreClose a b
good_close low high a b n g h =
    let close = about_close low high in record {
      first = close _ _ n g.first g.second;
      second = close _ _ n h.first h.second;
      low_low = close _ _ n g.first h.first;
      low_high = close _ _ n g.first h.second;
      high_low = close _ _ n g.second h.first;
      high_high = close _ _ n g.second h.second;
    }

-- ---- two curves
pub groups_back : (g h : Group) → AreGroups g h → AreGroups h g
groups_back g h a = record {
  low = a.low;
  high = a.high;
  level = a.next;
  next = a.level;
  narrow = a.narrow;
  few = a.next_few;
  next_few = a.few;
  first = a.second;
  second = a.first;
}

pub first_edged : (g h : Group) → AreGroups g h → IsEdged g.curve.now g.tube.now
first_edged g h a =
    edged_with a.low a.high a.level g.curve.now g.tube.now a.few a.first.drawn a.first.tubed

pub second_edged : (g h : Group) → AreGroups g h → IsEdged h.curve.now h.tube.now
second_edged g h a =
    edged_with a.low a.high a.next h.curve.now h.tube.now a.next_few a.second.drawn a.second.tubed

pub beside : (g h : Group) (k : ℕ) → AreGroups g h → k < length (edges_with g.curve.now g.tube.now)
    → IsBeside (edge_of (edges_with g.curve.now g.tube.now) k) (edges_with h.curve.now h.tube.now)
beside g h k a l =
    let mine = good_edges a.low a.high a.level g.curve.now g.tube.now a.first.drawn a.first.tubed k
    l in
    let other = good_edges a.low a.high a.next h.curve.now h.tube.now a.second.drawn
    a.second.tubed in
    let es = edges_with h.curve.now h.tube.now in record {
      sorted = mine.sorted;
      rising = λ m lm. (other m lm).sorted;
      close = λ m lm. good_close a.low a.high (edge_of (edges_with g.curve.now g.tube.now) k)
          (edge_of es m) a.narrow mine (other m lm);
    }

pub turnable_at : (g h : Group) (t : Tube) → AreGroups g h → h.tube.now ≡ Some t
    → AreTurnableAt t (edges_with g.curve.now g.tube.now)
turnable_at g h t a e k l p end =
    let has = end_has a.low a.high a.level g.curve.now g.tube.now k p a.first.tubed l end in
    let about = each_has (IsAbout a.low a.high) (corners g.curve.now g.tube.now) p
    (about_corners a.low a.high a.level g.curve.now g.tube.now a.first.drawn a.first.tubed)
    has in
    let tubed = subst (IsTubed a.next h.curve.now) e a.second.tubed in
    let mine = about_corners a.low a.high a.next h.curve.now (Some t) a.second.drawn tubed in
    let close = each_mapped (IsAbout a.low a.high) (λ q. AreClose q p)
    (corners h.curve.now (Some t)) (λ q b. about_close a.low a.high q p a.narrow b about)
    mine in
    made_turnable t p (arc h.curve.now, a.next, tubed.1)
    (each_front (λ q. AreClose q p) t.inner.items t.outer.items close)
    (each_back (λ q. AreClose q p) t.inner.items t.outer.items close)

-- all parts are in the curve's box
tube_parts_held : (b : Box) (c : Curve) (t : Tube) → IsEdged c (Some t)
    → HoldsAll b (corners c (Some t)) → Has c.to t.inner.items → (i : ℕ)
    → i < suc (length t.outer.items) → HoldsTubePart c t b i
tube_parts_held b c t h all to i l =
    let n = ap length h.inner in
    let z = h.sizes in
    let inner : (k : ℕ) → k < length t.inner.items
    → HoldsPoint b (nth t.inner.items k) =
    λ k m. held (nth t.inner.items k)
    (has_left (nth t.inner.items k) t.inner.items t.outer.items
    (at_has no_point t.inner.items k m)) in
    let from : HoldsPoint b c.from = subst (λ (ps : List Point). HoldsPoint b (nth ps 0)) h.inner
    (inner 0 (omega (arith, n))) in
    record {
      inner = inner i (omega (arith, n, z, l));
      next = λ m. inner (suc i) (omega (arith, n, z, m));
      start = each_nth (HoldsPoint b) (c.from ∷ t.outer.items) i
          (from, each_back (HoldsPoint b) t.inner.items t.outer.items all) l;
      end = each_nth (HoldsPoint b) (t.outer.items ++ c.to ∷ []) i
          (each_joined (HoldsPoint b) t.outer.items (c.to ∷ [])
          (each_back (HoldsPoint b) t.inner.items t.outer.items all)
          (held c.to (has_left c.to t.inner.items t.outer.items to), tt)) (let m =
          length-append t.outer.items (c.to ∷ []) in omega (arith, m, l));
    }
  where
    held : (p : Point) → Has p (corners c (Some t)) → HoldsPoint b p
    held p h = each_has (HoldsPoint b) (corners c (Some t)) p all h

pub parts_held : (level : ℕ) (b : Box) (c : Curve) (t : Option Tube) → IsTubed level c t
    → IsEdged c t → HoldsAll b (corners c t) → IsPlaced (HoldsPart c t b) 0 (suc (bays_of t))
parts_held level b c None k h all i f l = (all.0, all.1.0)
parts_held level b c (Some t) (k, m) h all i f l =
    tube_parts_held b c t h all (subst (Has c.to) (sym m.inner) (inr (to_is_inner level c t m))) i l

whole_is : (b : Box) (c : Curve) (t : Option Tube) (s : Stretch)
    → IsPlaced (HoldsPart c t b) 0 (suc (bays_of t)) → s.from ≡ 0 → s.to ≡ suc (bays_of t)
    → box_of s.reach ≡ b → IsStretch (HoldsPart c t) (suc (bays_of t)) s
whole_is b c t s p f g e = record {
  order = omega (arith, f);
  there = omega (arith, g);
  placed = λ i l m. subst (λ (x : Box). HoldsPart c t x i) (sym e)
      (p i (omega (arith, l)) (omega (arith, m, g)));
}

pub whole_first : (g h : Group) (s : Stretch) → AreGroups g h → s.from ≡ 0
    → s.to ≡ suc (bays_of g.tube.now) → s.reach ≡ g.reach
    → IsStretch (HoldsPart g.curve.now g.tube.now) (suc (bays_of g.tube.now)) s
whole_first g h s a f to e =
    whole_is (box_of g.reach) g.curve.now g.tube.now s
    (parts_held a.level (box_of g.reach) g.curve.now g.tube.now a.first.tubed
    (first_edged g h a) a.first.holds) f to (ap box_of e)

pub whole_second : (g h : Group) (s : Stretch) → AreGroups g h → s.from ≡ 0
    → s.to ≡ suc (bays_of h.tube.now) → s.reach ≡ h.reach
    → IsStretch (HoldsPart h.curve.now h.tube.now) (suc (bays_of h.tube.now)) s
whole_second g h s a f to e = whole_first h g s (groups_back g h a) f to e

pub chord_judged : (g h : Group) (t : Tube) → AreGroups g h → h.tube.now ≡ Some t
    → IsChordJudged h.curve.now t.inner.items
chord_judged g h t a e =
    let c = h.curve.now in
    let d = a.second.drawn in
    let tubed = subst (IsTubed a.next c) e a.second.tubed in
    let about = each_front (IsAbout a.low a.high) t.inner.items t.outer.items
    (about_corners a.low a.high a.next c (Some t) d tubed) in
    record {
      ends = inside_close a.low a.high c.from c.to a.narrow d.from d.to;
      third = inside_close a.low a.high c.from c.third a.narrow d.from d.third;
      points = λ k l. about_close a.low a.high c.from (nth t.inner.items k) a.narrow
          (inside_about a.low a.high c.from d.from)
          (each_nth (IsAbout a.low a.high) t.inner.items k about l);
    }
