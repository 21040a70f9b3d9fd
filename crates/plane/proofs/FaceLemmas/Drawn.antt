-- A drawing of straights and the edges of a run have the same places, segments that hit them and
-- joined places.
-- So what is proved of the edges of a run holds of the drawing in the words of the partition rule.
use Rattle.std.proofs.Common.{◌≡◌, ℕ, ◌<◌, length, ℤ, pos, ◌<ℤ◌, arith, subst, sym}
use Rattle.plane.specs.declared.kinds.Curve.{Curve}
use Rattle.plane.specs.declared.kinds.CurveKind.{CurveKind}
use Rattle.plane.specs.declared.kinds.CurveKind.TheVariants as kind
use Rattle.plane.specs.Forms.Vectors.{Vector, Place, Edge, rise, On, HitsEdge}
use Rattle.plane.specs.Rule.Curves.{IsOn, HitsKind}
use Rattle.plane.specs.Rule.Curves as curves
use Rattle.plane.specs.Rule.Plans.{Plan, curve}
use Rattle.plane.specs.Rule.Partition as rule
use Rattle.plane.specs.Rule.Partition.{IsClear}
use Rattle.plane.specs.Forms.Paths.{Path}
use Rattle.plane.specs.Forms.Paths as paths
use Rattle.plane.specs.Forms.Segments.{IsEdgeOf, AreEdgesOf}
use Rattle.plane.specs.Faces.Replays.{Replay, IsOffEdges}
use Rattle.plane.proofs.Runs.RunWords.{IsRun}
use Rattle.plane.specs.Faces.Cells.{IsFree, JoinedByEdges, arrives, goes}
use Rattle.plane.proofs.Strips.OuterWords.{IsOuterByEdges}
use Rattle.plane.proofs.FaceLemmas.EdgeCrossings.{IsCrossing}
use Rattle.plane.specs.Rule.CrossedCurves.{CrossesCurve}
use Rattle.std.proofs.lemmas.Int.{ints}
use Rattle.plane.proofs.Linear.EdgePlaces.{side-turn}
use Rattle.plane.proofs.Linear.Straights.{on_is, hits_is}
use Rattle.plane.proofs.Covers.CurveEdges.{on_edge_is}
use Rattle.plane.proofs.Covers.PathLists.{joined_is_path}
use Rattle.plane.proofs.Strips.ToTheRight.{off_end}

pub on_curve : (w : ℤ) (e : Edge) (c : Curve) (z : Vector) → IsEdgeOf e c → c.kind ≡ kind.Straight
    → pos 0 <ℤ rise w e → Place z → On w e z → IsOn c z
on_curve w e c z h k R Z on = (on_edge_is e c z h k Z).0 ((on_is w e z R Z).0 on)

pub on_edge : (w : ℤ) (e : Edge) (c : Curve) (z : Vector) → IsEdgeOf e c → c.kind ≡ kind.Straight
    → pos 0 <ℤ rise w e → Place z → IsOn c z → On w e z
on_edge w e c z h k R Z on = (on_is w e z R Z).1 ((on_edge_is e c z h k Z).1 on)

pub hits_curve : (w : ℤ) (e : Edge) (c : Curve) (p q : Vector) → IsEdgeOf e c
    → c.kind ≡ kind.Straight → pos 0 <ℤ rise w e → Place p → Place q → HitsEdge w p q e
    → curves.Hits c p q
hits_curve w e c p q h k R P Q hit =
    let x = (hits_is w e p q R P Q).0 hit in
    let on = (on_edge_is e c x.z h k x.place).0 x.of_edge in
    subst (λ (k : CurveKind). HitsKind k c p q) (sym k) (record {
      z = x.z;
      place = x.place;
      of_segment = x.of_segment;
      of_curve = subst (λ (k : CurveKind). curves.IsOnKind k c x.z) k on;
    })

pub hits_edge : (w : ℤ) (e : Edge) (c : Curve) (p q : Vector) → IsEdgeOf e c
    → c.kind ≡ kind.Straight → pos 0 <ℤ rise w e → Place p → Place q → curves.Hits c p q
    → HitsEdge w p q e
hits_edge w e c p q h k R P Q hit =
    let x = subst (λ (k : CurveKind). HitsKind k c p q) k hit in
    let on = (on_edge_is e c x.z h k x.place).1
    (subst (λ (k : CurveKind). curves.IsOnKind k c x.z) (sym k) x.of_curve) in
    (hits_is w e p q R P Q).1 (record {
      z = x.z;
      place = x.place;
      of_segment = x.of_segment;
      of_edge = on;
    })

-- the edges of the run are those of the drawing
pub record Draws (d : Plan) (r : Replay) : Type 0 where
  pub count : r.edges ≡ length d.curves
  pub edges : AreEdgesOf r.edge d

module _ (d : Plan) (r : Replay) (run : IsRun r) (draws : Draws d r) where
  edge_fits : (i : ℕ) → i < length d.curves → i < r.edges
  edge_fits i l = let e = draws.count in omega (arith, e, l)

  curve_fits : (i : ℕ) → i < r.edges → i < length d.curves
  curve_fits i l = let e = draws.count in omega (arith, e, l)

  pub off_edges : (z : Vector) → Place z → rule.IsOff d z → IsOffEdges r z
  off_edges z Z n i l on =
      let k = curve_fits i l in
      n i k (on_curve r.weight (r.edge i) (curve d i) z (draws.edges.edge i k)
      (draws.edges.straight i k) (run.rise i l) Z on)

  pub off_curves : (z : Vector) → Place z → IsOffEdges r z → rule.IsOff d z
  off_curves z Z n i l on =
      let k = edge_fits i l in
      n i k (on_edge r.weight (r.edge i) (curve d i) z (draws.edges.edge i l)
      (draws.edges.straight i l) (run.rise i k) Z on)

  pub clear_free : (p q : Vector) → Place p → Place q → IsClear d p q → IsFree r p q
  clear_free p q P Q m i l hit =
      let k = curve_fits i l in
      m i k (hits_curve r.weight (r.edge i) (curve d i) p q (draws.edges.edge i k)
      (draws.edges.straight i k) (run.rise i l) P Q hit)

  free_clear : (p q : Vector) → Place p → Place q → IsFree r p q → IsClear d p q
  free_clear p q P Q f i l hit =
      let k = edge_fits i l in
      f i k (hits_edge r.weight (r.edge i) (curve d i) p q (draws.edges.edge i l)
      (draws.edges.straight i l) (run.rise i k) P Q hit)

  path_joined : (p q : Vector) → Path d p q → Place p → JoinedByEdges r p q
  path_joined _ _ (paths.ends p q s n) P = arrives p q s
  path_joined _ _ (paths.goes p q s n Q m j) P =
      goes p q s Q (clear_free p q P Q m) (path_joined q s j Q)

  joined_path : (p q : Vector) → JoinedByEdges r p q → Place p → IsOffEdges r p → Path d p q
  joined_path _ _ (arrives p q s) P off = paths.ends p q s (off_curves p P off)
  joined_path _ _ (goes p q s Q f j) P off =
      paths.goes p q s (off_curves p P off) Q (free_clear p q P Q f)
      (joined_path q s j Q (off_end r p q P Q f))

  pub joined_edges : (p q : Vector) → Place p → rule.Joined d p q → JoinedByEdges r p q
  joined_edges p q P j = path_joined p q ((joined_is_path d p q P).0 j) P

  pub joined_curves : (p q : Vector) → Place p → IsOffEdges r p → JoinedByEdges r p q
      → rule.Joined d p q
  joined_curves p q P off j = (joined_is_path d p q P).1 (joined_path p q j P off)

  pub outer_edges : (p : Vector) → Place p → rule.IsOuter d p → IsOuterByEdges r p
  outer_edges p P o b = let x = o b in (x.0, x.1, joined_edges p x.0 P x.2, x.3)

  pub outer_curves : (p : Vector) → Place p → IsOffEdges r p → IsOuterByEdges r p → rule.IsOuter d p
  outer_curves p P off o b = let x = o b in (x.0, x.1, joined_curves p x.0 P off x.2, x.3)

  -- crossing segments, too, are the same
  pub crossing_curve : (i : ℕ) → i < length d.curves → (p q : Vector) → IsCrossing r i p q
      → CrossesCurve d (r.edge i) i p q
  crossing_curve i l p q x =
      let a = side-turn (r.edge i) p in
      let b = side-turn (r.edge i) q in
      let high = x.above in
      let low = x.below in
      record {
        p_place = x.p_place;
        q_place = x.q_place;
        p_off = off_curves p x.p_place x.p_off;
        q_off = off_curves q x.q_place x.q_off;
        above = omega (arith, ints, a, high);
        below = omega (arith, ints, b, low);
        hits = hits_curve r.weight (r.edge i) (curve d i) p q (draws.edges.edge i l)
            (draws.edges.straight i l) (run.rise i (edge_fits i l)) x.p_place x.q_place x.hits;
        clear = λ j k n h. let f = edge_fits j k in
            x.clear j f n
            (hits_edge r.weight (r.edge j) (curve d j) p q (draws.edges.edge j k)
            (draws.edges.straight j k) (run.rise j f) x.p_place x.q_place h);
      }

  pub crossing_edge : (i : ℕ) → i < length d.curves → (p q : Vector)
      → CrossesCurve d (r.edge i) i p q → IsCrossing r i p q
  crossing_edge i l p q x =
      let a = side-turn (r.edge i) p in
      let b = side-turn (r.edge i) q in
      let high = x.above in
      let low = x.below in
      record {
        p_place = x.p_place;
        q_place = x.q_place;
        p_off = off_edges p x.p_place x.p_off;
        q_off = off_edges q x.q_place x.q_off;
        above = omega (arith, ints, a, high);
        below = omega (arith, ints, b, low);
        hits = hits_edge r.weight (r.edge i) (curve d i) p q (draws.edges.edge i l)
            (draws.edges.straight i l) (run.rise i (edge_fits i l)) x.p_place x.q_place x.hits;
        clear = λ j k n h. let f = curve_fits j k in
            x.clear j f n
            (hits_curve r.weight (r.edge j) (curve d j) p q (draws.edges.edge j f)
            (draws.edges.straight j f) (run.rise j k) x.p_place x.q_place h);
      }
