-- A place of a tube is joined to a place beyond each edge of its side. Outside the tubes, places
-- joined off the edges are joined off the curves.
use Rattle.std.proofs.Common.{◌≡◌, ℕ, ◌<◌, ◌∷◌, ℤ, pos, ◌+ℤ◌, ◌*ℤ◌, ◌<ℤ◌, ◌≤ℤ◌, [], inl, inr, refl}
use Rattle.std.proofs.Common.{arith, ap, sym, ◌∙◌, subst}
use Rattle.std.proofs.lemmas.Int.{ints, by_lt_z}
use Rattle.plane.specs.Lists.{Has}
use Rattle.plane.specs.Forms.Vectors.{Vector, Place, Same, mix, On}
use Rattle.plane.specs.Faces.Replays.{Replay, IsOffEdges}
use Rattle.plane.specs.Faces.Cells.{Sector, IsSector, sector, Linked, IsFree, JoinedByEdges}
use Rattle.plane.specs.Faces.Cells.{arrives, label_of}
use Rattle.plane.specs.Faces.Cells as cells
use Rattle.plane.specs.Faces.Halves.{Half, under, over, edge_of, twin, mark, Beside, IsMatched}
use Rattle.plane.specs.Faces.Labels.{Labels}
use Rattle.plane.specs.Tubes.Windings.{tiles}
use Rattle.plane.specs.CurveRuns.Extended.{Tubes, InTubeAt, AtArcEnd, AreTubes, IsOnWay}
use Rattle.plane.specs.CurveRuns.Extended.{IsFreeOfCurves}
use Rattle.plane.proofs.TubePaths.PieceWords.{Side, IsOnSide, side_label, IsSideWall, PathIn}
use Rattle.plane.proofs.TubePaths.PieceWords.{IsInSide, AreSides, CurvePath}
use Rattle.plane.proofs.TubePaths.PieceWords as paths
use Rattle.plane.proofs.Algebra.Ring.{at, plus, times, vars, ring}
use Rattle.plane.proofs.Linear.Signs.{mix_place}
use Rattle.plane.proofs.Linear.Clear.{mix_back, mix_clear, on_same}
use Rattle.plane.proofs.Strips.ToTheRight.{off_start, off_end}
use Rattle.plane.proofs.Strips.OneStrip.{segment_linked}
use Rattle.plane.proofs.Strips.Columns.{cell_is}
use Rattle.plane.proofs.LabelLemmas.HalfLabels.{linked_label, upper_label}
use Rattle.plane.proofs.Windings.TubeCells.{in_tube}
use Rattle.plane.proofs.Windings.Whole.{IsWhole}
use Rattle.plane.proofs.TubePaths.Bounding.{wall_in}
use Rattle.plane.proofs.Windings.CommonPlaces.{decide_number, common_place, in_some_same}
use Rattle.plane.proofs.FaceLemmas.FaceNumbers.{label_before, label_under}
use Rattle.plane.proofs.Strips.Joins.{linked_joined}
use Rattle.plane.proofs.Windings.Ways.{way_mix, way_start, way_end, way_place}
use Rattle.plane.proofs.TubePaths.Outside.{inside_free, outside_free}
use Rattle.plane.proofs.TubePaths.Exits.{IsExit, exit, same_start}
use Rattle.plane.proofs.OneTube.ArcEnds.{edge_twin, not_arc_end, not_arc_tip, twin_other}

-- ---- ways
pub way_within : (p q u v z : Vector) → IsOnWay p q u → IsOnWay p q v → IsOnWay u v z
    → IsOnWay p q z
way_within p q u v z a b w =
    subst (λ (x : Vector). IsOnWay p q x) (sym w.is)
    (way_mix p q u v w.s w.t w.s_least w.t_least w.some a b)

pub way_back : (p q z : Vector) → IsOnWay p q z → IsOnWay q p z
way_back p q z w =
    let s = w.some in
    record {
      s = w.t;
      t = w.s;
      s_least = w.t_least;
      t_least = w.s_least;
      some = omega (arith, ints, s);
      is = w.is ∙ mix_back w.s w.t p q;
    }

module _ (r : Replay) (whole : IsWhole r) (lab : Labels) (matched : IsMatched r lab) (T : Tubes)
    (Meets : ℕ → Vector → Vector → Type 0) (tubes : AreTubes r lab T Meets)
    (sides : AreSides r lab T Meets) where
  abbrev pub Outside : Vector → Type 0
  Outside z = (c : ℕ) → c < T.count → InTubeAt T c z → ⊥

  -- ---- paths
  pub path_join : (p q v : Vector) → CurvePath r T Meets p q → CurvePath r T Meets q v
      → CurvePath r T Meets p v
  path_join _ _ v (paths.ends p q e) k = subst (λ (x : Vector). CurvePath r T Meets x v) (sym e) k
  path_join _ _ v (paths.leads p x q X f j) k = paths.leads p x v X f (path_join x q v j k)

  free_back : (p q : Vector) → IsFreeOfCurves r T Meets p q → IsFreeOfCurves r T Meets q p
  free_back p q f = record {
    straights = λ z w. f.straights z (way_back q p z w);
    arcs = λ c l u v a b. f.arcs c l u v (way_back q p u a) (way_back q p v b);
  }

  -- the end of a segment that hits no curve
  pub free_last : (p q : Vector) → IsFreeOfCurves r T Meets p q → IsFreeOfCurves r T Meets q q
  free_last p q f = record {
    straights = λ z w. f.straights z (way_within p q q q z (way_end p q) (way_end p q) w);
    arcs = λ c l u v a b. f.arcs c l u v (way_within p q q q u (way_end p q) (way_end p q) a)
        (way_within p q q q v (way_end p q) (way_end p q) b);
  }

  pub path_back : (p q : Vector) → Place p → CurvePath r T Meets p q → CurvePath r T Meets q p
  path_back _ _ P (paths.ends p q e) = paths.ends q p (sym e)
  path_back _ _ P (paths.leads p x q X f j) =
      path_join q x p (path_back x q X j)
      (paths.leads x p p P (free_back p x f) (paths.ends p p refl))

  -- ---- within a tube, on one side
  pub side_free : (c : ℕ) → c < T.count → (s : Side) (p q : Vector) → Place p → Place q
      → ((z : Vector) → IsOnWay p q z → InTubeAt T c z × IsOnSide T c s z)
      → IsFreeOfCurves r T Meets p q
  side_free c l s p q P Q h =
      inside_free r whole lab matched T Meets tubes sides.covers p q P Q c l (λ z w. (h z w).0)
      (λ u v a b. sides.misses c l s u v (way_place p q u P Q a) (way_place p q v P Q b)
      (λ z w. (h z (way_within p q u v z a b w)).1))

  side_path : (c : ℕ) → c < T.count → (s : Side) (p q : Vector) → Place p
      → PathIn (IsInSide T c s) p q → CurvePath r T Meets p q
  side_path c l s _ _ P (paths.stays p q e) = paths.ends p q e
  side_path c l s _ _ P (paths.goes p x q X h j) =
      paths.leads p x q X (side_free c l s p x P X h) (side_path c l s x q X j)

  -- ---- the label beyond an edge of a tube is no tube's
  twin_plain : (c d : ℕ) → c < T.count → d < T.count → (h : Half) → Has h (T.halves c)
      → mark lab (twin h) ≡ T.label d → ⊥
  twin_plain c d lc ld h m e =
      let t = tubes.tube c lc in
      let k = (tubes.tube d ld).faced.only (twin h)
      (subst (λ (n : ℕ). n < r.edges) (sym (edge_twin h)) (t.faced.fits h m)) e in
      elim (decide_number c d) [
        | inl i ↦ twin_other r whole.run lab (T.label c) (T.first c) (T.bay c) (T.bays c)
            (T.halves c) t h m (subst (λ (n : ℕ). Has (twin h) (T.halves n)) (sym i) k)
        | inr i ↦ tubes.apart c d lc ld i h (twin h) m k (sym (edge_twin h))
      ]

  -- the label of a cell is that of each half-edge beside it
  pub cell_label : (h : Half) (c : Sector) → IsSector r c → Beside r h c
      → label_of lab r c ≡ mark lab h
  cell_label (under e) c C b = upper_label r whole.run whole.law lab matched c C
      ∙ label_under lab 0 c.index (r.list c.strip) e b
  cell_label (over e) c C b = label_before lab 0 c.index (r.list c.strip) e b

  pub beside_label : (h : Half) (z : Vector) → Place z → Beside r h (sector r z)
      → label_of lab r (sector r z) ≡ mark lab h
  beside_label h z Z b = cell_label h (sector r z) (cell_is r whole.run whole.law z Z) b

  -- a free segment keeps the label of the cell
  pub free_label : (p q : Vector) → Place p → Place q → IsFree r p q
      → label_of lab r (sector r p) ≡ label_of lab r (sector r q)
  free_label p q P Q f =
      linked_label r whole.run whole.law lab matched (sector r p) (sector r q)
      (segment_linked r whole.run whole.law p q P Q f)

  pub tube_label_of : (d : ℕ) → d < T.count → (z : Vector) → Place z → IsOffEdges r z
      → InTubeAt T d z → label_of lab r (sector r z) ≡ T.label d
  tube_label_of d l z Z off i =
      (in_tube r whole.run whole.law whole.once lab matched (T.label d) (T.first d) (T.bay d)
      (T.bays d) (T.halves d) (tubes.tube d l) z Z off).0 i

  pub label_tube : (d : ℕ) → d < T.count → (z : Vector) → Place z → IsOffEdges r z
      → label_of lab r (sector r z) ≡ T.label d → InTubeAt T d z
  label_tube d l z Z off i =
      (in_tube r whole.run whole.law whole.once lab matched (T.label d) (T.first d) (T.bay d)
      (T.bays d) (T.halves d) (tubes.tube d l) z Z off).1 i

  -- o is outside the tubes, in a cell beside g, and joined to z
  pub record IsBeside (g : Half) (z o : Vector) : Type 0 where
    pub place : Place o
    pub off : IsOffEdges r o
    pub outside : Outside o
    pub beside : Beside r g (sector r o)
    pub path : CurvePath r T Meets z o

  -- the way out
  module _ (c : ℕ) (l : c < T.count) (s : Side) (h : Half) (wall : IsSideWall r lab T c s h) where
    beyond : (x o : Vector) → IsExit r h x o → (z : Vector) → Place z → InTubeAt T c z
        → IsOnSide T c s z → IsBeside (twin h) z o
    beyond x o e z Z in_z side_z = record {
      place = O;
      off = e.off;
      outside = λ d ld i. plain d ld (sym o_label ∙ tube_label_of d ld o O e.off i);
      beside = e.beside;
      path = path_join z x o
          (side_path c l s z x Z (sides.whole c l s z x Z X in_z in_x side_z side_x))
          (paths.leads x y o Y (record { straights = straights; arcs = arcs })
          (paths.leads y o o O
          (outside_free r whole lab matched T Meets tubes sides.covers y o Y O y_free y_outside)
          (paths.ends o o refl)));
    }
      where
        X : Place x
        X = e.x_place

        O : Place o
        O = e.o_place

        fits : edge_of h < r.edges
        fits = (tubes.tube c l).faced.fits h wall.has

        alone : (f : ℕ) → f < r.edges → On r.weight (r.edge f) x → f ≡ edge_of h
        alone f lf on = e.only x (way_start x o) f lf on

        not_end : AtArcEnd T c x → ⊥
        not_end (inl k) =
            not_arc_end r whole.run lab (T.label c) (T.first c) (T.bay c) (T.bays c) (T.halves c)
            (tubes.tube c l) x X (edge_of h) alone k
        not_end (inr k) =
            not_arc_tip r whole.run lab (T.label c) (T.first c) (T.bay c) (T.bays c) (T.halves c)
            (tubes.tube c l) x X (edge_of h) alone k

        side_x : IsOnSide T c s x
        side_x = elim (wall.places x X e.on) [ inl k ↦ k | inr k ↦ absurd (not_end k) ]

        in_x : InTubeAt T c x
        in_x = wall_in r lab (T.label c) (T.first c) (T.bay c) (T.bays c) (T.halves c)
            (tubes.tube c l) h wall.has x X (whole.run.rise (edge_of h) fits) e.on

        o_label : label_of lab r (sector r o) ≡ mark lab (twin h)
        o_label = beside_label (twin h) o O e.beside

        plain : (d : ℕ) → d < T.count → mark lab (twin h) ≡ T.label d → ⊥
        plain d ld k = twin_plain c d l ld h wall.has k

        close : (n : ℤ) × (pos 0 ≤ℤ n) × ((z : Vector) → IsOnWay x (mix n x (pos 1) o) z
            → IsOnSide T c s z)
        close = sides.near c l s x o X O side_x

        y : Vector
        y = mix close.0 x (pos 1) o

        y_way : IsOnWay x o y
        y_way =
            let n = close.1 in
            record {
              s = close.0;
              t = pos 1;
              s_least = n;
              t_least = omega (arith, ints);
              some = omega (arith, ints, n);
              is = refl;
            }

        Y : Place y
        Y = way_place x o y X O y_way

        y_free : IsFree r y o
        y_free = e.leaves y y_way (omega (arith, ints))

        y_outside : Outside y
        y_outside d ld i =
            plain d ld (sym o_label ∙ sym (free_label y o Y O y_free)
            ∙ tube_label_of d ld y Y (off_start r y o Y y_free) i)

        longer : (v : Vector) → IsOnWay x y v → IsOnWay x o v
        longer v w = way_within x o x y v (way_start x o) y_way w

        straights : (v : Vector) → IsOnWay x y v → (f : ℕ) → f < r.edges → On r.weight (r.edge f) v
            → (d : ℕ) × (d < T.count) × (g : Half) × Has g (T.halves d) × (edge_of g ≡ f)
        straights v w f lf on = (c, l, h, wall.has, sym (e.only v (longer v w) f lf on))

        other : (d : ℕ) → d < T.count → (c ≡ d → ⊥) → (v : Vector) → IsOnWay x o v → InTubeAt T d v
            → ⊥
        other d ld n v w i = by_lt_z (pos 0) w.t
            (λ (k : pos 0 <ℤ w.t).
            let V = way_place x o v X O w in
            let f = e.leaves v w k in
            plain d ld (sym o_label ∙ sym (free_label v o V O f)
            ∙ tube_label_of d ld v V (off_start r v o V f) i))
            (λ (k : w.t ≤ℤ pos 0).
            let V = way_place x o v X O w in
            let m = w.t_least in
            let same : Same v x = subst (λ (u : Vector). Same u x) (sym w.is)
            (same_start w.s w.t x o (omega (arith, ints, k, m))) in
            not_end (common_place r whole lab matched (T.label c) (T.first c) (T.bay c) (T.bays c)
            (T.halves c) (T.label d) (T.first d) (T.bay d) (T.bays d) (T.halves d)
            (tubes.tube c l) (tubes.tube d ld) (tubes.labels c d l ld n) (tubes.apart c d l ld n)
            (tubes.clean c l) x X in_x
            (in_some_same (tiles (T.first d) (T.bay d ∷ T.bays d)) v x V same i)))

        arcs : (d : ℕ) → d < T.count → (u v : Vector) → IsOnWay x y u → IsOnWay x y v → Meets d u v
            → ⊥
        arcs d ld u v a b hit = elim (decide_number c d) [
          | inl i ↦ sides.misses c l s u v (way_place x y u X Y a) (way_place x y v X Y b)
              (λ w k. close.2 w (way_within x y u v w a b k))
              (subst (λ (n : ℕ). Meets n u v) (sym i) hit)
          | inr n ↦ (let k = sides.covers d ld u v (way_place x y u X Y a)
              (way_place x y v X Y b) hit in
              other d ld n k.0 (longer k.0 (way_within x y u v k.0 a b k.1)) k.2)
        ]

    pub way_out : (z : Vector) → Place z → InTubeAt T c z → IsOnSide T c s z
        → (o : Vector) × IsBeside (twin h) z o
    way_out z Z i k =
        let e = exit r whole.run whole.law h ((tubes.tube c l).faced.fits h wall.has) in
        (e.1, beyond e.0 e.1 e.2 z Z i k)

  -- ---- outside the tubes
  pub same_free : (p q : Vector) → Place p → Place q → IsOffEdges r p → Same p q → IsFree r p q
  same_free p q P Q off h e l = mix_clear r.weight (r.edge e) p q P Q
      (λ s t hs ht some on. off e l
      (on_same r.weight (r.edge e) (mix s p t q) p record {
        x = one s t p.x p.n q.x q.n h.x;
        y = one s t p.y p.n q.y q.n h.y;
      } (mix_place s p t q P Q hs ht some) P on))
    where
      one : (s t x n y m : ℤ) → x *ℤ m ≡ y *ℤ n
          → ((s *ℤ x) +ℤ (t *ℤ y)) *ℤ n ≡ x *ℤ ((s *ℤ n) +ℤ (t *ℤ m))
      one s t x n y m e =
          let a = ring (times (plus (times (at 0) (at 2)) (times (at 1) (at 4))) (at 3))
          (plus (times (at 0) (times (at 2) (at 3))) (times (at 1) (times (at 4) (at 3))))
          (vars (s ∷ t ∷ x ∷ n ∷ y ∷ m ∷ [])) refl in
          let b = ring (times (at 2) (plus (times (at 0) (at 3)) (times (at 1) (at 5))))
          (plus (times (at 0) (times (at 2) (at 3))) (times (at 1) (times (at 2) (at 5))))
          (vars (s ∷ t ∷ x ∷ n ∷ y ∷ m ∷ [])) refl in
          let c = ap (λ (v : ℤ). t *ℤ v) e in
          omega (arith, ints, a, b, c)

  pub joined_path : (p q : Vector) → JoinedByEdges r p q → Place p → Place q → IsOffEdges r p
      → Outside p → CurvePath r T Meets p q
  joined_path _ _ (arrives p q same) P Q off out =
      paths.leads p q q Q
      (outside_free r whole lab matched T Meets tubes sides.covers p q P Q
      (same_free p q P Q off same) out) (paths.ends q q refl)
  joined_path _ _ (cells.goes p x q X free j) P Q off out =
      let off_x = off_end r p x P X free in
      paths.leads p x q X
      (outside_free r whole lab matched T Meets tubes sides.covers p x P X free out)
      (joined_path x q j X Q off_x
      (λ d ld i. out d ld
      (label_tube d ld p P off (free_label p x P X free ∙ tube_label_of d ld x X off_x i))))

  -- places off the edges and outside the tubes, in linked cells, are joined off the curves
  pub linked_path : (p q : Vector) → Place p → Place q → IsOffEdges r p → IsOffEdges r q → Outside p
      → Linked r (sector r p) (sector r q) → CurvePath r T Meets p q
  linked_path p q P Q off_p off_q out k =
      joined_path p q (linked_joined r whole.run whole.law p q P Q off_p off_q k) P Q off_p out
