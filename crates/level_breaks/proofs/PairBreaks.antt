-- What a test of two curves of a drawing says of a level.
use Rattle.std.proofs.Common.{◌≡◌, ◌↔◌, ℕ, ◌<◌, ◌≤◌, Bool, IsTrue, Option, List, length, get_or}
use Rattle.std.proofs.Common.{arith, sym, ◌∙◌, subst, All}
use Rattle.plane.specs.CurveRuns.TubedRuns as runs
use Rattle.plane.specs.Forms.Meets.{IsEnd}
use Rattle.plane.specs.Forms.Vectors.{point}
use Rattle.plane.specs.Lists.{Has}
use Rattle.plane.specs.Rule.Curves.{arc}
use Rattle.plane.specs.Rule.Plans.{Plan, curve}
use Rattle.plane.specs.Rule.Windows.{IsDrawn}
use Rattle.plane.specs.Tubes.Bays.{IsTube}
use Rattle.plane.specs.Tubes.Windings.{InTile, IsCornerOf, Tile, tiles}
use Rattle.plane.specs.declared.kinds.Curve.{Curve}
use Rattle.plane.specs.declared.kinds.CurveKind.TheVariants as kind
use Rattle.plane.specs.declared.kinds.Edge.{Edge}
use Rattle.plane.specs.declared.kinds.Point.{Point}
use Rattle.near_pairs.specs.Boxes.{box_of, reach_of}
use Rattle.near_pairs.specs.declared.reaches.Reach.{Reach}
use Rattle.tubes.specs.Settled.{AreTubesAt, Breaks, IsTubeFor, owned_at}
use Rattle.tubes.specs.TubedEdges.{IsFit, drawn_bays}
use Rattle.tubes.specs.declared.kinds.Tube.{Tube}
use Rattle.tubes.proofs.ChainEdges.{fit}
use Rattle.level_breaks.specs.GroupBreaks.{AreBreaking, AreBroken, HasEdges}
use Rattle.level_breaks.specs.Groups as groups
use Rattle.level_breaks.specs.Groups.{AreGroups, HoldsAll, IsGroup, IsTubed}
use Rattle.level_breaks.specs.LevelLists.{AreBoxesTo, tube_of}
use Rattle.level_breaks.specs.declared.groups.Group.{Group}
use Rattle.level_breaks.proofs.GroupEdges.{one_default}
use Rattle.level_breaks.proofs.ShortForm.{broken_is, group_has_edges, groups_of, tubed_of}

-- The curve is that of the number, the tube is its tube at the level, where it has one, and the box
-- holds their corners.
pub record IsCurveAt (d : Plan) (level : ℕ → ℕ) (i : ℕ) (g : Group) : Type 0 where
  pub curve_is : g.curve.now ≡ curve d i
  pub tube : IsTubeFor (curve d i) (level i) g.tube.now
  pub holds : HoldsAll (box_of g.reach) (groups.corners g.curve.now g.tube.now)

-- what is taken from lists of tubes and boxes
pub listed_at : (d : Plan) (level : ℕ → ℕ) (i : ℕ) (tubes : List (Option Tube)) (boxes : List Reach)
    (g : Group)
    → i < length d.curves → AreTubesAt d level tubes
    → AreBoxesTo d.curves tubes (length d.curves) boxes
    → g.curve.now ≡ curve d i → g.tube.now ≡ tube_of tubes i → g.reach ≡ reach_of boxes i
    → IsCurveAt d level i g
listed_at d level i tubes boxes g l ht hb curve_is tube_is reach_is = record {
  curve_is = curve_is;
  tube = subst (IsTubeFor (curve d i) (level i)) (sym tube_is) (ht.each i l);
  holds = subst (λ r. HoldsAll (box_of r) (groups.corners g.curve.now g.tube.now)) (sym reach_is)
      (subst (λ c. HoldsAll (box_of (reach_of boxes i)) (groups.corners c g.tube.now))
      (sym curve_is)
      (subst (λ t. HoldsAll (box_of (reach_of boxes i)) (groups.corners (curve d i) t))
      (sym tube_is) (hb.holds i l)));
}

-- ---- curves by number
pub indexed_at : (d : Plan) (i : ℕ) (c x : Curve) → i < length d.curves → c ≡ get_or d.curves i x
    → c ≡ curve d i
indexed_at d i c x l e = e ∙ one_default d.curves i x _ l

pub fit_at : (d : Plan) (i : ℕ) (c x : Curve) → i < length d.curves
    → All (λ (c : Curve). IsDrawn d.window.low d.window.high c) d.curves → c ≡ get_or d.curves i x
    → IsFit c
fit_at d i c x l drawn e =
    subst IsFit (sym (indexed_at d i c x l e)) (fit d.window (curve d i) (drawn i _ l))

-- what is made for one curve
pub made_at : (d : Plan) (level : ℕ → ℕ) (i : ℕ) (c : Curve) (t : Option Tube) (g : Group) → c ≡ curve d i
    → IsTubeFor c (level i) t → g.curve.now ≡ c → g.tube.now ≡ t
    → HoldsAll (box_of g.reach) (groups.corners c t) → IsCurveAt d level i g
made_at d level i c t g e told curve_is tube_is holds = record {
  curve_is = curve_is ∙ e;
  tube = subst (IsTubeFor (curve d i) (level i)) (sym tube_is)
      (subst (λ x. IsTubeFor x (level i) t) e told);
  holds = subst (λ x. HoldsAll (box_of g.reach) (groups.corners x g.tube.now)) (sym curve_is)
      (subst (λ u. HoldsAll (box_of g.reach) (groups.corners c u)) (sym tube_is) holds);
}

module _ (d : Plan) (level : ℕ → ℕ) (i j : ℕ) (order : i < j) (there : j < length d.curves) (g h : Group)
    (gi : IsCurveAt d level i g) (hj : IsCurveAt d level j h) where
  first_there : i < length d.curves
  first_there = omega (arith, order, there)

  tubed_by : (k : ℕ) (x : Group) → IsCurveAt d level k x → HasEdges x.curve.now x.tube.now
      → IsTubed (level k) (curve d k) x.tube.now
  tubed_by k x n e =
      tubed_of (level k) (curve d k) x.tube.now n.tube (subst (λ c. HasEdges c x.tube.now) n.curve_is e)

  group_by : (k : ℕ) (x : Group) → k < length d.curves
      → All (λ (c : Curve). IsDrawn d.window.low d.window.high c) d.curves → IsCurveAt d level k x
      → HasEdges x.curve.now x.tube.now → IsGroup d.window.low d.window.high (level k) x
  group_by k x l drawn n e = record {
    drawn = subst (IsDrawn d.window.low d.window.high) (sym n.curve_is) (drawn k _ l);
    tubed = subst (λ c. IsTubed (level k) c x.tube.now) (sym n.curve_is) (tubed_by k x n e);
    holds = n.holds;
  }

  pub placed : ((k : ℕ) → level k ≤ 5) → All (λ (c : Curve). IsDrawn d.window.low d.window.high c) d.curves
      → HasEdges g.curve.now g.tube.now → HasEdges h.curve.now h.tube.now → AreGroups g h
  placed few drawn eg eh = record {
    low = d.window.low;
    high = d.window.high;
    level = level i;
    next = level j;
    narrow = d.window.narrow;
    few = few i;
    next_few = few j;
    first = group_by i g first_there drawn gi eg;
    second = group_by j h there drawn hj eh;
  }

  differ : i ≡ j → ⊥
  differ e = omega (arith, order, e)

  module _ (own_enter : (i e : ℕ) (a : Edge) (p : Point) (t : Tile)
      → (curve d i).kind ≡ kind.HalfArc → IsTube (arc (curve d i)) (drawn_bays d level i)
      → e < length (runs.edge_list (drawn_bays d level) 0 d.curves)
      → (owned_at d level e).curve ≡ i
      → runs.Connects a (owned_at d level e).from (owned_at d level e).to → IsEnd a p
      → Has t (tiles (curve d i).from (drawn_bays d level i)) → InTile t (point p)
      → IsCornerOf t p) where
    broken_by : HasEdges g.curve.now g.tube.now → HasEdges h.curve.now h.tube.now
        → AreBroken g.curve.now g.tube.now h.curve.now h.tube.now ↔ Breaks d level i j
    broken_by eg eh =
        subst (λ c. AreBroken c g.tube.now h.curve.now h.tube.now ↔ Breaks d level i j)
        (sym gi.curve_is)
        (subst (λ c. AreBroken (curve d i) g.tube.now c h.tube.now ↔ Breaks d level i j)
        (sym hj.curve_is)
        (broken_is d level own_enter i j g.tube.now h.tube.now differ first_there there
        (tubed_by i g gi eg) (tubed_by j h hj eh)))

    have_edges : Breaks d level i j
        → HasEdges g.curve.now g.tube.now × HasEdges h.curve.now h.tube.now
    have_edges s =
        let a = groups_of d level i j differ s in (
          subst (λ c. HasEdges c g.tube.now) (sym gi.curve_is)
              (group_has_edges d level i g.tube.now gi.tube a.0),
          subst (λ c. HasEdges c h.tube.now) (sym hj.curve_is)
              (group_has_edges d level j h.tube.now hj.tube a.1),
        )

    pub breaks_is : (b : Bool)
        → (IsTrue b ↔ AreBreaking g.curve.now g.tube.now h.curve.now h.tube.now)
        → IsTrue b ↔ Breaks d level i j
    breaks_is b k = (
      (λ t. let p = k.0 t in (broken_by p.0.0 p.0.1).0 p.1),
      (λ s. let e = have_edges s in k.1 (e, (broken_by e.0 e.1).1 s)),
    )
