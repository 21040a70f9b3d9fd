-- Bad edges and bad curves of a drawing of straights, with an edge for each curve.
use Rattle.std.proofs.Common.{◌≡◌, ℕ, ◌<◌, inl, inr, List, length, arith, sym}
use Rattle.plane.specs.declared.kinds.Curve.{Curve}
use Rattle.plane.specs.declared.kinds.CurveKind.TheVariants as kind
use Rattle.plane.specs.declared.kinds.Edge.{Edge}
use Rattle.plane.specs.Rule.BadPairs.{AreBad as CurvesAreBad, straights_meet, end_meets, crossed}
use Rattle.plane.specs.Rule.BadPairs.{one_arc, IsBadPair}
use Rattle.plane.specs.Forms.Meets.{Bad}
use Rattle.plane.specs.Rule.Plans.{Plan, curve}
use Rattle.plane.proofs.Covers.CurveEdges.{bad_edges_is}
use Rattle.straight_predicates.specs.EdgeLists.{edge_of}
use Rattle.line_sweep.specs.Kinds.{AreBad}
use Rattle.meetings.specs.StraightEdges.{AreEdgesTo, AreStraights}

-- ---- pairs
pub bad_back : (edges : List Edge) (a b : ℕ) → AreBad edges a b → AreBad edges b a
bad_back edges a b h = record {
  first = h.second;
  second = h.first;
  differ = λ q. h.differ (sym q);
  bad = record {
    at = h.bad.at;
    place = h.bad.place;
    of_first = h.bad.of_second;
    of_second = h.bad.of_first;
    no_end = λ c. h.bad.no_end (record {
      at = c.at;
      of_first = c.of_second;
      of_second = c.of_first;
      is = c.is;
    });
  };
}

pub not_half_arc : (c : Curve) → c.kind ≡ kind.Straight → c.kind ≡ kind.HalfArc → ⊥
not_half_arc c s h = cc

module _ (d : Plan) (edges : List Edge) (straights : AreStraights d.curves)
    (e : AreEdgesTo d.curves (length d.curves) edges) where
  known : (i : ℕ) → i < length edges → i < length d.curves
  known i l = let z = e.size in omega (arith, l, z)

  within : (i : ℕ) → i < length d.curves → i < length edges
  within i l = let z = e.size in omega (arith, l, z)

  pub pair_is_bad : (a b : ℕ) → AreBad edges a b → a < b → IsBadPair d a b
  pair_is_bad a b h l = record {
    order = l;
    there = known b h.second;
    bad = straights_meet
        ((bad_edges_is (edge_of edges a) (edge_of edges b) (curve d a) (curve d b)
        (e.ends a (known a h.first)) (e.ends b (known b h.second)) (straights a (known a h.first))
        (straights b (known b h.second))).0 h.bad);
  }

  pub none_is_bad : ((a b : ℕ) → a < length edges → b < length edges → (a ≡ b → ⊥)
      → Bad (edge_of edges a) (edge_of edges b) → ⊥)
      → (i j : ℕ) → IsBadPair d i j → ⊥
  none_is_bad clear i j p = by_cases p.bad
    where
      first : i < length d.curves
      first = let o = p.order in let t = p.there in omega (arith, o, t)

      straight_first : (curve d i).kind ≡ kind.Straight
      straight_first = straights i first

      straight_second : (curve d j).kind ≡ kind.Straight
      straight_second = straights j p.there

      by_cases : CurvesAreBad (curve d i) (curve d j) → ⊥
      by_cases (straights_meet h) =
          clear i j (within i first) (within j p.there) (λ q. let o = p.order in
          omega (arith, o, q))
          ((bad_edges_is (edge_of edges i) (edge_of edges j) (curve d i) (curve d j)
          (e.ends i first) (e.ends j p.there) straight_first straight_second).1 h)
      by_cases (end_meets h) =
          elim h.half_arc [
            | inl q ↦ not_half_arc (curve d i) straight_first q
            | inr q ↦ not_half_arc (curve d j) straight_second q
          ]
      by_cases (crossed (inl h)) = not_half_arc (curve d j) straight_second h.half_arc
      by_cases (crossed (inr h)) = not_half_arc (curve d i) straight_first h.half_arc
      by_cases (one_arc h) = not_half_arc (curve d i) straight_first h.first
