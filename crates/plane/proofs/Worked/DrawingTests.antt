-- Whether edges are those of a drawing of straights is decided by tests that compute.
-- An edge may be drawn from either of its ends.
use Rattle.std.proofs.Common.{◌≡◌, ℕ, Bool, true, false, length, inl, inr, refl, sym}
use Rattle.plane.specs.declared.kinds.Curve.{Curve}
use Rattle.plane.specs.declared.kinds.CurveKind.{CurveKind}
use Rattle.plane.specs.declared.kinds.CurveKind.TheVariants as kind
use Rattle.plane.specs.Forms.Vectors.{Edge}
use Rattle.plane.specs.Rule.Plans.{Plan, curve}
use Rattle.plane.specs.Forms.Segments.{IsEdgeOf, AreEdgesOf}
use Rattle.plane.specs.Faces.Parity.{both, either, same_point}
use Rattle.plane.proofs.ParityLemmas.Wedges.{not_both}
use Rattle.plane.proofs.ParityLemmas.Parities.{both_true, same_is}
use Rattle.plane.proofs.Worked.RunTests.{either_is, all_below, all_below_is}

abbrev is_straight : CurveKind → Bool
is_straight kind.Straight = true
is_straight kind.HalfArc = false

straight_is : (k : CurveKind) → is_straight k ≡ true → k ≡ kind.Straight
straight_is kind.Straight h = refl
straight_is kind.HalfArc h = absurd (not_both (sym h))

abbrev along : Edge → Curve → Bool
along e c = both (same_point e.low c.from) (same_point e.high c.to)

abbrev against : Edge → Curve → Bool
against e c = both (same_point e.low c.to) (same_point e.high c.from)

edge_is : (e : Edge) (c : Curve) → either (along e c) (against e c) ≡ true → IsEdgeOf e c
edge_is e c h = elim (either_is (along e c) (against e c) h) [
  | inl k ↦ let b = both_true _ _ k in inl (same_is e.low c.from b.0, same_is e.high c.to b.1)
  | inr k ↦ let b = both_true _ _ k in inr (same_is e.low c.to b.0, same_is e.high c.from b.1)
]

abbrev pub edge_test : (ℕ → Edge) → Plan → ℕ → Bool
edge_test E d i =
    both (is_straight (curve d i).kind)
    (either (along (E i) (curve d i)) (against (E i) (curve d i)))

pub edges_by_test : (E : ℕ → Edge) (d : Plan) → all_below (length d.curves) (edge_test E d) ≡ true
    → AreEdgesOf E d
edges_by_test E d h = record {
  straight = λ i l. straight_is (curve d i).kind
      (both_true _ _ (all_below_is (length d.curves) (edge_test E d) h i l)).0;
  edge = λ i l. edge_is (E i) (curve d i)
      (both_true _ _ (all_below_is (length d.curves) (edge_test E d) h i l)).1;
}
