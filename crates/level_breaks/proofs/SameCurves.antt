-- Whether two curves break a level does not depend on their numbers, nor on what else is drawn.
use Rattle.std.proofs.Common.{◌≡◌, inl, inr, ℕ, ◌<◌, List, [], ◌∷◌, ◌++◌, length, refl, ap, sym}
use Rattle.std.proofs.Common.{subst, pos, ◌≤ℤ◌}
use Rattle.plane.specs.CurveRuns.TubedRuns as runs
use Rattle.plane.specs.Forms.Meets.{Bad, IsEnd}
use Rattle.plane.specs.Forms.Vectors.{point}
use Rattle.plane.specs.Lists.{Has}
use Rattle.plane.specs.Rule.BadPairs.{HaveSameEnds, IsEndOf}
use Rattle.plane.specs.Rule.Curves.{arc}
use Rattle.plane.specs.Rule.HalfArcs.{bow}
use Rattle.plane.specs.Rule.Plans.{IsHalfArc, IsStraight, Plan, curve}
use Rattle.plane.specs.Tubes.Bays.{Bay}
use Rattle.plane.specs.Tubes.Windings.{tiles}
use Rattle.plane.specs.declared.kinds.Curve.{Curve}
use Rattle.plane.specs.declared.kinds.CurveKind.{CurveKind}
use Rattle.plane.specs.declared.kinds.CurveKind.TheVariants as kind
use Rattle.plane.specs.declared.kinds.Edge.{Edge}
use Rattle.plane.specs.declared.kinds.Point.{Point}
use Rattle.plane.proofs.ListLemmas.Lists.{has_append, has_back, has_front}
use Rattle.tubes.specs.Settled.{Breaks, BreaksOneWay, EdgesMeet, EndsAt, EntersTube, HasGroup}
use Rattle.tubes.specs.Settled.{LiesUnderChord, SharesCorner, corners, edges, group, missing}
use Rattle.tubes.specs.TubedEdges.{HasTube, bays_at, drawn_bays, edge_as}

-- ---- the edges of one curve under two numbers
-- an owned edge of the second list that is the same edge
abbrev pub Copy : runs.Owned → List runs.Owned → Type 0
Copy o os = (u : runs.Owned) × Has u os × (edge_as u ≡ edge_as o)

chain_copy : (i a : ℕ) (p : runs.Part) (v : Point) (ps : List Point) (o : runs.Owned)
    → Has o (runs.chain i p v ps) → Copy o (runs.chain a p v ps)
chain_copy i a p v [] o h = absurd h
chain_copy i a p v (q ∷ ps) o (inl e) =
    (record { from = v; to = q; curve = a; part = p }, inl refl, sym (ap edge_as e))
chain_copy i a p v (q ∷ ps) o (inr h) = let c = chain_copy i a p q ps o h in (c.0, inr c.1, c.2)

kind_copy : (i a : ℕ) (k : CurveKind) (c : Curve) (bs : List Bay) (o : runs.Owned)
    → Has o (runs.edges_of i k c bs) → Copy o (runs.edges_of a k c bs)
kind_copy i a kind.Straight c bs o h = chain_copy i a runs.whole c.from (c.to ∷ []) o h
kind_copy i a kind.HalfArc c bs o h =
    elim (has_append o (runs.chain i runs.inner c.from (runs.inner_corners bs))
    (runs.chain i runs.outer c.from (runs.outer_corners bs ++ c.to ∷ [])) h) [
      | inl l ↦ (let u = chain_copy i a runs.inner c.from (runs.inner_corners bs) o l in (
        u.0,
        has_front u.0 (runs.chain a runs.inner c.from (runs.inner_corners bs))
            (runs.chain a runs.outer c.from (runs.outer_corners bs ++ c.to ∷ [])) u.1,
        u.2,
      ))
      | inr r ↦ (let u = chain_copy i a runs.outer c.from
          (runs.outer_corners bs ++ c.to ∷ []) o r in (
            u.0,
            has_back u.0 (runs.chain a runs.inner c.from (runs.inner_corners bs))
                (runs.chain a runs.outer c.from (runs.outer_corners bs ++ c.to ∷ [])) u.1,
            u.2,
          ))
    ]

-- ---- one curve under two numbers
module _ (d e : Plan) (level i a : ℕ) (there : a < length e.curves)
    (same : curve d i ≡ curve e a) where
  bays_same : drawn_bays d (λ n. level) i ≡ drawn_bays e (λ n. level) a
  bays_same = ap (λ (c : Curve). bays_at (arc c) level) same

  half_copy : IsHalfArc d i → IsHalfArc e a
  half_copy h = record {
    there = there;
    kind = subst (λ (c : Curve). c.kind ≡ kind.HalfArc) same h.kind;
  }

  straight_copy : IsStraight d i → IsStraight e a
  straight_copy h = record {
    there = there;
    kind = subst (λ (c : Curve). c.kind ≡ kind.Straight) same h.kind;
  }

  half_back : i < length d.curves → IsHalfArc e a → IsHalfArc d i
  half_back l h = record {
    there = l;
    kind = subst (λ (c : Curve). c.kind ≡ kind.HalfArc) (sym same) h.kind;
  }

  group_copy : HasGroup d (λ n. level) i → HasGroup e (λ n. level) a
  group_copy g = record {
    there = there;
    tube = λ h. subst (λ (c : Curve). HasTube (arc c) level) same (g.tube (half_back g.there h));
  }

  edge_copy : (o : runs.Owned) → Has o (group d (λ n. level) i) → Copy o (group e (λ n. level) a)
  edge_copy o h =
      subst (λ (c : Curve). Copy o (runs.edges_of a c.kind c (bays_at (arc c) level))) same
      (kind_copy i a (curve d i).kind (curve d i) (drawn_bays d (λ n. level) i) o h)

  ends_copy : (p : Point) → EndsAt d (λ n. level) i p → EndsAt e (λ n. level) a p
  ends_copy p (o, h, q) =
      let c = edge_copy o h in (c.0, c.1, subst (λ (x : Edge). IsEnd x p) (sym c.2) q)

-- ---- two curves
module _ (d e : Plan) (level i j a b : ℕ) (ta : a < length e.curves) (tb : b < length e.curves)
    (ci : curve d i ≡ curve e a) (cj : curve d j ≡ curve e b) where
  meet_copy : EdgesMeet d (λ n. level) i j → EdgesMeet e (λ n. level) a b
  meet_copy (o, u, ho, hu, bad) =
      let x = edge_copy d e level i a ta ci o ho in
      let y = edge_copy d e level j b tb cj u hu in (
        x.0,
        y.0,
        x.1,
        y.1,
        subst (λ (s : Edge). Bad s (edge_as y.0)) (sym x.2)
            (subst (λ (t : Edge). Bad (edge_as o) t) (sym y.2) bad),
      )

  enter_copy : EntersTube d (λ n. level) i j → EntersTube e (λ n. level) a b
  enter_copy h = record {
    half_arc = half_copy d e level i a ta ci h.half_arc;
    p = h.p;
    ends = ends_copy d e level j b tb cj h.p h.ends;
    triangle = h.triangle;
    of_tube = subst (λ (c : Curve). Has h.triangle (tiles c.from (bays_at (arc c) level))) ci
        h.of_tube;
    holds = h.holds;
    no_corner = h.no_corner;
  }

  share_copy : SharesCorner d (λ n. level) i j → SharesCorner e (λ n. level) a b
  share_copy h = record {
    half_arc = half_copy d e level i a ta ci h.half_arc;
    p = h.p;
    corner = ends_copy d e level i a ta ci h.p h.corner;
    no_end = subst (λ (c : Curve). IsEndOf c h.p → ⊥) ci h.no_end;
    ends = ends_copy d e level j b tb cj h.p h.ends;
  }

  under_copy : LiesUnderChord d (λ n. level) i j → LiesUnderChord e (λ n. level) a b
  under_copy h = record {
    straight = straight_copy d e level i a ta ci h.straight;
    half_arc = half_copy d e level j b tb cj h.half_arc;
    joins = subst (λ (c : Curve). HaveSameEnds c (curve e b)) ci
        (subst (HaveSameEnds (curve d i)) cj h.joins);
    b = h.b;
    of_tube = subst (λ (c : Curve). Has h.b (bays_at (arc c) level)) cj h.of_tube;
    no_end = subst (λ (c : Curve). IsEndOf c h.b.inner → ⊥) cj h.no_end;
    low = subst (λ (c : Curve). bow (arc c) (point h.b.inner) ≤ℤ pos 0) cj h.low;
  }

  pub way_copy : BreaksOneWay d (λ n. level) i j → BreaksOneWay e (λ n. level) a b
  way_copy (inl h) = inl (enter_copy h)
  way_copy (inr (inl h)) = inr (inl (share_copy h))
  way_copy (inr (inr h)) = inr (inr (under_copy h))

pub breaks_copy : (d e : Plan) (level i j a b : ℕ) → a < length e.curves → b < length e.curves
    → curve d i ≡ curve e a → curve d j ≡ curve e b → (i ≡ j → ⊥) → (a ≡ b → ⊥) → Breaks d (λ n. level) i j
    → Breaks e (λ n. level) a b
breaks_copy d e level i j a b ta tb ci cj n m (missing q h k) = absurd (n q)
breaks_copy d e level i j a b ta tb ci cj n m (edges q g h k) =
    edges m (group_copy d e level i a ta ci g) (group_copy d e level j b tb cj h)
    (meet_copy d e level i j a b ta tb ci cj k)
breaks_copy d e level i j a b ta tb ci cj n m (corners q g h (inl w)) =
    corners m (group_copy d e level i a ta ci g) (group_copy d e level j b tb cj h)
    (inl (way_copy d e level i j a b ta tb ci cj w))
breaks_copy d e level i j a b ta tb ci cj n m (corners q g h (inr w)) =
    corners m (group_copy d e level i a ta ci g) (group_copy d e level j b tb cj h)
    (inr (way_copy d e level j i b a tb ta cj ci w))
