-- The boxes and marks of the curves of a drawing.
use Rattle.std.proofs.Common.{◌≡◌, inl, inr, ℕ, ◌+◌, ◌<◌, ◌≤◌, Bool, true, false, List, [], ◌∷◌}
use Rattle.std.proofs.Common.{◌++◌, length, arith, ap, sym, ◌∙◌, subst, All}
use Rattle.std.proofs.lemmas.List.{length-append, get_or_append_left}
use Rattle.std.proofs.Math.Seq.{get_or-append_seam}
use Rattle.plane.specs.declared.kinds.Point.{Point}
use Rattle.plane.specs.declared.kinds.Curve.{Curve}
use Rattle.plane.specs.declared.kinds.CurveKind.TheVariants as kind
use Rattle.plane.specs.Forms.Boxes.{Box, HoldsCurve, InBox}
use Rattle.plane.specs.Rule.BadPairs.{AreBad}
use Rattle.plane.specs.Rule.Places.{Vector, Place}
use Rattle.plane.specs.Rule.Plans.{Plan}
use Rattle.plane.specs.Rule.Windows.{IsDrawn, IsNarrow, IsShort}
use Rattle.straight_predicates.proofs.Orders.{by_lt}
use Rattle.near_pairs.specs.Boxes.{AreNear, IsOneMarked, box_of, mark_of, no_reach, reach_of}
use Rattle.near_pairs.specs.LeastPairs.{IsLeastPair, IsLess}
use Rattle.near_pairs.specs.declared.pairs.NearPair.{NearPair}
use Rattle.near_pairs.specs.declared.reaches.Reach.{Reach}
use Rattle.meetings.specs.CurveBoxes.{AreMarksTo, AreReachesTo, IsEachPairPlaced, IsEachPlaced}
use Rattle.meetings.specs.CurvePairs.{AreArcBad, HaveHalfArc, IsArcPair}
use Rattle.meetings.specs.StraightEdges.{curve_of}
use Rattle.meetings.proofs.Choices.{last}

-- ---- one more
pub no_reaches : (curves : List Curve) (reaches : List Reach) → reaches ≡ []
    → AreReachesTo curves 0 reaches
no_reaches curves reaches e = record {
  size = ap length e;
  holds = λ i l. absurd (omega (arith, l));
}

pub reach_more : (curves : List Curve) (k : ℕ) (reaches new : List Reach) (r : Reach)
    → AreReachesTo curves k reaches → new ≡ reaches ++ r ∷ []
    → HoldsCurve (box_of r) (curve_of curves k) → AreReachesTo curves (k + 1) new
reach_more curves k reaches new r a q h = record {
  size = (let s = ap length q ∙ length-append reaches (r ∷ []) in let z = a.size in
      omega (arith, s, z));
  holds = λ i l. by_lt i k
      (λ (m : i < k). subst (λ (b : Reach). HoldsCurve (box_of b) (curve_of curves i))
      (sym (front i m)) (a.holds i m))
      (λ (m : k ≤ i). subst (λ (b : Reach). HoldsCurve (box_of b) (curve_of curves i))
      (sym (back i (last i k l m)))
      (subst (λ (j : ℕ). HoldsCurve (box_of r) (curve_of curves j)) (sym (last i k l m)) h));
}
  where
    front : (i : ℕ) → i < k → reach_of new i ≡ reach_of reaches i
    front i m = ap (λ rs. reach_of rs i) q
        ∙ get_or_append_left reaches (r ∷ []) no_reach i (let z = a.size in omega (arith, m, z))

    back : (i : ℕ) → i ≡ k → reach_of new i ≡ r
    back i m = ap (λ rs. reach_of rs i) q
        ∙ ap (λ (j : ℕ). reach_of (reaches ++ r ∷ []) j) (m ∙ sym a.size)
        ∙ get_or-append_seam reaches r [] no_reach

pub no_marks : (curves : List Curve) (marks : List Bool) → marks ≡ [] → AreMarksTo curves 0 marks
no_marks curves marks e = record { size = ap length e; half_arc = λ i l. absurd (omega (arith, l)) }

pub mark_more : (curves : List Curve) (k : ℕ) (marks new : List Bool) (r : Bool)
    → AreMarksTo curves k marks → new ≡ marks ++ r ∷ []
    → ((curve_of curves k).kind ≡ kind.HalfArc → r ≡ true) → AreMarksTo curves (k + 1) new
mark_more curves k marks new r a q h = record {
  size = (let s = ap length q ∙ length-append marks (r ∷ []) in let z = a.size in
      omega (arith, s, z));
  half_arc = λ i l e. by_lt i k
      (λ (m : i < k). front i m ∙ a.half_arc i m e)
      (λ (m : k ≤ i). back i (last i k l m)
      ∙ h (subst (λ (j : ℕ). (curve_of curves j).kind ≡ kind.HalfArc) (last i k l m) e));
}
  where
    front : (i : ℕ) → i < k → mark_of new i ≡ mark_of marks i
    front i m = ap (λ rs. mark_of rs i) q
        ∙ get_or_append_left marks (r ∷ []) false i (let z = a.size in omega (arith, m, z))

    back : (i : ℕ) → i ≡ k → mark_of new i ≡ r
    back i m = ap (λ rs. mark_of rs i) q
        ∙ ap (λ (j : ℕ). mark_of (marks ++ r ∷ []) j) (m ∙ sym a.size)
        ∙ get_or-append_seam marks r [] false

pub all_reaches : (curves : List Curve) (k : ℕ) (reaches : List Reach) → length curves ≤ k
    → k ≤ length curves → AreReachesTo curves k reaches
    → AreReachesTo curves (length curves) reaches
all_reaches curves k reaches l m a =
    subst (λ (n : ℕ). AreReachesTo curves n reaches) (omega (arith, l, m)) a

pub all_marks : (curves : List Curve) (k : ℕ) (marks : List Bool) → length curves ≤ k
    → k ≤ length curves → AreMarksTo curves k marks → AreMarksTo curves (length curves) marks
all_marks curves k marks l m a =
    subst (λ (n : ℕ). AreMarksTo curves n marks) (omega (arith, l, m)) a

-- ---- the curves of a drawing
module _ (low high : Point) (curves : List Curve) (narrow : IsNarrow low high)
    (low_digits : IsShort low) (high_digits : IsShort high)
    (drawn : All (IsDrawn low high) curves) where
  pub each_placed : IsEachPlaced curves
  each_placed i l = record {
    low = low;
    high = high;
    narrow = narrow;
    low_digits = low_digits;
    high_digits = high_digits;
    drawn = drawn i _ l;
  }

  pub pairs_placed : IsEachPairPlaced curves
  pairs_placed i j l m = record {
    low = low;
    high = high;
    narrow = narrow;
    first = drawn i _ l;
    second = drawn j _ m;
  }

-- ---- bad pairs are near
module _ (curves : List Curve) (reaches : List Reach) (marks : List Bool)
    (r : AreReachesTo curves (length curves) reaches) (m : (i j : ℕ) → i < length curves
    → j < length curves → AreArcBad (curve_of curves i) (curve_of curves j) → i < j
    → IsOneMarked marks i j)
    (law : (c d : Curve) (a b : Box) → AreBad c d → HoldsCurve a c → HoldsCurve b d
    → (z : Vector) × Place z × InBox a z × InBox b z) where
  pub bad_is_near : (i j : ℕ) → i < j → i < length curves → j < length curves
      → AreArcBad (curve_of curves i) (curve_of curves j) → AreNear reaches marks i j
  bad_is_near i j o k l bad = record {
    mark = m i j k l bad o;
    place = law (curve_of curves i) (curve_of curves j) (box_of (reach_of reaches i))
        (box_of (reach_of reaches j)) bad.bad (r.holds i k) (r.holds j l);
  }

-- of each pair with a half arc one is marked
pub half_arcs_marked : (d : Plan) (curves : List Curve) (marks lent : List Bool) → curves ≡ d.curves
    → lent ≡ marks → AreMarksTo curves (length curves) marks → (i j : ℕ) → IsArcPair d i j
    → IsOneMarked lent i j
half_arcs_marked d curves marks lent e f m i j p = by p.half_arc
  where
    all : AreMarksTo d.curves (length d.curves) lent
    all = subst (AreMarksTo d.curves (length d.curves)) (sym f)
        (subst (λ (cs : List Curve). AreMarksTo cs (length cs) marks) e m)

    by : HaveHalfArc (curve_of d.curves i) (curve_of d.curves j) → IsOneMarked lent i j
    by (inl h) =
        inl (all.half_arc i (let o = p.pair.order in let t = p.pair.there in omega (arith, o, t)) h)
    by (inr h) = inr (all.half_arc j p.pair.there h)

-- ---- what was found
abbrev pub seeks : List Curve → ℕ → ℕ → Type 0
seeks curves i j = AreArcBad (curve_of curves i) (curve_of curves j)

module _ (d : Plan) (n : ℕ) (size : n ≡ length d.curves) where
  pub pair_is_bad : (p : NearPair) → IsLeastPair (seeks d.curves) n p → IsArcPair d p.first p.second
  pair_is_bad p h = record {
    pair = record {
      order = h.pair.order;
      there = let t = h.pair.there in omega (arith, t, size);
      bad = h.pair.sought.bad;
    };
    half_arc = h.pair.sought.half_arc;
  }

  pub pair_is_least : (p : NearPair) → IsLeastPair (seeks d.curves) n p → (i j : ℕ)
      → IsArcPair d i j → IsLess i j p.first p.second → ⊥
  pair_is_least p h i j q l =
      h.least i j q.pair.order (let t = q.pair.there in
      omega (arith, t, size)) (record { half_arc = q.half_arc; bad = q.pair.bad }) l

  pub no_pair : ((i j : ℕ) → i < j → j < n → seeks d.curves i j → ⊥) → (i j : ℕ) → IsArcPair d i j
      → ⊥
  no_pair f i j q =
      f i j q.pair.order (let t = q.pair.there in
      omega (arith, t, size)) (record { half_arc = q.half_arc; bad = q.pair.bad })

-- ---- the lists as they are lent
pub lent_size : (curves lent : List Curve) (reaches lent_reaches : List Reach) → lent ≡ curves
    → lent_reaches ≡ reaches → AreReachesTo lent (length lent) reaches
    → length lent_reaches ≡ length curves
lent_size curves lent reaches lent_reaches e f a = ap length f ∙ a.size ∙ ap length e

pub near_lent : (d : Plan) (curves : List Curve) (reaches lent_reaches : List Reach)
    (marks : List Bool)
    → curves ≡ d.curves → lent_reaches ≡ reaches → AreReachesTo curves (length curves) reaches
    → ((i j : ℕ) → IsArcPair d i j → IsOneMarked marks i j)
    → ((c d : Curve) (a b : Box) → AreBad c d → HoldsCurve a c → HoldsCurve b d
    → (z : Vector) × Place z × InBox a z × InBox b z)
    → (i j : ℕ) → i < j → j < length lent_reaches → seeks curves i j
    → AreNear lent_reaches marks i j
near_lent d curves reaches lent_reaches marks q f r m law i j l k s =
    let r2 : AreReachesTo curves (length curves) lent_reaches = subst
    (AreReachesTo curves (length curves)) (sym f) r in
    let z = r2.size in
    bad_is_near curves lent_reaches marks r2 one law i j l (omega (arith, l, k, z))
    (omega (arith, k, z)) s
  where
    one : (i j : ℕ) → i < length curves → j < length curves
        → AreArcBad (curve_of curves i) (curve_of curves j) → i < j → IsOneMarked marks i j
    one i j k l bad o =
        let b : AreArcBad (curve_of d.curves i) (curve_of d.curves j) = subst
        (λ (cs : List Curve). AreArcBad (curve_of cs i) (curve_of cs j)) q bad in
        m i j (record {
          pair = record {
            order = o;
            there = subst (λ (cs : List Curve). j < length cs) q l;
            bad = b.bad;
          };
          half_arc = b.half_arc;
        })

pub no_pair_lent : (d : Plan) (lent : List Curve) (n : ℕ) → n ≡ length d.curves → lent ≡ d.curves
    → ((i j : ℕ) → i < j → j < n → seeks lent i j → ⊥) → (i j : ℕ) → IsArcPair d i j → ⊥
no_pair_lent d lent n size e f =
    no_pair d n size (subst (λ (cs : List Curve). (i j : ℕ) → i < j → j < n → seeks cs i j → ⊥) e f)
