-- A settled drawing keeps the rules on tubes: with face numbers each tube has one face within,
-- which has no other half-edges and is not the
-- outer one, and one face along each chain.
use Rattle.std.proofs.Common.{◌≡◌, ℕ, ◌⊎◌, inl, inr, List, [], ◌∷◌, map, ℤ, pos, ◌<ℤ◌, ◌≤ℤ◌, refl}
use Rattle.std.proofs.Common.{arith, ap, sym, ◌∙◌, subst}
use Rattle.std.proofs.lemmas.Int.{ints}
use Rattle.plane.specs.declared.kinds.Point.{Point}
use Rattle.plane.specs.Lists.{Has}
use Rattle.plane.specs.Forms.Vectors.{point, Edge}
use Rattle.plane.specs.Rule.BadPairs.{IsEndOf}
use Rattle.plane.specs.Forms.Arcs.{HalfArc, chord, along}
use Rattle.plane.specs.Rule.Plans.{Plan, curve, IsHalfArc}
use Rattle.plane.specs.Runs.Steps.{Step, Run, WeighedRun}
use Rattle.plane.specs.Faces.Replays.{Replay, replay}
use Rattle.plane.specs.Faces.Halves.{Half, twin}
use Rattle.plane.specs.Faces.Classes.{Next, IsFaces}
use Rattle.plane.specs.Tubes.Bays.{Bay}
use Rattle.plane.specs.Tubes.Windings.{arrow, fence, bounds}
use Rattle.plane.specs.Tubes.Facing.{way}
use Rattle.plane.proofs.Settling.EdgesAndTubes.{DrawnTube, IsTubeOf, EdgeList, IsEdgeList}
use Rattle.plane.proofs.Settling.EdgesSettled.{inner_halves, outer_halves, IsSettled, AreTubeFaces}
use Rattle.plane.proofs.OneTube.TubeStrips.{IsRest, before_end, tube_rest}
use Rattle.plane.proofs.Caps.Pictures.{along-from, along-to}
use Rattle.plane.proofs.OneTube.HighChords.{Rests, rests_after}
use Rattle.plane.proofs.Turning.Rotation.{next_cells}
use Rattle.plane.proofs.FaceLemmas.FaceNumbers.{beside_face, linked_is_face}
use Rattle.plane.proofs.Windings.Whole.{IsWhole, swept_whole}
use Rattle.plane.proofs.Settling.DrawnTubes.{ends_arc, tip_is}
use Rattle.plane.proofs.Settling.SettledFaces.{own_face, not_outer}
use Rattle.plane.proofs.Settling.SettledChains.{next_inside, next_outside}
use Rattle.plane.proofs.Settling.SettledFans.{first_next}

-- ---- arrows beside half-edges
abbrev Matches : (ℕ → Edge) → List Edge → List Half → Type 0
Matches E [] [] = Unit {0}
Matches E [] (h ∷ hs) = ⊥
Matches E (e ∷ es) [] = ⊥
Matches E (e ∷ es) (h ∷ hs) = (e ≡ way E h) × Matches E es hs

matches_map : (E : ℕ → Edge) (hs : List Half) → Matches E (map (way E) hs) hs
matches_map E [] = tt
matches_map E (h ∷ hs) = (refl, matches_map E hs)

-- each half-edge of a list is of the one kind or of the other
pub chains : (x : Half) (hs : List Half) → Has x hs
    → Has x (inner_halves hs) ⊎ Has x (outer_halves hs)
chains x [] m = absurd m
chains x (g ∷ []) m = inr m
chains x (g ∷ (h ∷ rest)) (inl e) = inl (inl e)
chains x (g ∷ (h ∷ rest)) (inr (inl e)) = inr (inl e)
chains x (g ∷ (h ∷ rest)) (inr (inr m)) =
    elim (chains x rest m) [ inl y ↦ inl (inr y) | inr y ↦ inr (inr y) ]

-- ---- what neighbours along a chain share, the chain shares
module _ (E : ℕ → Edge) (h : HalfArc) (Ours : Half → Type 0) (F : Half → ℕ)
    (step : (g f : Half) → Ours g → Ours f → (way E g).high ≡ (way E f).low
    → pos 0 <ℤ along h (point (way E f).low) → along h (point (way E f).low) <ℤ chord h
    → F g ≡ F f) where
  inner_same : (p u : Point) (ks : List Bay) (hs : List Half) → Matches E (fence p u ks) hs
      → ((x : Half) → Has x hs → Ours x) → pos 0 <ℤ along h (point u)
      → along h (point u) <ℤ along h (point p) → along h (point p) ≤ℤ chord h → Rests h p ks
      → (g : Half) → Ours g → (way E g).high ≡ p → (x : Half) → Has x (inner_halves hs) → F g ≡ F x
  inner_same p u [] [] m ours low up top r g og at_g x n = absurd n
  inner_same p u [] (y ∷ []) m ours low up top r g og at_g x n = absurd n
  inner_same p u [] (y ∷ (z ∷ hs)) m ours low up top r g og at_g x n = absurd m.1
  inner_same p u (k ∷ ks) [] m ours low up top r g og at_g x n = absurd m
  inner_same p u (k ∷ ks) (y ∷ []) m ours low up top r g og at_g x n = absurd n
  inner_same p u (k ∷ ks) (y ∷ (z ∷ hs)) m ours low up top r g og at_g x n =
      let on1 = r.are_bays.0.up in
      let on2 = r.are_bays.0.on in
      let end = before_end h p k ks r in
      let low_y : p ≡ (way E y).low = ap (λ (e : Edge). e.low) m.0 in
      let at_p = ap (λ (q : Point). along h (point q)) low_y in
      let first = step g y og (ours y (inl refl)) (at_g ∙ low_y)
      (omega (arith, ints, at_p, low, up)) (omega (arith, ints, at_p, on1, on2, end)) in
      elim n [
        | inl e ↦ first ∙ sym (ap F e)
        | inr q ↦ first
            ∙ inner_same k.inner k.outer ks hs m.1.1 (λ v w. ours v (inr (inr w)))
            (omega (arith, ints, low, up, on1)) on2 end (rests_after h p k ks r) y
            (ours y (inl refl)) (sym (ap (λ (e : Edge). e.high) m.0)) x q
      ]

  outer_same : (p u : Point) (ks : List Bay) (hs : List Half) → Matches E (fence p u ks) hs
      → ((x : Half) → Has x hs → Ours x) → pos 0 <ℤ along h (point u)
      → along h (point u) <ℤ along h (point p) → along h (point p) ≤ℤ chord h → Rests h p ks
      → (g : Half) → Ours g → (way E g).low ≡ u → (x : Half) → Has x (outer_halves hs) → F x ≡ F g
  outer_same p u [] [] m ours low up top r g og at_g x n = absurd n
  outer_same p u [] (y ∷ []) m ours low up top r g og at_g x (inl e) =
      let high_y : u ≡ (way E y).high = ap (λ (e : Edge). e.high) m.0 in
      let at_u = ap (λ (q : Point). along h (point q)) at_g in
      ap F e ∙ step y g (ours y (inl refl)) og (sym high_y ∙ sym at_g)
      (omega (arith, ints, at_u, low)) (omega (arith, ints, at_u, up, top))
  outer_same p u [] (y ∷ []) m ours low up top r g og at_g x (inr n) = absurd n
  outer_same p u [] (y ∷ (z ∷ hs)) m ours low up top r g og at_g x n = absurd m.1
  outer_same p u (k ∷ ks) [] m ours low up top r g og at_g x n = absurd m
  outer_same p u (k ∷ ks) (y ∷ []) m ours low up top r g og at_g x n = absurd m.1
  outer_same p u (k ∷ ks) (y ∷ (z ∷ hs)) m ours low up top r g og at_g x n =
      let on1 = r.are_bays.0.up in
      let on2 = r.are_bays.0.on in
      let end = before_end h p k ks r in
      let high_z : u ≡ (way E z).high = ap (λ (e : Edge). e.high) m.1.0 in
      let at_u = ap (λ (q : Point). along h (point q)) at_g in
      let last = step z g (ours z (inr (inl refl))) og (sym high_z ∙ sym at_g)
      (omega (arith, ints, at_u, low)) (omega (arith, ints, at_u, up, top)) in
      elim n [
        | inl e ↦ ap F e ∙ last
        | inr q ↦ outer_same k.inner k.outer ks hs m.1.1 (λ v w. ours v (inr (inr w)))
            (omega (arith, ints, low, up, on1)) on2 end (rests_after h p k ks r) z
            (ours z (inr (inl refl))) (sym (ap (λ (e : Edge). e.low) m.1.0)) x q ∙ last
      ]

-- the first half-edge of each chain, and what the chains share with it
pub record AreChains (E : ℕ → Edge) (a : Point) (k : Bay) (Ours : Half → Type 0) (F : Half → ℕ)
    (hs : List Half) : Type 0 where
  pub g : Half
  pub o : Half
  pub g_ours : Ours g
  pub o_ours : Ours o
  pub g_way : arrow a k.inner ≡ way E g
  pub o_way : arrow k.outer a ≡ way E o
  pub inner : (x : Half) → Has x (inner_halves hs) → F g ≡ F x
  pub outer : (x : Half) → Has x (outer_halves hs) → F x ≡ F o

module _ (E : ℕ → Edge) (h : HalfArc) (Ours : Half → Type 0) (F : Half → ℕ)
    (step : (g f : Half) → Ours g → Ours f → (way E g).high ≡ (way E f).low
    → pos 0 <ℤ along h (point (way E f).low) → along h (point (way E f).low) <ℤ chord h
    → F g ≡ F f) where
  chains_same : (k : Bay) (ks : List Bay) (hs : List Half) → Matches E (bounds h.from (k ∷ ks)) hs
      → ((x : Half) → Has x hs → Ours x) → IsRest h h.from k ks → AreChains E h.from k Ours F hs
  chains_same k ks [] m ours r = absurd m
  chains_same k ks (y ∷ []) m ours r = absurd m.1
  chains_same k ks (y ∷ (z ∷ hs)) m ours r =
      let f = along-from h in
      let on1 = r.are_bays.0.up in
      let on2 = r.are_bays.0.on in
      let end = before_end h h.from k ks r in
      let low : pos 0 <ℤ along h (point k.outer) = omega (arith, ints, f, on1) in
      record {
        g = y;
        o = z;
        g_ours = ours y (inl refl);
        o_ours = ours z (inr (inl refl));
        g_way = m.0;
        o_way = m.1.0;
        inner = λ x n. elim n [
          | inl e ↦ sym (ap F e)
          | inr q ↦ inner_same E h Ours F step k.inner k.outer ks hs m.1.1
              (λ v w. ours v (inr (inr w))) low on2 end (rests_after h h.from k ks r) y
              (ours y (inl refl)) (sym (ap (λ (e : Edge). e.high) m.0)) x q
        ];
        outer = λ x n. elim n [
          | inl e ↦ ap F e
          | inr q ↦ outer_same E h Ours F step k.inner k.outer ks hs m.1.1
              (λ v w. ours v (inr (inr w))) low on2 end (rests_after h h.from k ks r) z
              (ours z (inr (inl refl))) (sym (ap (λ (e : Edge). e.low) m.1.0)) x q
        ];
      }

module _ (d : Plan) (l : EdgeList) (is : IsEdgeList d l) (settled : IsSettled d l)
    (steps : List Step) (complete : Run l.edges l.edge steps) (w : ℤ)
    (swept : WeighedRun w l.edges l.edge steps)
    (face : Half → ℕ) (faces : IsFaces (replay w l.edges l.edge steps) face) where
  abbrev r : Replay
  r = replay w l.edges l.edge steps

  whole : IsWhole r
  whole = swept_whole w l.edges l.edge steps swept

  -- a half-edge and the next one have one face
  next_face : (g f : Half) → Next r g f → face g ≡ face f
  next_face g f n =
      let (c, e, C, D, bc, bd, k) = next_cells r whole.run whole.law f g n in
      sym (beside_face r whole.run whole.law face faces g c C bc)
      ∙ (linked_is_face r whole.run whole.law face faces c e C D).0 k
      ∙ beside_face r whole.run whole.law face faces f e D bd

  module _ (i : ℕ) (h : IsHalfArc d i) where
    abbrev t : DrawnTube
    t = l.tube i

    tube : IsTubeOf l.edges l.edge (curve d i) (l.tube i)
    tube = is.tubes i h

    abbrev Ours : Half → Type 0
    Ours g = Has g t.halves

    -- a corner strictly between the ends of the chord is no end of the half arc
    middle : (q : Point) → pos 0 <ℤ along t.arc (point q) → along t.arc (point q) <ℤ chord t.arc
        → IsEndOf (curve d i) q → ⊥
    middle q low high e = elim (ends_arc l.edges l.edge (curve d i) t tube q e) [
      | inl x ↦ let y = ap (λ (p : Point). along t.arc (point p)) x in let f = along-from t.arc in
          omega (arith, ints, y, f, low)
      | inr x ↦ let y =
          ap (λ (p : Point). along t.arc (point p)) (x
          ∙ tip_is t.bay t.bays t.arc.to tube.tube.ends) in let f = along-to t.arc in
          omega (arith, ints, y, f, high)
    ]

    matches : Matches l.edge (bounds t.arc.from (t.bay ∷ t.bays)) t.halves
    matches = subst (λ (es : List Edge). Matches l.edge es t.halves) (sym tube.bounds)
        (matches_map l.edge t.halves)

    inside : AreChains l.edge t.arc.from t.bay Ours face t.halves
    inside = chains_same l.edge t.arc Ours face
        (λ g f mg mf meet low high. next_face g f
        (next_inside d l is settled steps complete w swept i h g f mg mf meet
        (middle (way l.edge f).low low high)))
        t.bay t.bays t.halves matches (λ x m. m) (tube_rest t.arc t.bay t.bays tube.tube)

    outside : AreChains l.edge t.arc.from t.bay Ours (λ g. face (twin g)) t.halves
    outside = chains_same l.edge t.arc Ours (λ g. face (twin g))
        (λ g f mg mf meet low high. sym
        (next_face (twin f) (twin g)
        (next_outside d l is settled steps complete w swept i h g f mg mf meet
        (middle (way l.edge f).low low high))))
        t.bay t.bays t.halves matches (λ x m. m) (tube_rest t.arc t.bay t.bays tube.tube)

    to_first : (x : Half) → Has x t.halves → face x ≡ face inside.g
    to_first x m =
        let c = inside in
        elim (chains x t.halves m) [
          | inl n ↦ sym (c.inner x n)
          | inr n ↦ c.outer x n
              ∙ next_face c.o c.g
              (first_next d l is settled steps complete w swept i h c.g c.o c.g_ours c.o_ours
              c.g_way c.o_way)
        ]

    pub tube_faces : AreTubeFaces l face i
    tube_faces = record {
      one = λ g f mg mf. to_first g mg ∙ sym (to_first f mf);
      own = λ g f mg lf e. own_face d l is settled w steps swept face faces i h g f mg lf e;
      bounded = λ g m e. not_outer d l is settled w steps swept face faces i h g m e;
      inner = λ g f mg mf. sym (outside.inner g mg) ∙ outside.inner f mf;
      outer = λ g f mg mf. outside.outer g mg ∙ sym (outside.outer f mf);
    }
