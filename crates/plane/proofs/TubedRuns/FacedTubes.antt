-- The tube that a half-edge faces, by its number, and the half-edge of each edge that faces it.
use Rattle.std.proofs.Common.{◌≡◌, ℕ, suc, List, refl, ap, sym, ◌∙◌, inl, inr, arith, subst}
use Rattle.std.proofs.lemmas.Int.{ints}
use Rattle.plane.specs.declared.kinds.Point.{Point}
use Rattle.plane.specs.Forms.Vectors.{Edge, Before}
use Rattle.plane.specs.Rule.Plans.{Plan}
use Rattle.plane.specs.Faces.Halves.{Half, under, over, edge_of, twin}
use Rattle.plane.specs.Tubes.Facing.{way}
use Rattle.plane.specs.Tubes.Bays.{Bay}
use Rattle.plane.specs.CurveRuns.TubedRuns.{Part, whole, inner, outer, owned, owner, IsOfTube}
use Rattle.plane.specs.CurveRuns.TubedRuns.{third_is_left, FacesTube, runs_on, half_within}
use Rattle.plane.specs.CurveRuns.FacedTubes.{on_one_side, tube_tag, faced}
use Rattle.plane.proofs.Windings.Ways.{half_or_twin}
use Rattle.plane.proofs.TubedRuns.FacingHalves.{side_edge}

self_tag : (h : Half) (n : ℕ) → on_one_side h h n ≡ n
self_tag (under e) n = refl
self_tag (over e) n = refl

twin_tag : (h : Half) (n : ℕ) → on_one_side (twin h) h n ≡ 0
twin_tag (under e) n = refl
twin_tag (over e) n = refl

no_tag : (g h : Half) → on_one_side g h 0 ≡ 0
no_tag (under e) (under f) = refl
no_tag (under e) (over f) = refl
no_tag (over e) (under f) = refl
no_tag (over e) (over f) = refl

no_suc : (n c : ℕ) → n ≡ 0 → n ≡ suc c → ⊥
no_suc n c e f = omega (arith, e, f)

tag_same : (g h : Half) (n c : ℕ) → edge_of g ≡ edge_of h → on_one_side g h n ≡ suc c
    → (g ≡ h) × (n ≡ suc c)
tag_same (under e) (under f) n c q t = (ap (λ (x : ℕ). under x) q, t)
tag_same (over e) (over f) n c q t = (ap (λ (x : ℕ). over x) q, t)
tag_same (under e) (over f) n c q t = absurd (no_suc 0 c refl t)
tag_same (over e) (under f) n c q t = absurd (no_suc 0 c refl t)

part_tag : (p : Part) (i : ℕ) → IsOfTube p → tube_tag p i ≡ suc i
part_tag whole i o = absurd o
part_tag inner i o = refl
part_tag outer i o = refl

tag_part : (p : Part) (i c : ℕ) → tube_tag p i ≡ suc c → IsOfTube p × (i ≡ c)
tag_part whole i c e = absurd (no_suc 0 c refl e)
tag_part inner i c e = (tt, omega (arith, e))
tag_part outer i c e = (tt, omega (arith, e))

pub edge_twin : (g : Half) → edge_of (twin g) ≡ edge_of g
edge_twin (over e) = refl
edge_twin (under e) = refl

module _ (d : Plan) (bays : ℕ → List Bay) (E : ℕ → Edge) where
  abbrev within : ℕ → Half
  within = half_within d bays E

  abbrev tag : ℕ → ℕ
  tag e = tube_tag (owned d bays e).part (owned d bays e).curve

  pub edge_within : (e : ℕ) → edge_of (within e) ≡ e
  edge_within e =
      side_edge (third_is_left (owner d bays e)) (owned d bays e).part
      (runs_on (owner d bays e) (E e)) e

  faced_at : (h : Half) (e : ℕ) → edge_of h ≡ e
      → faced d bays E h ≡ on_one_side h (within e) (tag e)
  faced_at h e q = ap (λ (x : ℕ). on_one_side h (within x) (tag x)) q

  pub faced_within : (e : ℕ) → IsOfTube (owned d bays e).part
      → faced d bays E (within e) ≡ suc (owned d bays e).curve
  faced_within e o = faced_at (within e) e (edge_within e) ∙ self_tag (within e) (tag e)
      ∙ part_tag (owned d bays e).part (owned d bays e).curve o

  pub faced_twin : (e : ℕ) → faced d bays E (twin (within e)) ≡ 0
  faced_twin e = faced_at (twin (within e)) e (edge_twin (within e) ∙ edge_within e)
      ∙ twin_tag (within e) (tag e)

  pub faced_whole : (h : Half) → (owned d bays (edge_of h)).part ≡ whole → faced d bays E h ≡ 0
  faced_whole h p =
      ap (λ (x : Part). on_one_side h (within (edge_of h))
      (tube_tag x (owned d bays (edge_of h)).curve)) p ∙ no_tag h (within (edge_of h))

  -- what a number says of a half-edge
  pub record IsFaced (h : Half) (c : ℕ) : Type 0 where
    pub part : IsOfTube (owned d bays (edge_of h)).part
    pub curve : (owned d bays (edge_of h)).curve ≡ c
    pub is : h ≡ within (edge_of h)

  pub faced_is : (h : Half) (c : ℕ) → faced d bays E h ≡ suc c → IsFaced h c
  faced_is h c e =
      let t = tag_same h (within (edge_of h)) (tag (edge_of h)) c
      (sym (edge_within (edge_of h))) e in
      let p = tag_part (owned d bays (edge_of h)).part (owned d bays (edge_of h)).curve c t.1 in
      record { part = p.0; curve = p.1; is = t.0 }

  pub not_faced : (h : Half) → IsOfTube (owned d bays (edge_of h)).part → faced d bays E h ≡ 0
      → h ≡ twin (within (edge_of h))
  not_faced h o e = elim (half_or_twin (within (edge_of h)) h (edge_within (edge_of h))) [
    | inr q ↦ q
    | inl q ↦ absurd
        (no_suc (faced d bays E h) (owned d bays (edge_of h)).curve e (ap (faced d bays E) q
        ∙ faced_within (edge_of h) o))
  ]

  -- one half-edge of an edge faces its tube
  before_differs : (p q : Point) → Before p q → p ≡ q → ⊥
  before_differs p q (inl l) e = let x = ap (λ (v : Point). v.x) e in omega (arith, ints, x, l)
  before_differs p q (inr l) e =
      let y = ap (λ (v : Point). v.y) e in let k = l.1 in omega (arith, ints, y, k)

  way_back : (g : Half) → Before (E (edge_of g)).low (E (edge_of g)).high → way E (twin g) ≡ way E g
      → ⊥
  way_back g b q = before_differs (E (edge_of g)).low (E (edge_of g)).high b (both g q)
    where
      both : (g : Half) → way E (twin g) ≡ way E g → (E (edge_of g)).low ≡ (E (edge_of g)).high
      both (over e) q = sym (ap (λ (x : Edge). x.low) q)
      both (under e) q = ap (λ (x : Edge). x.low) q

  pub one_faces : (e : ℕ) (g h : Half) → Before (E e).low (E e).high → FacesTube d bays E e g
      → FacesTube d bays E e h → h ≡ g
  one_faces e g h b fg fh = elim (half_or_twin g h (fg.edge ∙ sym fh.edge)) [
    | inl q ↦ q
    | inr q ↦ absurd
        (way_back g (subst (λ (x : ℕ). Before (E x).low (E x).high) (sym fg.edge) b)
        (sym (ap (way E) q) ∙ fh.left ∙ sym fg.left))
  ]
