-- The places of a tube by its triangles, its corners, and a box that holds them.
use Rattle.std.proofs.Common.{◌≡◌, ◌↔◌, ◌⊎◌, inl, inr, ℕ, ◌<◌, Some, List, [], ◌∷◌, length, refl}
use Rattle.std.proofs.Common.{arith, ap, sym, ◌∙◌, subst, pos}
use Rattle.std.proofs.lemmas.Int.{ints}
use Rattle.plane.specs.Forms.Boxes.{Box, InBox}
use Rattle.plane.specs.Forms.Vectors.{Place, Vector, point}
use Rattle.plane.specs.Lists.{Each, Has}
use Rattle.plane.specs.Rule.Curves.{arc}
use Rattle.plane.specs.Tubes.Bays.{Bay, InBays, InTriangle, InTube, bays}
use Rattle.plane.specs.Tubes.Windings.{InSomeTile, IsCornerOf, Tile, strips, tiles}
use Rattle.plane.specs.declared.kinds.Curve.{Curve}
use Rattle.plane.specs.declared.kinds.Point.{Point}
use Rattle.plane.proofs.OneTube.ArcTubes.{tiles_in_tube, tube_in_tiles}
use Rattle.tubes.specs.Holding.{InTubeFrom, InTubeOf}
use Rattle.tubes.specs.Making.{IsMade}
use Rattle.tubes.specs.TubedEdges.{bays_at}
use Rattle.tubes.specs.declared.kinds.Tube.{Tube}
use Rattle.tubes.proofs.ChainEdges.{bays_are}
use Rattle.tubes.proofs.TubePoints.{outer_size}
use Rattle.level_breaks.specs.Groups.{HoldsAll, corners}
use Rattle.level_breaks.proofs.GroupEdges.{has_either, has_left, has_right}

-- ---- triangles
pub in_tiles : (a : Point) (bs : List Bay) (z : Vector) → InTube a bs z ↔ InSomeTile (tiles a bs) z
in_tiles a [] z = ((λ t. elim t [ inl h ↦ absurd h | inr h ↦ absurd h ]), (λ s. absurd s.1))
in_tiles a (b ∷ bs) z = ((λ t. tube_in_tiles a b bs z t), (λ s. tiles_in_tube a b bs z s))

-- what holds of all corners of the bays holds of all corners of the triangles
module _ (P : Point → Type 0) where
  abbrev pub AreAll : List Bay → Type 0
  AreAll bs = Each (λ b. P b.outer × P b.inner) bs

  of_tile : (t u : Tile) (v : Point) → P u.a → P u.b → P u.c → t ≡ u → IsCornerOf t v → P v
  of_tile t u v a b c e (inl h) = subst P (sym (h ∙ ap (λ (x : Tile). x.a) e)) a
  of_tile t u v a b c e (inr (inl h)) = subst P (sym (h ∙ ap (λ (x : Tile). x.b) e)) b
  of_tile t u v a b c e (inr (inr h)) = subst P (sym (h ∙ ap (λ (x : Tile). x.c) e)) c

  strip_corner : (p u : Point) (bs : List Bay) (t : Tile) (v : Point) → P p → P u → AreAll bs
      → Has t (strips p u bs) → IsCornerOf t v → P v
  strip_corner p u [] t v hp hu all h i = absurd h
  strip_corner p u (b ∷ bs) t v hp hu all (inl e) i =
      of_tile t (record { a = u; b = p; c = b.outer }) v hu hp all.0.0 e i
  strip_corner p u (b ∷ bs) t v hp hu all (inr (inl e)) i =
      of_tile t (record { a = p; b = b.inner; c = b.outer }) v hp all.0.1 all.0.0 e i
  strip_corner p u (b ∷ bs) t v hp hu all (inr (inr h)) i =
      strip_corner b.inner b.outer bs t v all.0.1 all.0.0 all.1 h i

  pub tile_corner : (a : Point) (bs : List Bay) (t : Tile) (v : Point) → P a → AreAll bs
      → Has t (tiles a bs) → IsCornerOf t v → P v
  tile_corner a [] t v ha all h i = absurd h
  tile_corner a (b ∷ bs) t v ha all (inl e) i =
      of_tile t (record { a = a; b = b.inner; c = b.outer }) v ha all.0.1 all.0.0 e i
  tile_corner a (b ∷ bs) t v ha all (inr h) i =
      strip_corner b.inner b.outer bs t v all.0.1 all.0.0 all.1 h i

  pub all_bays : (vs os : List Point) → Each P vs → Each P os → AreAll (bays vs os)
  all_bays [] os h k = tt
  all_bays (v ∷ vs) [] h k = tt
  all_bays (v ∷ vs) (o ∷ os) h k = ((k.0, h.0), all_bays vs os h.1 k.1)

each_itself : (vs : List Point) (P : Point → Type 0) → ((v : Point) → Has v vs → P v) → Each P vs
each_itself [] P f = tt
each_itself (v ∷ vs) P f = (f v (inl refl), each_itself vs P (λ w h. f w (inr h)))

pub each_has : (P : Point → Type 0) (vs : List Point) (v : Point) → Each P vs → Has v vs → P v
each_has P [] v h k = absurd k
each_has P (w ∷ vs) v h (inl e) = subst P (sym e) h.0
each_has P (w ∷ vs) v h (inr k) = each_has P vs v h.1 k

-- ---- a corner is in the tube
first_corner : (p q r : Point) → InTriangle (point p) (point p) (point q) (point r)
first_corner p q r = record {
  i = pos 1;
  j = pos 0;
  k = pos 0;
  i_least = omega (arith, ints);
  j_least = omega (arith, ints);
  k_least = omega (arith, ints);
  some = omega (arith, ints);
  is = record { x = omega (arith, ints); y = omega (arith, ints) };
}

second_corner : (p q r : Point) → InTriangle (point q) (point p) (point q) (point r)
second_corner p q r = record {
  i = pos 0;
  j = pos 1;
  k = pos 0;
  i_least = omega (arith, ints);
  j_least = omega (arith, ints);
  k_least = omega (arith, ints);
  some = omega (arith, ints);
  is = record { x = omega (arith, ints); y = omega (arith, ints) };
}

third_corner : (p q r : Point) → InTriangle (point r) (point p) (point q) (point r)
third_corner p q r = record {
  i = pos 0;
  j = pos 0;
  k = pos 1;
  i_least = omega (arith, ints);
  j_least = omega (arith, ints);
  k_least = omega (arith, ints);
  some = omega (arith, ints);
  is = record { x = omega (arith, ints); y = omega (arith, ints) };
}

from_held : (a : Point) (vs os : List Point) → 0 < length vs → length os ≡ length vs
    → InBays a (bays vs os) (point a)
from_held a [] os l e = absurd (omega (arith, l))
from_held a (v ∷ vs) [] l e = absurd (omega (arith, e))
from_held a (v ∷ vs) (o ∷ os) l e = inl (first_corner a v o)

inner_held : (a : Point) (vs os : List Point) (p : Point) → length os ≡ length vs → Has p vs
    → InBays a (bays vs os) (point p)
inner_held a [] os p e h = absurd h
inner_held a (v ∷ vs) [] p e h = absurd (omega (arith, e))
inner_held a (v ∷ vs) (o ∷ os) p e (inl s) =
    inl (subst (λ q. InTriangle (point q) (point a) (point v) (point o)) (sym s)
    (second_corner a v o))
inner_held a (v ∷ vs) (o ∷ os) p e (inr h) = inr (inner_held v vs os p (omega (arith, e)) h)

outer_held : (a : Point) (vs os : List Point) (p : Point) → length os ≡ length vs → Has p os
    → InBays a (bays vs os) (point p)
outer_held a [] [] p e h = absurd h
outer_held a [] (o ∷ os) p e h = absurd (omega (arith, e))
outer_held a (v ∷ vs) [] p e h = absurd h
outer_held a (v ∷ vs) (o ∷ os) p e (inl s) =
    inl (subst (λ q. InTriangle (point q) (point a) (point v) (point o)) (sym s)
    (third_corner a v o))
outer_held a (v ∷ vs) (o ∷ os) p e (inr h) = inr (outer_held v vs os p (omega (arith, e)) h)

-- ---- the tube that was made
module _ (level : ℕ) (c : Curve) (t : Tube) (m : IsMade (arc c) level t) where
  pub made_bays : bays_at (arc c) level ≡ bays m.after t.outer.items
  made_bays = bays_are (arc c) level m.after t.outer.items m.tube

  pub made_sizes : length t.outer.items ≡ length m.after
  made_sizes = outer_size (arc c) c.from m.after t.outer.items m.tube.outer_made

  pub held_is_in_tube : (z : Vector) → InTubeOf t z ↔ InTube c.from (bays_at (arc c) level) z
  held_is_in_tube z = (
    (λ h. subst (λ bs. InTube c.from bs z) (sym made_bays)
        (subst (λ ps. InTubeFrom ps t.outer.items z) m.inner h)),
    (λ h. subst (λ ps. InTubeFrom ps t.outer.items z) (sym m.inner)
        (subst (λ bs. InTube c.from bs z) made_bays h)),
  )

  pub held_is_in_tile : (z : Vector)
      → InTubeOf t z ↔ InSomeTile (tiles c.from (bays_at (arc c) level)) z
  held_is_in_tile z =
      let h = held_is_in_tube z in
      let k = in_tiles c.from (bays_at (arc c) level) z in ((λ s. k.0 (h.0 s)), (λ s. h.1 (k.1 s)))

  inner_is : (v : Point) → Has v (c.from ∷ m.after) ↔ Has v t.inner.items
  inner_is v = ((λ h. subst (Has v) (sym m.inner) h), (λ h. subst (Has v) m.inner h))

  -- a corner of a triangle is a corner of the tube
  pub corner_is_corner : (tile : Tile) (v : Point) → Has tile (tiles c.from (bays_at (arc c) level))
      → IsCornerOf tile v → Has v (corners c (Some t))
  corner_is_corner tile v h i =
      tile_corner (λ w. Has w (corners c (Some t))) c.from (bays m.after t.outer.items) tile v
      (inner_in c.from (inl refl))
      (all_bays (λ w. Has w (corners c (Some t))) m.after t.outer.items
      (each_itself m.after _ (λ w k. inner_in w (inr k)))
      (each_itself t.outer.items _ (λ w k. has_right w t.inner.items t.outer.items k)))
      (subst (λ bs. Has tile (tiles c.from bs)) made_bays h) i
    where
      inner_in : (w : Point) → Has w (c.from ∷ m.after) → Has w (corners c (Some t))
      inner_in w k = has_left w t.inner.items t.outer.items ((inner_is w).0 k)

  -- a corner of the tube is in it
  pub corner_is_held : (v : Point) → 0 < length m.after → Has v (corners c (Some t))
      → InTubeOf t (point v)
  corner_is_held v l h =
      (held_is_in_tube (point v)).1
      (subst (λ bs. InTube c.from bs (point v)) (sym made_bays)
      (inl (by_chain (has_either v t.inner.items t.outer.items h))))
    where
      of_inner : Has v (c.from ∷ m.after) → InBays c.from (bays m.after t.outer.items) (point v)
      of_inner (inl e) =
          subst (λ w. InBays c.from (bays m.after t.outer.items) (point w)) (sym e)
          (from_held c.from m.after t.outer.items l made_sizes)
      of_inner (inr k) = inner_held c.from m.after t.outer.items v made_sizes k

      by_chain : Has v t.inner.items ⊎ Has v t.outer.items
          → InBays c.from (bays m.after t.outer.items) (point v)
      by_chain (inl k) = of_inner ((inner_is v).1 k)
      by_chain (inr k) = outer_held c.from m.after t.outer.items v made_sizes k

  -- a box that holds the corners holds the tube
  module _ (law : (b : Box) (z : Vector) (v : Point) (bs : List Bay) → Place z → InBox b (point v)
      → Each (λ k. InBox b (point k.outer) × InBox b (point k.inner)) bs → InTube v bs z
      → InBox b z) where
    pub tube_in_box : (b : Box) (z : Vector) → Place z → HoldsAll b (corners c (Some t))
        → InTubeOf t z → InBox b z
    tube_in_box b z Z all h =
        law b z c.from (bays m.after t.outer.items) Z (of_corner c.from (inl refl))
        (all_bays (λ w. InBox b (point w)) m.after t.outer.items
        (each_itself m.after _ (λ w k. of_corner w (inr k)))
        (each_itself t.outer.items _
        (λ w k. each_has (λ p. InBox b (point p)) (corners c (Some t)) w all
        (has_right w t.inner.items t.outer.items k))))
        (subst (λ bs. InTube c.from bs z) made_bays ((held_is_in_tube z).0 h))
      where
        of_corner : (w : Point) → Has w (c.from ∷ m.after) → InBox b (point w)
        of_corner w k =
            each_has (λ p. InBox b (point p)) (corners c (Some t)) w all
            (has_left w t.inner.items t.outer.items ((inner_is w).0 k))
