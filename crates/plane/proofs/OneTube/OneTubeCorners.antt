-- An end of a tube's edge that lies in a triangle of the tube is a corner of that triangle.
use Rattle.std.proofs.Common.{inl, inr, ℕ, ◌<◌, List, [], ◌∷◌, ◌++◌, length, get_or, refl, sym, ◌∙◌}
use Rattle.std.proofs.Common.{subst}
use Rattle.plane.specs.declared.kinds.Point.{Point}
use Rattle.plane.specs.declared.kinds.Curve.{Curve}
use Rattle.plane.specs.declared.kinds.CurveKind.TheVariants as kind
use Rattle.plane.specs.Lists.{Each, Has}
use Rattle.plane.specs.Forms.Vectors.{point, Edge}
use Rattle.plane.specs.Forms.Arcs.{HalfArc}
use Rattle.plane.specs.Rule.Curves.{arc}
use Rattle.plane.specs.Forms.Meets.{IsEnd}
use Rattle.plane.specs.Tubes.Bays.{Bay, AreBays, IsTube}
use Rattle.plane.specs.Tubes.Windings.{Tile, InTile, strips, tiles, IsCornerOf}
use Rattle.plane.specs.CurveRuns.TubedRuns.{inner, outer, Owned, chain, inner_corners}
use Rattle.plane.specs.CurveRuns.TubedRuns.{outer_corners, edges_of, no_edge, Connects}
use Rattle.plane.proofs.ListLemmas.Lists.{each_append}
use Rattle.plane.proofs.ListLemmas.ListPairs.{each_at}
use Rattle.plane.proofs.OneTube.ArcTubes.{triangle_to, swapped}
use Rattle.plane.proofs.OneTube.ChainEdges.{EndsAt, ends_at}
use Rattle.plane.proofs.OneTube.EdgesApart.{FromCorner, OnlyInBays, OnlyInGaps, corners_in_bays}
use Rattle.plane.proofs.OneTube.EdgesApart.{corners_in_gaps}

-- ---- corners in triangles
strips_only : (p : Point) (b : Bay) (bs : List Bay) → OnlyInBays p b.inner bs
    → OnlyInGaps p (b ∷ bs) → (t : Tile) → Has t (strips b.inner b.outer bs) → InTile t (point p)
    → IsCornerOf t p
strips_only p b [] u v t k i = absurd k
strips_only p b (d ∷ rest) u v t (inl e) i =
    subst (λ (s : Tile). IsCornerOf s p) (sym e)
    (elim (v.0 (swapped (point p) b.outer b.inner d.outer
    (triangle_to (record { a = b.outer; b = b.inner; c = d.outer }) (point p)
    (subst (λ (s : Tile). InTile s (point p)) e i)))) [
      | inl q ↦ inr (inl q)
      | inr (inl q) ↦ inl q
      | inr (inr q) ↦ inr (inr q)
    ])
strips_only p b (d ∷ rest) u v t (inr (inl e)) i =
    subst (λ (s : Tile). IsCornerOf s p) (sym e)
    (u.0 (triangle_to (record { a = b.inner; b = d.inner; c = d.outer }) (point p)
    (subst (λ (s : Tile). InTile s (point p)) e i)))
strips_only p b (d ∷ rest) u v t (inr (inr k)) i = strips_only p d rest u.1 v.1 t k i

tiles_only : (h : HalfArc) (p v : Point) (bs : List Bay) → AreBays h v bs → FromCorner p v bs
    → (t : Tile) → Has t (tiles v bs) → InTile t (point p) → IsCornerOf t p
tiles_only h p v [] a c t k i = absurd k
tiles_only h p v (b ∷ rest) a c t (inl e) i =
    subst (λ (s : Tile). IsCornerOf s p) (sym e)
    ((corners_in_bays h p v (b ∷ rest) a c).0
    (triangle_to (record { a = v; b = b.inner; c = b.outer }) (point p)
    (subst (λ (s : Tile). InTile s (point p)) e i)))
tiles_only h p v (b ∷ rest) a c t (inr k) i =
    strips_only p b rest (corners_in_bays h p v (b ∷ rest) a c).1
    (corners_in_gaps h p v (b ∷ rest) a c) t k i

-- ---- ends of edges are corners
-- P holds of both ends
abbrev OfEnds : (Point → Type 0) → Owned → Type 0
OfEnds P x = P x.from × P x.to

start_corner : (v : Point) (bs : List Bay) → FromCorner v v bs
start_corner v [] = refl
start_corner v (b ∷ rest) = inl refl

last_corner : (v e : Point) (bs : List Bay) → EndsAt v e bs → FromCorner e v bs
last_corner v e [] end = sym end
last_corner v e (b ∷ rest) end = inr (inr (last_corner b.inner e rest end))

inner_ends : (P : Point → Type 0) (i : ℕ) (v : Point) (bs : List Bay)
    → ((p : Point) → FromCorner p v bs → P p) → Each (OfEnds P) (chain i inner v (inner_corners bs))
inner_ends P i v [] f = tt
inner_ends P i v (b ∷ rest) f = (
  (f v (inl refl), f b.inner (inr (inr (start_corner b.inner rest)))),
  inner_ends P i b.inner rest (λ p c. f p (inr (inr c))),
)

outer_ends : (P : Point → Type 0) (i : ℕ) (q v e : Point) (bs : List Bay) → P q
    → ((p : Point) → FromCorner p v bs → P p) → EndsAt v e bs
    → Each (OfEnds P) (chain i outer q (outer_corners bs ++ e ∷ []))
outer_ends P i q v e [] k f end = ((k, f e (sym end)), tt)
outer_ends P i q v e (b ∷ rest) k f end = (
  (k, f b.outer (inr (inl refl))),
  outer_ends P i b.outer b.inner e rest
      (f b.outer (inr (inl refl))) (λ p c. f p (inr (inr c))) end,
)

tube_ends : (i : ℕ) (c : Curve) (bs : List Bay) → IsTube (arc c) bs
    → Each (OfEnds (λ p. FromCorner p c.from bs)) (edges_of i kind.HalfArc c bs)
tube_ends i c [] t = absurd t.some
tube_ends i c (b ∷ rest) t =
    each_append _ (chain i inner c.from (inner_corners (b ∷ rest)))
    (chain i outer c.from (outer_corners (b ∷ rest) ++ c.to ∷ []))
    (inner_ends _ i c.from (b ∷ rest) (λ p k. k))
    (outer_ends _ i c.from c.from c.to (b ∷ rest) (inl refl) (λ p k. k)
    (ends_at c.to c.from b rest t.ends))

pub own_corners : (i : ℕ) (c : Curve) (bs : List Bay) (e : ℕ) (a : Edge) (p : Point) (t : Tile)
    → IsTube (arc c) bs → e < length (edges_of i kind.HalfArc c bs)
    → Connects a (get_or (edges_of i kind.HalfArc c bs) e no_edge).from
    (get_or (edges_of i kind.HalfArc c bs) e no_edge).to
    → IsEnd a p → Has t (tiles c.from bs) → InTile t (point p) → IsCornerOf t p
own_corners i c bs e a p t is l k end has there =
    tiles_only (arc c) p c.from bs is.are_bays corner t has there
  where
    ends : OfEnds (λ q. FromCorner q c.from bs) (get_or (edges_of i kind.HalfArc c bs) e no_edge)
    ends = each_at _ (edges_of i kind.HalfArc c bs) e no_edge (tube_ends i c bs is) l

    of : (u v : Point) → Connects a u v → FromCorner u c.from bs → FromCorner v c.from bs
        → IsEnd a p → FromCorner p c.from bs
    of u v (inl k) f g (inl q) = subst (λ (r : Point). FromCorner r c.from bs) (sym k.0 ∙ q) f
    of u v (inl k) f g (inr q) = subst (λ (r : Point). FromCorner r c.from bs) (sym k.1 ∙ q) g
    of u v (inr k) f g (inl q) = subst (λ (r : Point). FromCorner r c.from bs) (sym k.0 ∙ q) g
    of u v (inr k) f g (inr q) = subst (λ (r : Point). FromCorner r c.from bs) (sym k.1 ∙ q) f

    corner : FromCorner p c.from bs
    corner = of _ _ k ends.0 ends.1 end
