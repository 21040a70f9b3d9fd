-- The corners of a tube's triangles are ends of its bounds, and where these are edges of a run the
-- ends are events.
use Rattle.std.proofs.Common.{◌≡◌, ℕ, ◌<◌, inl, inr, List, [], ◌∷◌, map, refl, sym, ◌∙◌, subst}
use Rattle.plane.specs.declared.kinds.Point.{Point}
use Rattle.plane.specs.Lists.{Has}
use Rattle.plane.specs.Forms.Vectors.{Edge}
use Rattle.plane.specs.Forms.Meets.{IsEnd}
use Rattle.plane.specs.Faces.Replays.{Replay}
use Rattle.plane.specs.Faces.Halves.{Half, under, over, edge_of}
use Rattle.plane.specs.Tubes.Bays.{Bay}
use Rattle.plane.specs.Tubes.Windings.{arrow, Tile, strips, tiles, fence, bounds}
use Rattle.plane.specs.Tubes.Facing.{way}
use Rattle.plane.proofs.Windings.TubeCells.{from_map}
use Rattle.plane.proofs.Windings.Whole.{IsWhole}
use Rattle.plane.proofs.ListLemmas.Lists.{has_map}

-- the point is an end of one of the arrows
abbrev pub AtArrow : List Edge → Point → Type 0
AtArrow es p = (e : Edge) × Has e es × IsEnd e p

pub record AreCorners (es : List Edge) (t : Tile) : Type 0 where
  pub a : AtArrow es t.a
  pub b : AtArrow es t.b
  pub c : AtArrow es t.c

later : (e : Edge) (es : List Edge) (p : Point) → AtArrow es p → AtArrow (e ∷ es) p
later e es p h = (h.0, inr h.1, h.2)

later_corners : (e : Edge) (es : List Edge) (t : Tile) → AreCorners es t → AreCorners (e ∷ es) t
later_corners e es t h = record {
  a = later e es t.a h.a;
  b = later e es t.b h.b;
  c = later e es t.c h.c;
}

strip_corners : (p u : Point) (ks : List Bay) (t : Tile) → Has t (strips p u ks)
    → AreCorners (fence p u ks) t
strip_corners p u [] t m = absurd m
strip_corners p u (k ∷ ks) t (inl e) = subst (AreCorners (fence p u (k ∷ ks))) (sym e) (record {
  a = (arrow k.outer u, inr (inl refl), inr refl);
  b = (arrow p k.inner, inl refl, inl refl);
  c = (arrow k.outer u, inr (inl refl), inl refl);
})
strip_corners p u (k ∷ ks) t (inr (inl e)) =
    subst (AreCorners (fence p u (k ∷ ks))) (sym e) (record {
      a = (arrow p k.inner, inl refl, inl refl);
      b = (arrow p k.inner, inl refl, inr refl);
      c = (arrow k.outer u, inr (inl refl), inl refl);
    })
strip_corners p u (k ∷ ks) t (inr (inr m)) =
    later_corners (arrow p k.inner) (arrow k.outer u ∷ fence k.inner k.outer ks) t
    (later_corners (arrow k.outer u) (fence k.inner k.outer ks) t
    (strip_corners k.inner k.outer ks t m))

pub tile_corners : (a : Point) (ks : List Bay) (t : Tile) → Has t (tiles a ks)
    → AreCorners (bounds a ks) t
tile_corners a [] t m = absurd m
tile_corners a (k ∷ ks) t (inl e) = subst (AreCorners (bounds a (k ∷ ks))) (sym e) (record {
  a = (arrow a k.inner, inl refl, inl refl);
  b = (arrow a k.inner, inl refl, inr refl);
  c = (arrow k.outer a, inr (inl refl), inl refl);
})
tile_corners a (k ∷ ks) t (inr m) =
    later_corners (arrow a k.inner) (arrow k.outer a ∷ fence k.inner k.outer ks) t
    (later_corners (arrow k.outer a) (fence k.inner k.outer ks) t
    (strip_corners k.inner k.outer ks t m))

pub arrow_end : (E : ℕ → Edge) (h : Half) (p : Point) → IsEnd (way E h) p → IsEnd (E (edge_of h)) p
arrow_end E (over e) p h = h
arrow_end E (under e) p (inl h) = inr h
arrow_end E (under e) p (inr h) = inl h

end_way : (E : ℕ → Edge) (h : Half) (p : Point) → IsEnd (E (edge_of h)) p → IsEnd (way E h) p
end_way E (over e) p i = i
end_way E (under e) p (inl i) = inr i
end_way E (under e) p (inr i) = inl i

-- an end of an edge is an end of its arrow
pub edge_arrow : (E : ℕ → Edge) (es : List Edge) (hs : List Half) (h : Half) (p : Point)
    → es ≡ map (way E) hs → Has h hs → IsEnd (E (edge_of h)) p → AtArrow es p
edge_arrow E es hs h p b m i = (
  way E h,
  subst (λ (xs : List Edge). Has (way E h) xs) (sym b) (has_map (way E) h hs m),
  end_way E h p i,
)

-- the corners of the triangles are ends of the edges
pub corner_edge : (E : ℕ → Edge) (es : List Edge) (hs : List Half) (p : Point) → es ≡ map (way E) hs
    → AtArrow es p → (h : Half) × Has h hs × IsEnd (E (edge_of h)) p
corner_edge E es hs p b (e, m, i) =
    let h = from_map (way E) e hs (subst (λ (xs : List Edge). Has e xs) b m) in
    (h.0, h.1, arrow_end E h.0 p (subst (λ (x : Edge). IsEnd x p) h.2 i))

module _ (r : Replay) (whole : IsWhole r) where
  -- an end of an edge is an event
  pub end_event : (e : ℕ) (p : Point) → e < r.edges → IsEnd (r.edge e) p
      → (j : ℕ) × (j < r.steps) × ((r.step j).at ≡ p)
  end_event e p l (inl h) = let j = whole.run.begins e l in (j.0, j.1, j.2 ∙ h)
  end_event e p l (inr h) = let j = whole.run.ends e l in (j.0, j.1, j.2 ∙ h)
