-- The polygons of the faces of a drawing are those of its objects.
use Rattle.std.proofs.Common.{◌≡◌, ℕ, ◌<◌, ◌⊎◌, inl, inr, List, [], ◌∷◌, ◌++◌, length, slice_index}
use Rattle.std.proofs.Common.{ap, sym, subst, append-nil, append_assoc, ◌∙◌, pos, arith}
use Rattle.std.specs.List.{All}
use Rattle.std.proofs.lemmas.List.{length-map}
use Rattle.std.proofs.lemmas.List.Elements.{All-head, All-tail}
use Rattle.table_layout.specs.Layouts.{AreaOf, Layout}
use Rattle.plane.specs.declared.drawing.Drawing.{Drawing}
use Rattle.polygons.specs.Leading.{shapes}
use Rattle.polygons.specs.Text.{Plain}
use Rattle.polygons.specs.declared.kinds.Polygon.{Polygon}
use Rattle.reports.specs.AreaKinds.{plans}
use Rattle.plane.specs.declared.kinds.CurveKind.TheVariants as kind
use Rattle.plane.specs.declared.kinds.Point.{Point}
use Rattle.plane.specs.Rule.Cuts.{HasNoCut}
use Rattle.plane.specs.Rule.Partition.{IsPartition}
use Rattle.plane.specs.Rule.Plans.{Plan, object, plan}
use Rattle.area_search.specs.declared.kinds.FacedDrawing.{FacedDrawing}
use Rattle.area_search.specs.Faced.{IsFacedDrawing, edge}
use Rattle.polygons.specs.Outlines.{AreChosen, outline, outlines}
use Rattle.polygons.specs.Regions.{ArePolygonsOf}
use Rattle.polygons.proofs.Bounding.{bounds}
use Rattle.tubes.specs.DrawnEdges.{AreStraights}
use Rattle.delivery.specs.AreaPolygons.{HasHalfArc, IsSkippedOrArea, IsWrittenArea, AreWrittenAreas}

-- of straights it is an area
pub is_area : (d : Plan) → AreStraights d → HasHalfArc d ⊎ (IsPartition d × HasNoCut d)
    → IsPartition d × HasNoCut d
is_area d s (inr a) = a
is_area d s (inl (i, h)) = absurd (kinds (sym (s i h.there) ∙ h.kind))
  where
    kinds : kind.Straight ≡ kind.HalfArc → ⊥
    kinds e = cc

pub object_polygons : (d : Plan) (f : FacedDrawing) (at : List Point) (faces : List ℕ)
    (os : List (List (List Point)))
    → HasNoCut d → IsFacedDrawing d f → at ≡ f.at.items → faces ≡ f.points.items
    → AreChosen f.mesh at faces os → ArePolygonsOf d (edge d) os
object_polygons d f at faces os whole is places given chosen = record {
  size = chosen.size ∙ (ap length given ∙ is.points);
  each = λ k l.
      let p = is.each k l in
      let there : k < length faces = omega (arith, l, ap length given, is.points) in
      bounds (pos 0) d (edge d) is.steps is.run whole f.mesh is.mesh_is is.turned at (places
      ∙ is.at_is) (is.faces_are (pos 0)) (object d k) p.events p.place (p.located (pos 0))
      (slice_index faces k) (p.face_is (pos 0) ∙ ap (λ (ns : List ℕ). slice_index ns k) (sym given))
      (λ e. is.inner k l (ap (λ (ns : List ℕ). slice_index ns k) (sym given) ∙ e))
      (outline os k) (chosen.each k there);
}

-- there are as many polygons as objects
pub rings_size : (d : Plan) (polygons : List Polygon) → ArePolygonsOf d (edge d) (outlines polygons)
    → length polygons ≡ length d.points
rings_size d polygons h = sym (length-map polygons (λ (p : Polygon). shapes p.rings.items)) ∙ h.size

-- ---- one area after the other
-- what is written of some areas may be followed by what is written of the rest
abbrev pub WrittenOn : Layout → List AreaOf → List Plan → List AreaOf → List Plan → List Plain
    → Type 0
WrittenOn l all ds rest es ps = (qs : List Plain) → AreWrittenAreas l rest es qs
    → AreWrittenAreas l all ds (ps ++ qs)

pub write_first : (l : Layout) (all rest : List AreaOf) (ds es : List Plan) (ps : List Plain)
    → rest ≡ all → es ≡ ds → ps ≡ [] → WrittenOn l all ds rest es ps
write_first l all rest ds es ps e f n qs h =
    subst (λ (zs : List Plain). AreWrittenAreas l all ds (zs ++ qs)) (sym n)
    (subst (λ (bs : List AreaOf). AreWrittenAreas l bs ds qs) e
    (subst (λ (zs : List Plan). AreWrittenAreas l rest zs qs) f h))

pub write_on : (l : Layout) (all rest : List AreaOf) (ds es : List Plan) (a : AreaOf) (d : Plan)
    (as_ : List AreaOf) (fs : List Plan) (ps : List Plain) (p : Plain) (more : List Plain)
    → rest ≡ a ∷ as_ → es ≡ d ∷ fs → more ≡ ps ++ p ∷ [] → IsWrittenArea l a d p
    → WrittenOn l all ds rest es ps → WrittenOn l all ds as_ fs more
write_on l all rest ds es a d as_ fs ps p more e f m h g qs k =
    let whole : AreWrittenAreas l rest es (p ∷ qs) =
    subst (λ (bs : List AreaOf). AreWrittenAreas l bs es (p ∷ qs)) (sym e)
    (subst (λ (zs : List Plan). AreWrittenAreas l (a ∷ as_) zs (p ∷ qs)) (sym f) (h, k)) in
    let joined : ps ++ p ∷ qs ≡ more ++ qs = sym (append_assoc ps (p ∷ []) qs)
    ∙ ap (λ (zs : List Plain). zs ++ qs) (sym m) in
    subst (AreWrittenAreas l all ds) joined (g (p ∷ qs) whole)

pub all_written : (l : Layout) (all rest : List AreaOf) (ds es : List Plan) (ps : List Plain)
    → rest ≡ [] → es ≡ [] → WrittenOn l all ds rest es ps → AreWrittenAreas l all ds ps
all_written l all rest ds es ps e f g =
    let last : AreWrittenAreas l rest es [] = subst
    (λ (bs : List AreaOf). AreWrittenAreas l bs es []) (sym e)
    (subst (λ (zs : List Plan). AreWrittenAreas l [] zs []) (sym f) tt) in
    subst (AreWrittenAreas l all ds) (append-nil ps) (g [] last)

-- drawings that can be written, one after the other
pub area_first : (all : List Drawing) (d : Drawing) (rest : List Drawing) → all ≡ d ∷ rest
    → All IsSkippedOrArea (plans all) → IsSkippedOrArea (plan d)
area_first all d rest e h =
    All-head IsSkippedOrArea (plan d) (plans rest)
    (subst (λ (ds : List Drawing). All IsSkippedOrArea (plans ds)) e h)

pub area_rest : (all : List Drawing) (d : Drawing) (rest : List Drawing) → all ≡ d ∷ rest
    → All IsSkippedOrArea (plans all) → All IsSkippedOrArea (plans rest)
area_rest all d rest e h =
    All-tail IsSkippedOrArea (plan d) (plans rest)
    (subst (λ (ds : List Drawing). All IsSkippedOrArea (plans ds)) e h)
