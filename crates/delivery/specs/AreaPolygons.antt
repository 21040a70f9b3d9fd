-- The polygons of areas.
use Rattle.std.specs.Prelude.{◌≡◌, ◌⊎◌, ℕ, List, [], ◌∷◌, Option, Some, None, ⊤}
use Rattle.plane.specs.Faces.DrawnRuns.{IsRunOf}
use Rattle.plane.specs.Rule.Cuts.{HasNoCut}
use Rattle.plane.specs.Rule.Partition.{IsPartition}
use Rattle.plane.specs.Rule.Plans.{IsHalfArc, Plan}
use Rattle.plane.specs.Runs.Steps.{Step}
use Rattle.area_search.specs.Faced.{edge}
use Rattle.commands.specs.declared.task.Filed.{Filed}
use Rattle.commands.specs.declared.task.Filed.TheVariants as filed
use Rattle.polygons.specs.Outlines.{outlines}
use Rattle.polygons.specs.Regions.{ArePolygonsOf}
use Rattle.polygons.specs.Text.{Object, Plain, with_lines}
use Rattle.reports.specs.AreaNames.{topic_name, table_name}
use Rattle.table_layout.specs.Layouts.{AreaOf, Layout}
use Rattle.tubes.specs.DrawnEdges.{AreStraights}
use Rattle.delivery.specs.declared.polygon_answers.PolygonAnswer.{PolygonAnswer}
use Rattle.delivery.specs.declared.polygon_answers.PolygonAnswer.TheVariants.{Rings, Skipped}

-- ---- one drawing
-- Some line is a half arc.
abbrev pub HasHalfArc : Plan → Type 0
HasHalfArc d = (i : ℕ) × IsHalfArc d i

-- Some line is a half arc, or the drawing is an area: a partition without a cut.
abbrev pub IsSkippedOrArea : Plan → Type 0
IsSkippedOrArea d = HasHalfArc d ⊎ (IsPartition d × HasNoCut d)

-- A sweep over the straights comes to its end.
abbrev pub HasRun : Plan → Type 0
HasRun d = (steps : List Step) × IsRunOf d (edge d) steps

-- An area with a half arc is skipped; of one of straights each object has its polygon, in order.
abbrev pub IsPolygonAnswer : Plan → PolygonAnswer → Type 0
IsPolygonAnswer d Skipped = HasHalfArc d
IsPolygonAnswer d (Rings polygons) =
    AreStraights d × HasRun d × ArePolygonsOf d (edge d) (outlines polygons.items)

-- ---- what is written
-- The polygons of an answer with the lines of their objects, none where the area is skipped.
abbrev pub objects_of : Plan → PolygonAnswer → Option (List Object)
objects_of d Skipped = None
objects_of d (Rings polygons) = Some (with_lines d.points (outlines polygons.items))

-- An area is written by its names, with the answer to its drawing.
pub record IsWrittenArea (l : Layout) (a : AreaOf) (d : Plan) (p : Plain) : Type 0 where
  pub topic : p.topic ≡ topic_name l a
  pub table : p.table ≡ table_name l a
  pub attribute : p.attribute ≡ a.name
  pub answer : PolygonAnswer
  pub is_answer : IsPolygonAnswer d answer
  pub objects : p.objects ≡ objects_of d answer

-- one for each area and its drawing, in order
abbrev pub AreWrittenAreas : Layout → List AreaOf → List Plan → List Plain → Type 0
AreWrittenAreas l [] [] [] = ⊤
AreWrittenAreas l (a ∷ as_) (d ∷ ds) (p ∷ ps) =
    IsWrittenArea l a d p × AreWrittenAreas l as_ ds ps
AreWrittenAreas l as_ ds ps = ⊥

-- where polygons are to be filed, these are those of all areas
abbrev pub ArePolygonsFor : Filed → Layout → List Plan → List Plain → Type 0
ArePolygonsFor filed.Polygons l ds ps = AreWrittenAreas l l.areas ds ps
ArePolygonsFor other l ds ps = ⊤
