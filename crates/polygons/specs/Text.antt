-- The text of the polygons of areas.
use Rattle.std.specs.Prelude.{ℕ, List, [], ◌∷◌, ◌++◌, Option, Some, None, codes, length, map}
use Rattle.std.specs.Fmt.{decimal, signed_decimal}
use Rattle.std.specs.List.{flat_map, zip}
use Rattle.plane.specs.declared.kinds.Placed.{Placed}
use Rattle.plane.specs.declared.kinds.Point.{Point}
use Rattle.polygons.specs.declared.areas.AreaObjects.{AreaObjects}
use Rattle.polygons.specs.declared.areas.AreaObjects.TheVariants.{Polygons, Skipped}
use Rattle.polygons.specs.declared.areas.AreaPolygons.{AreaPolygons}
use Rattle.polygons.specs.declared.areas.ObjectPolygon.{ObjectPolygon}
use Rattle.polygons.specs.Leading.{shapes}

-- The polygon of an object by its rings, with the object's line of the transfer.
pub record Object : Type 0 where
  pub line : ℕ
  pub rings : List (List Point)

-- An area by its names, and its objects in order; none where it is skipped.
pub record Plain : Type 0 where
  pub topic : List ℕ
  pub table : List ℕ
  pub attribute : List ℕ
  pub objects : Option (List Object)

-- words with one blank between two, and LF after the last
abbrev pub line : List (List ℕ) → List ℕ
line [] = codes "\n"
line (word ∷ []) = word ++ codes "\n"
line (word ∷ next ∷ words) = word ++ (codes " " ++ line (next ∷ words))

-- the line of a corner, in whole units
abbrev pub corner_line : Point → List ℕ
corner_line p = line (signed_decimal p.x ∷ signed_decimal p.y ∷ [])

-- a ring: how many corners it has, and the corners
abbrev pub ring_text : List Point → List ℕ
ring_text corners =
    line (codes "RING" ∷ decimal (length corners) ∷ []) ++ flat_map corner_line corners

-- an object: its line of the transfer, how many rings it has, and the rings
abbrev pub object_text : Object → List ℕ
object_text o =
    line (codes "POINT" ∷ decimal o.line ∷ decimal (length o.rings) ∷ [])
    ++ flat_map ring_text o.rings

-- how many objects an area has, or that it is skipped
abbrev pub count_word : Option (List Object) → List ℕ
count_word None = codes "SKIPPED"
count_word (Some objects) = decimal (length objects)

-- the objects that are written, none where the area is skipped
abbrev pub objects_of : Option (List Object) → List Object
objects_of None = []
objects_of (Some objects) = objects

-- an area: its names and how many objects it has, and the objects
abbrev pub area_text : Plain → List ℕ
area_text a =
    line (codes "AREA" ∷ a.topic ∷ a.table ∷ a.attribute ∷ count_word a.objects ∷ [])
    ++ flat_map object_text (objects_of a.objects)

-- the text of a list of areas
abbrev pub polygons_text : List Plain → List ℕ
polygons_text areas =
    line (codes "ITFPOLY" ∷ codes "1" ∷ [])
    ++ (line (codes "AREAS" ∷ decimal (length areas) ∷ [])
    ++ (flat_map area_text areas ++ line (codes "END" ∷ [])))

-- the polygons of objects, each with the line of the object's point
abbrev pub with_lines : List Placed → List (List (List Point)) → List Object
with_lines points polygons =
    map (λ (o : Placed × List (List Point)). record { line = o.0.line; rings = o.1 })
    (zip points polygons)

-- ---- what the code has
abbrev pub object_view : ObjectPolygon → Object
object_view o = record { line = o.line; rings = shapes o.polygon.rings.items }

abbrev pub objects_view : AreaObjects → Option (List Object)
objects_view Skipped = None
objects_view (Polygons objects) = Some (map object_view objects.items)

abbrev pub view : AreaPolygons → Plain
view a =
    record {
      topic = a.topic;
      table = a.table;
      attribute = a.attribute;
      objects = objects_view a.objects;
    }

abbrev pub views : List AreaPolygons → List Plain
views areas = map view areas

-- a blank and a word
abbrev pub next_word : List ℕ → List ℕ
next_word word = codes " " ++ word

-- what follows the names of an area
abbrev pub rest_text : Option (List Object) → List ℕ
rest_text objects =
    next_word (count_word objects) ++ (codes "\n" ++ flat_map object_text (objects_of objects))
