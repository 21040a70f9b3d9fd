-- SURFACEs of the code, by the numbers of their tables.
use Rattle.std.specs.Prelude.{List, map}
use Rattle.reports.specs.Surfaces.{SurfaceOf}
use Rattle.reports.specs.declared.surfaces.SurfaceOf as code

abbrev pub surface_view : code.SurfaceOf → SurfaceOf
surface_view s = record { lines = s.lines.0; main = s.main.0 }

abbrev pub surfaces_view : List code.SurfaceOf → List SurfaceOf
surfaces_view ss = map surface_view ss
