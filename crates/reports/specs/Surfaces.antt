-- The SURFACE attributes of a layout.
use Rattle.std.specs.Prelude.{ℕ, ◌+◌, List, [], ◌∷◌, ◌++◌, Option, Some, None, slice_get}
use Rattle.resolver.specs.Resolved.{LineForm}
use Rattle.table_layout.specs.Layouts.{Role, SurfaceLines, Table, Layout}
use Rattle.reports.specs.AreaNames.{topic_at, name_at}
use Rattle.reports.specs.Lines.{AreaNames}

-- a SURFACE: the table of its lines, and its main table
pub record SurfaceOf : Type 0 where
  pub lines : ℕ
  pub main : ℕ

-- the SURFACE of a table of that number and role, if it holds the lines of one
abbrev pub surface_at : ℕ → Role → List SurfaceOf
surface_at n (SurfaceLines main) = record { lines = n; main = main } ∷ []
surface_at n other = []

-- the SURFACEs of tables, the first of which has that number
abbrev pub surfaces_from : ℕ → List Table → List SurfaceOf
surfaces_from n [] = []
surfaces_from n (t ∷ ts) = surface_at n t.role ++ surfaces_from (n + 1) ts

-- the SURFACEs of a layout, in the order of the tables of their lines
abbrev pub surfaces : Layout → List SurfaceOf
surfaces l = surfaces_from 0 l.tables

-- the name of the first of some lines, empty where there is none
abbrev pub first_name : List LineForm → List ℕ
first_name [] = []
first_name (l ∷ ls) = l.name

-- the name of the line of a table, which is that of its attribute; empty where there is no table
abbrev pub line_name : Option Table → List ℕ
line_name (Some t) = first_name t.lines
line_name None = []

-- what a SURFACE is called: the names of its topic, of its main table and of its attribute
abbrev pub surface_names : Layout → SurfaceOf → AreaNames
surface_names l s =
    record {
      topic = topic_at l (slice_get l.tables s.main);
      table = name_at (slice_get l.tables s.main);
      attribute = line_name (slice_get l.tables s.lines);
    }
