-- A layout, without where it lies in memory.
use Rattle.std.specs.Prelude.{ℕ, List, map, Option}
use Rattle.std.specs.Option.{option_map}
use Rattle.ili_grammar.specs.Values.{codes_of}
use Rattle.resolver.specs.declared.models.LineForm as line
use Rattle.resolver.specs.Resolved.{LineForm}
use Rattle.resolver.specs.Values.{form_of, line_of, places_of}
use Rattle.table_layout.specs.declared.layouts.TableId as id
use Rattle.table_layout.specs.declared.layouts.Role as role
use Rattle.table_layout.specs.declared.layouts.Role.TheVariants as roles
use Rattle.table_layout.specs.declared.layouts.Column as column
use Rattle.table_layout.specs.declared.layouts.Table as table
use Rattle.table_layout.specs.declared.layouts.AreaOf as area
use Rattle.table_layout.specs.declared.layouts.Layout as layout
use Rattle.table_layout.specs.declared.tables.Owner as owner
use Rattle.table_layout.specs.Layouts.{Role, Main, AreaLines, SurfaceLines, Column, Table, AreaOf}
use Rattle.table_layout.specs.Layouts.{Layout}
use Rattle.table_layout.specs.Tables.{Owner}

abbrev pub id_view : Option id.TableId → Option ℕ
id_view i = option_map (λ (t : id.TableId). t.0) i

abbrev pub role_view : role.Role → Role
role_view roles.Main = Main
role_view (roles.AreaLines m c) = AreaLines m.0 c
role_view (roles.SurfaceLines m) = SurfaceLines m.0

abbrev pub column_view : column.Column → Column
column_view c = record { name = c.name; optional = c.optional; form = form_of c.form }

abbrev pub columns_view : List column.Column → List Column
columns_view cs = map column_view cs

abbrev pub lines_view : List line.LineForm → List LineForm
lines_view ls = map line_of ls

abbrev pub table_view : table.Table → Table
table_view t =
    record {
      topic = t.topic;
      name = t.name;
      role = role_view t.role;
      columns = columns_view t.columns.items;
      lines = lines_view t.lines.items;
      idents = places_of t.idents.items;
    }

abbrev pub tables_view : List table.Table → List Table
tables_view ts = map table_view ts

abbrev pub area_view : area.AreaOf → AreaOf
area_view a = record { lines = a.lines.0; main = a.main.0; column = a.column; name = a.name }

abbrev pub areas_view : List area.AreaOf → List AreaOf
areas_view as_ = map area_view as_

abbrev pub layout_view : layout.Layout → Layout
layout_view l =
    record {
      model = l.model;
      codes = codes_of l.codes;
      topics = l.topics.items;
      tables = tables_view l.tables.items;
      areas = areas_view l.areas.items;
    }

abbrev pub owner_view : owner.Owner → Owner
owner_view w = record { topic = w.topic; mains = w.mains.now; main = w.main; name = w.name.now }
