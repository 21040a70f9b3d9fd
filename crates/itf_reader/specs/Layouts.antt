-- The form by which a layout's transfers are read.
use Rattle.std.specs.Prelude.{map, length}
use Rattle.table_layout.specs.Layouts.{Layout, Table as LayoutTable}
use Rattle.itf_reader.specs.Forms.{Table, Form}

-- a table of the layout, by its topic, its name, and how many lines it has
abbrev pub wanted_of : LayoutTable → Table
wanted_of t = record { topic = t.topic; name = t.name; lines = length t.lines }

-- what a reader of a transfer wants to know of a layout
abbrev pub form_of : Layout → Form
form_of l = record { model = l.model; topics = l.topics; tables = map wanted_of l.tables }
