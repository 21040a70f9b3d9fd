-- Which table has a name.
use Rattle.std.specs.Prelude.{ℕ, List, Bool, ◌&&◌, ◌==◌, nat_eq, Option}
use Rattle.std.specs.List.{position_from}
use Rattle.std.specs.Cmp.Lexicographic.{pointwise}
use Rattle.table_layout.specs.Layouts.{Table, Layout}

-- the table stands in this topic and has this name
abbrev pub is_named : ℕ → List ℕ → Table → Bool
is_named topic name t = (t.topic == topic) && pointwise nat_eq t.name name

-- the number of the first table of this name in this topic, or none where there is no such table
abbrev pub number_of : Layout → ℕ → List ℕ → Option ℕ
number_of l topic name = position_from (is_named topic name) 0 l.tables
