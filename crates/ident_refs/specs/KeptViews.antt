-- What the code keeps of rows, without where it lies in memory.
use Rattle.std.specs.Prelude.{◌≡◌, ℕ, List, map, Option}
use Rattle.ili_grammar.specs.Values.{codes_of}
use Rattle.table_layout.specs.Layouts.{Layout}
use Rattle.table_layout.specs.Values.{table_view}
use Rattle.itf_reader.specs.Forms.{Row}
use Rattle.ident_refs.specs.declared.references.KeptRef.{KeptRef}
use Rattle.ident_refs.specs.declared.references.NamedRow.{NamedRow}
use Rattle.ident_refs.specs.declared.repeats.KeyColumn.{KeyColumn}
use Rattle.ident_refs.specs.declared.row_keys.RowKeys.{RowKeys}
use Rattle.ident_refs.specs.declared.table_keys.TableKeys.{TableKeys}
use Rattle.ident_refs.specs.declared.feed.KeyFeed.{KeyFeed}
use Rattle.ident_refs.specs.KeptRows.{Ref, Kept, kept_rows}
use Rattle.ident_refs.specs.NamedRows.{Named}
use Rattle.ident_refs.specs.RowKeys.{rows_in}
use Rattle.ident_refs.specs.SharedLists.{lists_view, picked}

abbrev pub ref_view : KeptRef → Ref
ref_view r = record { line = r.line; column = r.column; table = r.table; word = r.word }

abbrev pub refs_view : List KeptRef → List Ref
refs_view rs = map ref_view rs

-- the keys of each row by the parts of the lists of its table
abbrev pub rows_view : RowKeys → List (List (Option (List ℕ)))
rows_view k = rows_in k.keys.items k.rows.items

abbrev pub kept_view : TableKeys → Kept
kept_view t = record {
  codes = codes_of t.reader.codes.now;
  table = table_view t.reader.table.now;
  lines = t.lines.items;
  ids = t.ids.items;
  lists = picked (lists_view (rows_view t.rows) t.idents.lists.items) t.idents.order.items;
  refs = refs_view t.refs.items;
}

abbrev pub all_kept_view : List TableKeys → List Kept
all_kept_view ts = map kept_view ts

-- the identifications of all tables
abbrev pub ids_view : List KeyColumn → List (List (Option (List ℕ)))
ids_view columns = map (λ (c : KeyColumn). c.keys.now) columns

abbrev pub row_lines_view : List KeyColumn → List (List ℕ)
row_lines_view columns = map (λ (c : KeyColumn). c.lines.now) columns

-- the feed has taken these rows of a layout's tables, each with the number of its table
abbrev pub HasRows : Layout → KeyFeed → List (ℕ × Row) → Type 0
HasRows l feed rows = all_kept_view feed.tables.items ≡ kept_rows l rows

-- the rows that references name
abbrev pub name_view : NamedRow → Named
name_view n = record { line = n.line; row = n.row }

abbrev pub named_view : List NamedRow → List Named
named_view ns = map name_view ns
