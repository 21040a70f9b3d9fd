-- Where the words of columns are among the fields of a row.
use Rattle.std.specs.Prelude.{ℕ, ◌+◌, List, [], ◌∷◌}
use Rattle.resolver.specs.Resolved.{Form}
use Rattle.resolver.specs.Values.{form_of}
use Rattle.table_layout.specs.Layouts.{Column}
use Rattle.field_values.specs.Fields.{width}
use Rattle.ident_refs.specs.declared.key_reader.Span.{Span as CodeSpan}

-- the form of a column, the field that its words begin at, and the one after them
pub record Span : Type 0 where
  pub form : Form
  pub start : ℕ
  pub end : ℕ

abbrev pub span_view : CodeSpan → Span
span_view s = record { form = form_of s.form.now; start = s.start; end = s.end }

-- columns, the first of which begins at that field
abbrev pub spans_from : ℕ → List Column → List Span
spans_from start [] = []
spans_from start (c ∷ cs) =
    record { form = c.form; start = start; end = start + width c.form }
    ∷ spans_from (start + width c.form) cs
