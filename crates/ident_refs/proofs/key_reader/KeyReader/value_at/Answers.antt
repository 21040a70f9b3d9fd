use Rattle.std.proofs.Common.{List, [], ◌++◌, map, replicate, sym, ap, ◌∙◌, arith}
use Rattle.ili_grammar.specs.Values.{codes_of}
use Rattle.table_layout.specs.Values.{columns_view, table_view}
use Rattle.itf_reader.specs.declared.transfer.Stroke.{Stroke}
use Rattle.itf_reader.specs.Views.{row_of, strokes_of}
use Rattle.ident_refs.specs.declared.key_reader.Span.{Span}
use Rattle.ident_refs.specs.Spans.{span_view}
use Rattle.ident_refs.proofs.SpanLaws.{span_here}
use Rattle.ident_refs.proofs.RowValues.{span_within, words_wide, column_got, line_behind}
use Rattle.ident_refs.proofs.SameAnswers.{same_answer}
use Rattle.ident_refs.proofs.key_reader.KeyReader.value_at.Goals as goal

pub words-requires-clause-ordered : goal.words-requires-clause-ordered
words-requires-clause-ordered c =
    let f = span_here (codes_of c.args.self.now.codes.now)
    (columns_view c.args.self.now.table.now.columns.items) c.deref.result.now c.args.place
    c.in-Some.span.now
    (ap (λ (l : List Span). map span_view l) c.deref.ensures.value
    ∙ c.args.self.now.spread) c.in-Some.ensures.lookup.3.0 c.in-Some.ensures.lookup.1 in
    let wide = f.wide in
    omega (arith, wide)

pub words-requires-clause-within : goal.words-requires-clause-within
words-requires-clause-within c =
    let f = span_here (codes_of c.args.self.now.codes.now)
    (columns_view c.args.self.now.table.now.columns.items) c.deref.result.now c.args.place
    c.in-Some.span.now
    (ap (λ (l : List Span). map span_view l) c.deref.ensures.value
    ∙ c.args.self.now.spread) c.in-Some.ensures.lookup.3.0 c.in-Some.ensures.lookup.1 in
    span_within (codes_of c.args.self.now.codes.now) (table_view c.args.self.now.table.now)
    (row_of c.args.row.now) c.args.place c.in-Some.span.now c.deref-in-Some.result.now
    c.deref-in-Some.ensures.value c.requires f

pub form_value-requires : goal.form_value-requires
form_value-requires c =
    let f = span_here (codes_of c.args.self.now.codes.now)
    (columns_view c.args.self.now.table.now.columns.items) c.deref.result.now c.args.place
    c.in-Some.span.now
    (ap (λ (l : List Span). map span_view l) c.deref.ensures.value
    ∙ c.args.self.now.spread) c.in-Some.ensures.lookup.3.0 c.in-Some.ensures.lookup.1 in
    words_wide (codes_of c.args.self.now.codes.now) (table_view c.args.self.now.table.now)
    (row_of c.args.row.now) c.args.place c.in-Some.span.now c.deref-in-Some.result.now
    c.words.result.now
    c.deref-in-Some.ensures.value c.requires f c.words.ensures

pub returns-in-Some : goal.returns-in-Some
returns-in-Some c =
    let f = span_here (codes_of c.args.self.now.codes.now)
    (columns_view c.args.self.now.table.now.columns.items) c.deref.result.now c.args.place
    c.in-Some.span.now
    (ap (λ (l : List Span). map span_view l) c.deref.ensures.value
    ∙ c.args.self.now.spread) c.in-Some.ensures.lookup.3.0 c.in-Some.ensures.lookup.1 in
    c.form_value.ensures
    ∙ column_got (codes_of c.args.self.now.codes.now) (table_view c.args.self.now.table.now)
    (row_of c.args.row.now) c.deref.result.now c.args.place c.in-Some.span.now
    c.deref-in-Some.result.now c.words.result.now
    (ap (λ (l : List Span). map span_view l) c.deref.ensures.value
    ∙ c.args.self.now.spread) c.in-Some.ensures.lookup.3.0 f c.deref-in-Some.ensures.value
    c.words.ensures

pub returns-in-None : goal.returns-in-None
returns-in-None c =
    same_answer c.line_at.result _ _
    (line_behind (codes_of c.args.self.now.codes.now) (table_view c.args.self.now.table.now)
    (row_of c.args.row.now) c.deref.result.now c.args.place c.len.result
    c.args.row.now.strokes.left_out (strokes_of c.deref-in-None.result.now)
    (ap (λ (l : List Span). map span_view l) c.deref.ensures.value
    ∙ c.args.self.now.spread) c.in-None.ensures.lookup.3
    (c.len.ensures ∙ sym c.deref.ensures.len)
    (ap (λ (ss : List Stroke). strokes_of ss ++ replicate c.args.row.now.strokes.left_out [])
    c.deref-in-None.ensures.value))
    c.line_at.ensures
