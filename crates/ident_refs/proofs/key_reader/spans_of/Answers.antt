use Rattle.std.proofs.Common.{List, map, ap, ◌∙◌, arith}
use Rattle.std.proofs.lemmas.List.{map-append}
use Rattle.resolver.specs.Values.{form_of}
use Rattle.ident_refs.specs.declared.key_reader.Span.{Span as CodeSpan}
use Rattle.ident_refs.specs.Spans.{span_view}
use Rattle.ident_refs.proofs.SpanLaws.{width_most, widths_step, spans_step}
use Rattle.ident_refs.proofs.key_reader.spans_of.Goals as goal

pub loop-column-preserved : goal.loop-column-preserved
loop-column-preserved c =
    let wide = width_most (form_of c.column-item.result.form) in
    let low = c.loop-column.invariant.low in
    record {
      low = omega (arith, wide, low, c.width.ensures);
      wide =
          widths_step c.loop-column.column-index c.args.columns.now c.column-item.result
          c.loop-column.start c.width.result _ c.loop-column-test.true c.column-item.is
          c.width.ensures
          c.loop-column.invariant.wide;
      spread =
          spans_step c.loop-column.column-index c.args.columns.now c.column-item.result
          c.loop-column.start c.width.result _ _ _ c.loop-column-test.true c.column-item.is
          c.width.ensures
          (ap (λ (l : List CodeSpan). map span_view l) c.in_ok-push.ensures.items
          ∙ map-append span_view _ _) c.loop-column.invariant.spread;
    }
