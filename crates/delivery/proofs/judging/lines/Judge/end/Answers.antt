use Rattle.std.proofs.Common.{rules, ◌≡◌, Err}
use Rattle.itf_lines.specs.Feeds.{line_if}
use Rattle.itf_lines.specs.Views.{line_view}
use Rattle.itf_reader.specs.Layouts.{form_of}
use Rattle.itf_reader.specs.Reads.{fault_at}
use Rattle.table_layout.specs.Values.{layout_view}
use Rattle.delivery.specs.Judging.{lines_of}
use Rattle.delivery.proofs.Closings.{few_total, refused_at, are_kept, kept_err}
use Rattle.delivery.proofs.judging.lines.Judge.end.Goals as goal

pub finish-requires : goal.finish-requires
finish-requires g c sound =
    let l = layout_view c.args.layout.now in
    let r = c.requires.text in
    few_total _ g.K.RowKeeper.has_rows l r.0 c.args.self r.1
    (line_if c.in_ok-whole.whole (line_view c.finish_line.new.line)) c.in_ok-whole.end
    c.in_ok-whole.ensures.ends (c.from_the_opening.ensures l.codes.continued r.0)
    (c.numbers_rise.ensures.few l.codes.continued r.0)

pub returns-in_err-finish : goal.returns-in_err-finish
returns-in_err-finish g c text h =
    let l = layout_view c.args.layout.now in
    let rows = c.take_last.new.rows in
    let took = c.in_ok-take_last.ensures in
    let e : c.from_residual-in_err-finish.result ≡ Err c.in_err-finish.field-0.0 = search rules in
    rw e (kept_err _ g.K.RowKeeper.has_rows l text
    (fault_at rows.feed.at c.in_ok-whole.end) c.in_err-finish.field-0.0
    (c.in_err-finish.ensures.sound (took.sound (h.takes.sound h.opened.sound)))
    (refused_at _ g.K.RowKeeper.has_rows l text c.args.self h
    (line_if c.in_ok-whole.whole (line_view c.finish_line.new.line)) c.in_ok-whole.end
    c.in_ok-whole.ensures.ends (c.from_the_opening.ensures l.codes.continued text)
    rows.feed.at rows.kept took.at took.taken
    (c.from_the_opening-2.ensures.refuses (form_of l) (lines_of l text))))

pub returns : goal.returns
returns g c text h =
    let l = layout_view c.args.layout.now in
    let rows = c.take_last.new.rows in
    let took = c.in_ok-take_last.ensures in
    are_kept _ g.K.RowKeeper.has_rows l text c.args.self h
    (line_if c.in_ok-whole.whole (line_view c.finish_line.new.line)) c.in_ok-whole.end
    c.in_ok-whole.ensures.ends (c.from_the_opening.ensures l.codes.continued text)
    rows.feed.at rows.kept took.at took.taken
    (c.from_the_opening-2.ensures.reads (form_of l) (lines_of l text))
    (c.from_the_opening-2.ensures.shows (form_of l))
    (c.in_ok-finish.ensures.sound (took.sound (h.takes.sound h.opened.sound)))
