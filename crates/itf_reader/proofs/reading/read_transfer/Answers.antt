use Rattle.std.proofs.Common.{[], ap, refl}
use Rattle.table_layout.specs.Values.{layout_view}
use Rattle.itf_lines.specs.Views.{logical_view, lines_view}
use Rattle.itf_reader.specs.Layouts.{form_of}
use Rattle.itf_reader.specs.Reads.{read_from, end_of}
use Rattle.itf_reader.proofs.Openings.{gives_read, gives_refused, whole_took}
use Rattle.itf_reader.proofs.reading.read_transfer.Goals as goal

pub returns-clause-read : goal.returns-clause-read
returns-clause-read c =
    let f = form_of (layout_view c.args.layout.now) in
    let found = logical_view c.args.lines.now in
    let whole = whole_took f f found c.in_ok-feed.feed c.take_all.new.self
    (lines_view c.deref.result.now) refl c.in_ok-feed.ensures.opening
    (ap lines_view c.deref.ensures.value)
    c.in_ok-take_all.ensures.at c.in_ok-take_all.ensures.rows in
    gives_read f found (read_from f c.take_all.new.self [] (end_of found)) c.finish.result whole
    (c.finish.ensures.gives c.in_ok-take_all.ensures.sound.1)

pub returns-clause-refused : goal.returns-clause-refused
returns-clause-refused c =
    let f = form_of (layout_view c.args.layout.now) in
    let found = logical_view c.args.lines.now in
    let whole = whole_took f f found c.in_ok-feed.feed c.take_all.new.self
    (lines_view c.deref.result.now) refl c.in_ok-feed.ensures.opening
    (ap lines_view c.deref.ensures.value)
    c.in_ok-take_all.ensures.at c.in_ok-take_all.ensures.rows in
    gives_refused f found (read_from f c.take_all.new.self [] (end_of found)) c.finish.result whole
    (c.finish.ensures.gives c.in_ok-take_all.ensures.sound.1)
