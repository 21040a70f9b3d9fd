use Rattle.std.proofs.Common.{◌∙◌, ◌++◌, List, ℕ, ap, sym, append_assoc}
use Rattle.std.proofs.lemmas.List.{append-nil}
use Rattle.itf_lines.specs.LogicalLines.{LogicalLine}
use Rattle.itf_reader.specs.Layouts.{wanted_of}
use Rattle.table_layout.specs.Values.{table_view}
use Rattle.itf_writer.specs.Canonical.{table_lines}
use Rattle.itf_writer.specs.Runs.{lines_text, opening}
use Rattle.itf_writer.proofs.FeedSteps.{no_run, some_run}
use Rattle.itf_writer.proofs.Flat.{run_text}
use Rattle.itf_writer.proofs.feed.add_in_topic.Goals as goal

pub returns-then-is_empty-clause-added : goal.returns-then-is_empty-clause-added
returns-then-is_empty-clause-added c rows h =
    let t = wanted_of (table_view c.args.table.now) in
    let none = no_run c.args.code c.args.topics.now c.args.current t c.args.held.now rows h
    (c.is_empty.ensures.none c.if-is_empty.true) in
    sym (append-nil c.args.text.now)
    ∙ ap (λ (ls : List LogicalLine). c.args.text.now ++ lines_text c.args.code ls) (sym none.0)

pub returns-then-is_empty-clause-current : goal.returns-then-is_empty-clause-current
returns-then-is_empty-clause-current c rows h =
    let t = wanted_of (table_view c.args.table.now) in
    sym (no_run c.args.code c.args.topics.now c.args.current t c.args.held.now rows h
    (c.is_empty.ensures.none c.if-is_empty.true)).1

pub returns-clause-added : goal.returns-clause-added
returns-clause-added c rows h =
    let code = c.args.code in
    let text = c.args.text.now in
    let t = wanted_of (table_view c.args.table.now) in
    let some = some_run code c.args.current t c.args.held.now rows h
    (c.is_empty.ensures.some c.if-is_empty.false) in
    let opened = lines_text code (opening c.args.topics.now c.args.current t.topic) in
    let own = lines_text code (table_lines t.name rows) in
    c.in_ok-add_table.ensures rows some.0 h
    ∙ (ap (λ (x : List ℕ). x ++ own) c.in_ok-add_opening.ensures
    ∙ (append_assoc text opened own
    ∙ ap (λ (x : List ℕ). text ++ x)
    (run_text code c.args.topics.now c.args.current t rows some.0)))

pub returns-clause-current : goal.returns-clause-current
returns-clause-current c rows h =
    let t = wanted_of (table_view c.args.table.now) in
    (some_run c.args.code c.args.current t c.args.held.now rows h
    (c.is_empty.ensures.some c.if-is_empty.false)).1
