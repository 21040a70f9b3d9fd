use Rattle.std.proofs.Common.{◌≡◌, ◌<◌, ◌≤◌, ◌∙◌, ◌++◌, ◌∷◌, List, ℕ, ap, sym, subst, drop, length}
use Rattle.std.proofs.Common.{map, arith}
use Rattle.itf_lines.specs.LogicalLines.{LogicalLine}
use Rattle.itf_reader.specs.Layouts.{wanted_of}
use Rattle.table_layout.specs.ByTopic.{AreByTopic}
use Rattle.table_layout.specs.Values.{tables_view}
use Rattle.table_layout.specs.declared.layouts.Table.{Table as CodeTable}
use Rattle.itf_writer.specs.Canonical.{topics_lines}
use Rattle.itf_writer.specs.Runs.{lines_text}
use Rattle.itf_writer.proofs.FeedSteps.{on_ok, first_of, walked, walk_ends, table_there, set_length}
use Rattle.itf_writer.proofs.RunLemmas.{run_is}
use Rattle.itf_writer.proofs.feed.add_tables.Goals as goal

pub loop-number-init : goal.loop-number-init
loop-number-init c = record {
  count = c.requires.all;
  by_topic = (0, c.requires.by_topic);
  left = λ rows h. record {
    left = rows;
    held_left = h;
    put = ap (λ (ls : List LogicalLine). c.args.text.now ++ lines_text c.args.code ls)
        (run_is c.args.topics.now (tables_view c.args.tables.now) rows c.requires.by_topic);
  };
}

pub add_in_topic-requires : goal.add_in_topic-requires
add_in_topic-requires c =
    let i = c.loop-number.invariant in
    let n = c.loop-number.number in
    let lt = c.loop-number-test.true in
    let count = i.count in
    let tables = c.args.tables.now in
    (subst (λ (ts : List CodeTable). AreByTopic i.by_topic.0 (length c.args.topics.now)
    (tables_view ts))
    (table_there tables n c.index-tables-number.result
    (omega (arith, lt, count)) c.index-tables-number.is) i.by_topic.1).1

pub loop-number-preserved : goal.loop-number-preserved
loop-number-preserved c =
    let i = c.loop-number.invariant in
    let n = c.loop-number.number in
    let lt = c.loop-number-test.true in
    let count = i.count in
    let code = c.args.code in
    let topics = c.args.topics.now in
    let tables = c.args.tables.now in
    let held = c.loop-number.held in
    let t = c.index-tables-number.result in
    let d = c.index-held-number.result in
    let after = c.add_in_topic.new.held in
    let there : n < length tables = omega (arith, lt, count) in
    let within : n < length held = omega (arith, lt, count) in
    record {
      count = set_length held n after ∙ count;
      by_topic = (
        t.topic,
        (subst (λ (ts : List CodeTable). AreByTopic i.by_topic.0 (length topics) (tables_view ts))
            (table_there tables n t there c.index-tables-number.is) i.by_topic.1).2,
      );
      left = λ rows h.
          let l = i.left rows h in
          let f = first_of code held n d l.left within l.held_left in
          walked code held n d after c.loop-number.text c.add_in_topic.new.text
          (c.args.text.now ++ lines_text code
          (topics_lines 0 topics (map wanted_of (tables_view tables)) rows)) topics
          c.loop-number.current _ tables t l f there c.index-tables-number.is
          (c.in_ok-current.ensures.current f.own f.held_own)
          (c.in_ok-current.ensures.added f.own f.held_own);
    }

pub returns : goal.returns
returns c rows h =
    let i = c.loop-number.invariant in
    let n = c.loop-number.number in
    let all = c.loop-number-test.false in
    let count = i.count in
    on_ok c.add_closing.result
    (λ e.
    e
    ∙ walk_ends c.args.code c.loop-number.held n c.loop-number.text
    (c.args.text.now ++ lines_text c.args.code
    (topics_lines 0 c.args.topics.now (map wanted_of (tables_view c.args.tables.now)) rows))
    c.args.topics.now c.loop-number.current c.args.tables.now
    (i.left rows h) (omega (arith, all, count)))
    c.add_closing.ensures
