use Rattle.std.proofs.Common.{◌≡◌, ◌++◌, drop, length, map, List, ℕ}
use Rattle.itf_reader.specs.Forms.{Row}
use Rattle.itf_reader.specs.Layouts.{wanted_of}
use Rattle.table_layout.specs.ByTopic.{AreByTopic}
use Rattle.table_layout.specs.Values.{tables_view}
use Rattle.itf_writer.specs.Canonical.{topics_lines}
use Rattle.itf_writer.specs.Feeds.{held_in, rows_held}
use Rattle.itf_writer.specs.Runs.{lines_text}
use Rattle.itf_writer.proofs.FeedSteps.{Left}
use Rattle.itf_writer.proofs.feed.add_tables.Given as goal

-- the lines so far were added, and those of the other tables are left
abbrev pub invariant-loop-number : goal.invariant-loop-number
invariant-loop-number l = record {
  count : length l.held ≡ length l.tables;
  by_topic : (low : ℕ) × AreByTopic low (length l.topics) (tables_view (drop l.number l.tables));
  left : (rows : List (List Row)) → held_in l.fn.held ≡ map (rows_held l.code) rows
      → Left l.code l.held l.number l.text
      (l.fn.text ++ lines_text l.code
      (topics_lines 0 l.topics (map wanted_of (tables_view l.tables)) rows)) l.topics l.current
      l.tables;
}
