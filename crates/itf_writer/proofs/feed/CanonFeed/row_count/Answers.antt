use Rattle.std.proofs.Common.{ap, ◌∙◌}
use Rattle.itf_reader.specs.ClosedRows.{by_table}
use Rattle.itf_reader.specs.Layouts.{form_of}
use Rattle.itf_writer.specs.Feeds.{held_in}
use Rattle.itf_writer.proofs.feed.CanonFeed.row_count.Goals as goal

pub returns : goal.returns
returns c l rows h =
    c.rows_at.ensures l.codes.continued (by_table (form_of l) rows)
    (ap held_in c.deref.ensures.value ∙ h)
