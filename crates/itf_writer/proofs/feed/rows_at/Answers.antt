use Rattle.std.proofs.Common.{rules}
use Rattle.itf_writer.proofs.FeedSteps.{count_at, count_beyond}
use Rattle.itf_writer.proofs.feed.rows_at.Goals as goal

pub returns-in-Some : goal.returns-in-Some
returns-in-Some c code transfer h =
    count_at code c.args.tables.now transfer c.args.place c.in-Some.held.now h
    c.in-Some.ensures.lookup.3.0 c.in-Some.ensures.lookup.1

pub returns-in-None : goal.returns-in-None
returns-in-None c code transfer h =
    count_beyond code c.args.tables.now transfer c.args.place h (search rules)
