use Rattle.std.proofs.Common.{ap, ◌∙◌}
use Rattle.itf_writer.specs.Feeds.{held_in}
use Rattle.itf_writer.proofs.FeedSteps.{one_none}
use Rattle.itf_writer.proofs.feed.no_rows.Goals as goal

pub loop-preserved : goal.loop-preserved
loop-preserved c =
    ap held_in c.in_ok-push.ensures.items
    ∙ one_none c.loop.held.items c.in_ok-new.field-0 c.loop.counter c.args.code c.loop.invariant
    c.in_ok-new.ensures
