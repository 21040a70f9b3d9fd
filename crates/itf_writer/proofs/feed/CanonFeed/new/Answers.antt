use Rattle.std.proofs.Common.{◌≡◌, ap, ◌∙◌, ℕ, [], length, replicate, rules}
use Rattle.table_layout.specs.Values.{layout_view}
use Rattle.itf_writer.specs.Feeds.{rows_held}
use Rattle.itf_writer.proofs.FeedSteps.{none_held}
use Rattle.itf_writer.proofs.feed.CanonFeed.new.Goals as goal

pub returns : goal.returns
returns c =
    let l = layout_view c.args.layout.now in
    let n : c.len.result ≡ length c.args.layout.now.tables.items = search rules in
    c.in_ok-tables.ensures
    ∙ (ap (λ (n : ℕ). replicate n (rows_held l.codes.continued [])) n
    ∙ none_held l.codes.continued 0 c.args.layout.now.tables.items)
