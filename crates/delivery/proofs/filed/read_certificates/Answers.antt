use Rattle.std.proofs.Common.{ℕ, subst}
use Rattle.commands.specs.Reading.{IsWhole}
use Rattle.commands.proofs.Results.{if_ok}
use Rattle.delivery.proofs.FiledFeeds.{whole_list}
use Rattle.delivery.proofs.filed.read_certificates.Goals as goal

pub returns-clause-whole : goal.returns-clause-whole
returns-clause-whole g c =
    let held = g.S.Shelf.held c.args.shelf.now in
    let w = c.in_ok-read_pieces.ensures.whole in
    let text = w.0 in
    let e = whole_list (record { feed = c.new.result }) c.read_pieces.new.taker text
    c.new.ensures.gives w.2 in
    let f = c.finish.ensures in (
      text,
      subst (λ (n : ℕ). IsWhole held c.args.name.now n text) c.limit.ensures.limit w.1,
      record {
        found = if_ok _ _ c.finish.result (λ list h. record { spelt = h.0; spells = h.1 })
            (f.found text e);
        only = λ cs s. f.only text e cs s.spelt s.spells;
        first_bad = f.first_bad text e;
        paired = f.paired;
      },
    )
