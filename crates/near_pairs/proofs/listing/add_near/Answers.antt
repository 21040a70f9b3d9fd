use Rattle.std.proofs.Common.{length, rules}
use Rattle.std.proofs.lemmas.Result.{on_ok_weaker}
use Rattle.near_pairs.proofs.PairLists.{pair_found}
use Rattle.near_pairs.proofs.listing.add_near.Goals as goal

pub returns-then-are_level-clause-pairs : goal.returns-then-are_level-clause-pairs
returns-then-are_level-clause-pairs g c =
    on_ok_weaker c.add_sought.result
    (pair_found (g.T.PairTest.sought c.args.test.now) c.args.most c.in_order.result c.args.finds.now
    c.add_sought.new.finds c.args.number c.args.item.now.number (length c.args.boxes.now)
    c.requires.there c.requires.known (search rules) c.in_order.ensures.less
    c.in_order.ensures.greater
    c.requires.pairs) c.add_sought.ensures
