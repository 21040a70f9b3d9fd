use Rattle.near_pairs.proofs.PairLists.{added_in_order}
use Rattle.near_pairs.proofs.listing.add.Goals as goal

pub returns-then-len-most : goal.returns-then-len-most
returns-then-len-most c =
    added_in_order c.args.most c.args.code c.args.finds.now c.put_in_order.new.finds
    c.push.new.self.items c.requires c.in_ok-push.ensures.items c.put_in_order.ensures
