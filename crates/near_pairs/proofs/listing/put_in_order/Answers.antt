use Rattle.std.proofs.Common.{T, arith, refl, subst, sym}
use Rattle.std.proofs.Math.Facts.{ltb_yes}
use Rattle.near_pairs.proofs.PairLists.{in_order}
use Rattle.near_pairs.proofs.listing.put_in_order.Goals as goal

pub returns : goal.returns
returns c =
    in_order c.args.finds.now.codes.items c.sort_unstable.new.self.items c.dedup.new.self.items
    c.sort_unstable.ensures.permutation c.dedup.ensures.filtered c.sort_unstable.ensures.sorted
    c.args.most _ refl
    (λ e.
    let n = c.len.ensures in
    let more = ltb_yes (subst T (sym e) tt) in
    omega (arith, n, more))
