use Rattle.std.proofs.Common.{arith, refl, slice_index_or, ◌∙◌}
use Rattle.std.proofs.lemmas.List.{length-set}
use Rattle.polygons.proofs.TakenPolygons.{left_more, taken_more}
use Rattle.polygons.proofs.choosing.take_chosen.Goals as goal

pub loop-number-preserved : goal.loop-number-preserved
loop-number-preserved c =
    let k = c.loop-number.number in
    let ns = c.args.chosen.now in
    let n = slice_index_or ns k 0 in
    let i = c.loop-number.invariant in
    let l = c.loop-number-test.true in
    let known = c.requires.known k l in
    let count = i.count in
    record {
      count = length-set c.loop-number.all n c.take_polygon.new.polygon ∙ i.count;
      left = left_more c.args.all.now c.loop-number.all ns k n c.take_polygon.new.polygon
          c.requires.apart l refl i.left;
      taken = taken_more c.args.all.now c.loop-number.all ns k n c.index-all-chosen.result
          c.take_polygon.result c.loop-number.taken.items c.push.new.self.items
          l refl (omega (arith, known, count)) i.left c.take_polygon.ensures
          c.in_ok-push.ensures.items i.taken;
    }
