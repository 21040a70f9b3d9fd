use Rattle.std.proofs.Common.{length, arith}
use Rattle.ident_refs.proofs.PartNumbers.{places_step, stay_on}
use Rattle.ident_refs.proofs.SharedSteps.{all_within_more}
use Rattle.ident_refs.proofs.ident_lists.place_numbers.Goals as goal

pub loop-place-preserved : goal.loop-place-preserved
loop-place-preserved c =
    let old = c.loop-place.parts.items in
    let new = c.part_number.new.parts.items in
    let more = c.loop-place.invariant.more in
    let longer = c.in_ok-part_number.ensures.more in
    record {
      more = omega (arith, more, longer);
      grown = stay_on c.args.parts.now.items old new more c.loop-place.invariant.grown
          c.in_ok-part_number.ensures.grown;
      within =
          all_within_more (length old) (length new) c.in_ok-part_number.field-0
          c.loop-place.numbers.items c.push.new.self.items c.in_ok-push.ensures.items
          c.loop-place.invariant.within longer c.in_ok-part_number.ensures.within;
      own =
          places_step c.args.places.now c.loop-place.place-index 0 old new
          c.loop-place.numbers.items c.push.new.self.items c.in_ok-part_number.field-0
          c.loop-place-test.true c.in_ok-push.ensures.items c.in_ok-part_number.ensures.grown
          c.in_ok-part_number.ensures.own c.loop-place.invariant.within
          c.loop-place.invariant.own;
    }
