use Rattle.std.proofs.Common.{get_or}
use Rattle.straight_predicates.proofs.Joined.{part_taken}
use Rattle.certificate_checker.proofs.LiveBlocks.{read_again}
use Rattle.certificate_checker.proofs.places.remove_some.Goals as goal

pub returns-clause-joined : goal.returns-clause-joined
returns-clause-joined c =
    let x = get_or c.args.blocks.now c.find-spot.result.block c.index-blocks-spot.result in
    part_taken c.args.blocks.now c.args.from c.find-spot.result.block c.find-spot.result.offset
    c.find-spot.ensures x c.len.result c.args.count c.min-taken.result
    (read_again c.args.blocks.now c.find-spot.result.block c.index-blocks-spot.result
    c.find-spot.ensures.known) c.len.ensures.size c.requires.some c.requires.within
    c.min-taken.ensures c.replace.new.self c.replace.ensures
