use Rattle.ports.proofs.ShortCopies.{two_pieces}
use Rattle.ports.proofs.short.copy_ends.Goals as goal

pub returns-clause-front : goal.returns-clause-front
returns-clause-front c =
    two_pieces c.args.piece c.args.bytes.now c.args.into.now c.copy_from_slice.new.self
    c.copy_from_slice-2.new.self c.copy_from_slice.ensures.after
    c.copy_from_slice-2.ensures.after c.requires.within c.requires.twice c.requires.room
