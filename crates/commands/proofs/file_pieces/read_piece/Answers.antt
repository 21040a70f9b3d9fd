use Rattle.std.proofs.Common.{sym}
use Rattle.ports.specs.declared.Failed.{Failed}
use Rattle.commands.proofs.Pieces.{more}
use Rattle.commands.proofs.file_pieces.read_piece.Goals as goal

pub returns-in-Ok-clause-front : goal.returns-in-Ok-clause-front
returns-in-Ok-clause-front g c front e h =
    more Failed (g.S.Shelf.held c.args.shelf.now) c.args.name.now front c.read.new.into c.in-Ok.n
    c.args.from (sym e) h c.in-Ok.ensures.bytes

pub returns-in-Ok-clause-reads : goal.returns-in-Ok-clause-reads
returns-in-Ok-clause-reads g c = record {
  held = c.read.ensures.held;
  reads = c.read.ensures.reads;
  writes = c.read.ensures.writes;
  ready = record { readable = c.read.ensures.readable; space = c.read.ensures.space };
  stay = λ r. c.in-Ok.ensures.uncounted;
}

pub returns-in-Err-clause-reads : goal.returns-in-Err-clause-reads
returns-in-Err-clause-reads g c = record {
  held = c.read.ensures.held;
  reads = c.read.ensures.reads;
  writes = c.read.ensures.writes;
  ready = record { readable = c.read.ensures.readable; space = c.read.ensures.space };
  stay = λ r. absurd (let e = c.in-Err.ensures.answers r in cc);
}
