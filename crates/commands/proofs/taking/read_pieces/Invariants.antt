use Rattle.std.proofs.Common.{◌≡◌, ◌≤◌, ◌<◌, ◌+◌, ℕ, List, length}
use Rattle.ports.specs.Reading.{OnlyReads}
use Rattle.commands.specs.Reading.{IsFront}
use Rattle.commands.proofs.taking.read_pieces.Given as goal

-- the front of the file was taken
abbrev pub invariant-loop : goal.invariant-loop
invariant-loop g l = record {
  piece : 0 < length l.piece.items;
  front : (front : List ℕ) × (length front ≡ l.from)
      × IsFront (g.S.Shelf.held l.fn.shelf) l.name front × g.T.Taker.took l.fn.taker front l.taker;
  counted : l.counter ≤ l.from;
  small : l.from ≤ l.limit;
  room : (n : ℕ) → l.from + n ≤ l.limit → g.T.Taker.can_take l.taker n;
  reads : OnlyReads (g.S.Shelf.readable l.fn.shelf l.name)
      (g.S.Shelf.held l.fn.shelf) (g.S.Shelf.read_faults l.fn.shelf)
      (g.S.Shelf.write_faults l.fn.shelf) (g.S.Shelf.readable l.fn.shelf)
      (g.S.Shelf.space l.fn.shelf)
      (g.S.Shelf.held l.shelf) (g.S.Shelf.read_faults l.shelf) (g.S.Shelf.write_faults l.shelf)
      (g.S.Shelf.readable l.shelf) (g.S.Shelf.space l.shelf);
}
