use Rattle.std.proofs.Common.{◌≡◌, length, get_or}
use Rattle.half_edges.specs.Stars.{before}
use Rattle.half_edges.proofs.Joining.{LinksUpTo}
use Rattle.half_edges.proofs.mesh.Mesh.join.Given as goal

abbrev pub invariant-loop-h : goal.invariant-loop-h
invariant-loop-h l = record {
  before : l.before ≡ get_or l.around (before (length l.around) l.h-index) 0;
  linked : LinksUpTo l.around l.initial.next l.initial.prev l.next l.prev l.h-index;
}
