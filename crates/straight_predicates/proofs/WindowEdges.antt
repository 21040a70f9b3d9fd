-- Edges of one window are close.
use Rattle.plane.specs.declared.kinds.Point.{Point}
use Rattle.plane.specs.declared.kinds.Edge.{Edge}
use Rattle.plane.specs.Rule.Windows.{IsNarrow, IsInside}
use Rattle.plane.proofs.Linear.WindowPoints.{inside_near, nearer}
use Rattle.straight_predicates.specs.Meetings.{AreClose, EdgesAreClose}

pub inside_close : (low high p q : Point) → IsNarrow low high → IsInside low high p
    → IsInside low high q → AreClose p q
inside_close low high p q n h k = nearer p q (inside_near low high p q n h k)

pub window_close : (low high : Point) (s t : Edge) → IsNarrow low high → IsInside low high s.low
    → IsInside low high s.high → IsInside low high t.low → IsInside low high t.high
    → EdgesAreClose s t
window_close low high s t n a b c d = record {
  first = inside_close low high s.low s.high n a b;
  second = inside_close low high t.low t.high n c d;
  low_low = inside_close low high s.low t.low n a c;
  low_high = inside_close low high s.low t.high n a d;
  high_low = inside_close low high s.high t.low n b c;
  high_high = inside_close low high s.high t.high n b d;
}
