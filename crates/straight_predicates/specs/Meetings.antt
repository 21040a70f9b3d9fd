-- How two edges meet, and how far their ends may lie apart.
use Rattle.std.specs.Prelude.{◌^◌}
use Rattle.plane.specs.declared.kinds.Point.{Point}
use Rattle.plane.specs.declared.kinds.Edge.{Edge}
use Rattle.plane.specs.Rule.Turns.{AreNear}
use Rattle.plane.specs.Forms.Meets as edges
use Rattle.straight_predicates.specs.declared.meets.Meet.{Meet}
use Rattle.straight_predicates.specs.declared.meets.Meet.TheVariants as answer

-- Two points differ by less than 2 ^ 41 units in each coordinate.
abbrev pub AreClose : Point → Point → Type 0
AreClose p q = AreNear (2 ^ 41) p q

-- Every two of the four ends are close.
pub record EdgesAreClose (s t : Edge) : Type 0 where
  pub first : AreClose s.low s.high
  pub second : AreClose t.low t.high
  pub low_low : AreClose s.low t.low
  pub low_high : AreClose s.low t.high
  pub high_low : AreClose s.high t.low
  pub high_high : AreClose s.high t.high

-- The edges meet as the answer says.
abbrev pub IsMeet : Meet → Edge → Edge → Type 0
IsMeet answer.Apart s t = edges.Disjoint s t
IsMeet answer.CommonEnd s t = edges.Touch s t
IsMeet answer.Bad s t = edges.Bad s t

-- Some point is an end of both edges.
abbrev pub ShareEnd : Edge → Edge → Type 0
ShareEnd s t = (p : Point) × edges.IsEnd s p × edges.IsEnd t p
