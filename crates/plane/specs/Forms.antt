-- Working forms of the rule: edges, sides, the sweep, and how edges meet.
-- Main definition: `Vectors.Vector`; an edge with its ends in the order of x, then y, is
-- `Vectors.Edge`.
-- The laws `forms`, `segments`, `rule`, `arcs` and `bends` say that they are what the rule says.
pub mod Vectors
pub mod Segments
pub mod Weights
pub mod Meets
pub mod Paths
pub mod Arcs
pub mod Boxes
pub mod Bends
