pub mod Blocks
pub mod CellEdges
pub mod Held
pub mod Kinds
pub mod OpenGaps
pub mod Sweeping
pub mod TestEdges
