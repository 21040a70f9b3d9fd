pub mod HalfEdges
pub mod Meshes
pub mod Stars
pub mod Arena
pub mod Cycles
