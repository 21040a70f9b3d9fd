pub mod Bars
pub mod SquareMesh
