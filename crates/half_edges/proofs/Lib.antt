pub mod Twins
pub mod Extending
pub mod Joining
pub mod Linking
pub mod Pigeons
pub mod Cycles
pub mod Turning
pub mod Elsewhere
