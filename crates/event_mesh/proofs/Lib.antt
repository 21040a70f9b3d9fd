pub mod MoreEdges
pub mod Writing
pub mod Apart
pub mod TurnedEvents
pub mod MovedEvents
