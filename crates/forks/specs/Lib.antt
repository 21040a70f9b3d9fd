pub mod Zones
pub mod Bent
pub mod Grounds
pub mod Ends
pub mod ForkedStraights
