pub mod Faults
pub mod Sides
pub mod DrawingFaces
pub mod FaceLists
pub mod Telling
pub mod Rings
pub mod Tracing
pub mod FaultLists
