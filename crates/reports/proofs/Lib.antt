pub mod AreaLines
pub mod LineKinds
pub mod SurfaceSteps
