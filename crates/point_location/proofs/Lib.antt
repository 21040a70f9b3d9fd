pub mod PlaneLaws
pub mod Moments
pub mod Numbers
pub mod PointPlaces
pub mod Replays
pub mod Placed
pub mod Signs
