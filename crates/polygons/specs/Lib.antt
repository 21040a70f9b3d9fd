pub mod Circles
pub mod Leading
pub mod Outlines
pub mod Passing
pub mod Polygons
pub mod Regions
pub mod Text
