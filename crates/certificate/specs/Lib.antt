pub mod Spelling
pub mod Parts
pub mod Reading
pub mod FirstBad
pub mod Feeding
pub mod Feeds
pub mod Views
pub mod Words
