pub mod Parts
pub mod TellingKinds
