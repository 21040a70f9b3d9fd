pub mod CommandViews
pub mod Commands
pub mod Gathering
pub mod ModelTexts
pub mod Reading
pub mod RefusalViews
pub mod TrialFiles
