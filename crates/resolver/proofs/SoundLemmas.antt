-- A model that breaks no rule stands for what is written, and that is sound.
pub mod NoFault
pub mod Checked
pub mod NamedModels
pub mod SoundForms
pub mod SoundAttributes
pub mod SoundModels
pub mod StandingForms
pub mod StandingAttributes
pub mod StandingModels
