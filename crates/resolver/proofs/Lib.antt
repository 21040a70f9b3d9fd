pub mod ListLemmas
pub mod ScopeLemmas
pub mod BuildLemmas
pub mod SoundLemmas
pub mod RuleLemmas
pub mod TextLemmas
pub mod Hints
