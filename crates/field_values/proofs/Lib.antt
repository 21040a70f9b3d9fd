pub mod Collinear
pub mod OnAxes
pub mod SpelledLeaves
pub mod ValuesMeet
pub mod WholeWords
