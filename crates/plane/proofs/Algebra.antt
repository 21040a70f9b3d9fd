-- Identities, signs, sizes and sums of whole numbers.
-- Main lemma: `Ring.ring`, which decides a polynomial identity by computing.
-- Serves all other lemmas.
pub mod Laws
pub mod Ring
pub mod Scaling
pub mod Bounds
pub mod CrossProducts
pub mod Sums
