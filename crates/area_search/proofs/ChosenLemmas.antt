-- The certificate that is written is one: of claims that prove a drawing at a level one is chosen.
-- Main lemma: `OneCertificate`. Serves the law `one_chosen_certificate`.
pub mod OnePositions
pub mod OnePlaces
pub mod KeptLabels
pub mod OneLabels
pub mod OneNotes
pub mod OneCertificate
pub mod AllRoots
pub mod ChosenRuns
pub mod ChosenClaims
