-- Matched labels, by moments: where the labels match at each step that is done, they match along
-- the live list.
-- The borders under and over the list count as neighbours with the label 0.
use Rattle.std.proofs.Common.{ℕ, List, [], ◌∷◌, refl, subst}
use Rattle.plane.specs.Forms.Vectors.{Edge}
use Rattle.plane.specs.Lists.{Each}
use Rattle.plane.specs.Runs.Steps.{Step, live, Replayed}
use Rattle.plane.specs.Faces.Labels.{Labels, Match, MatchesAt}
use Rattle.plane.proofs.LabelLemmas.Matches.{step_match}

pub live_match : (m : ℕ) (E : ℕ → Edge) (a : Labels) (done : List Step) → Replayed m E done
    → Each (MatchesAt a) done → Match a 0 (live done) 0
live_match m E a [] h k = refl
live_match m E a (s ∷ done) h k =
    step_match a s (subst (λ xs. Match a 0 xs 0) h.0 (live_match m E a done h.2 k.1)) k.0
