-- No two events lie at one point.
use Rattle.std.proofs.Common.{◌≡◌, ℕ, zero, suc, ◌<◌, List, [], ◌∷◌, length, get_or, refl, arith}
use Rattle.std.proofs.Common.{ap, sym, ◌∙◌, subst}
use Rattle.std.proofs.lemmas.List.{length-map}
use Rattle.std.proofs.Math.ListN.{get_or-map}
use Rattle.plane.specs.declared.kinds.Point.{Point}
use Rattle.plane.specs.Forms.Vectors.{Before}
use Rattle.plane.specs.Lists.{Neighbours, Has, Once}
use Rattle.plane.specs.Runs.Steps.{Step}
use Rattle.plane.specs.Faces.Replays.{no_step}
use Rattle.plane.proofs.ListLemmas.SortedLists.{has_at, sorted_once}
use Rattle.plane.proofs.MoveLemmas.MadeSteps.{never}
use Rattle.plane.proofs.MoveLemmas.OneTimetable.{before_trans}
use Rattle.event_mesh.specs.Turned.{points_of}

once_places : {X : Type 0} (xs : List X) (d : X) (j k : ℕ) → Once xs → j < length xs → k < length xs
    → get_or xs j d ≡ get_or xs k d → j ≡ k
once_places [] d j k o a b e = absurd (omega (arith, a))
once_places (x ∷ xs) d zero zero o a b e = refl
once_places (x ∷ xs) d zero (suc k) o a b e =
    absurd (o.0 (subst (λ y. Has y xs) (sym e) (has_at xs k d (omega (arith, b)))))
once_places (x ∷ xs) d (suc j) zero o a b e =
    absurd (o.0 (subst (λ y. Has y xs) e (has_at xs j d (omega (arith, a)))))
once_places (x ∷ xs) d (suc j) (suc k) o a b e =
    ap (λ (n : ℕ). suc n) (once_places xs d j k o.1 (omega (arith, a)) (omega (arith, b)) e)

points_once : (pts : List Point) → Neighbours Before pts → Once pts
points_once pts h =
    sorted_once Before (λ p. Unit {0}) (λ p u b. never p b)
    (λ p q r a b c l n. before_trans p q r l n) pts (λ p i. tt) h

pub events_apart : (steps : List Step) (j k : ℕ) → Neighbours Before (points_of steps)
    → j < length steps → k < length steps
    → (get_or steps j no_step).at ≡ (get_or steps k no_step).at → j ≡ k
events_apart steps j k h a b e =
    let n = length-map steps (λ (s : Step). s.at) in
    let at : (i : ℕ) → get_or (points_of steps) i no_step.at
    ≡ (get_or steps i no_step).at = λ i. get_or-map (λ (s : Step). s.at) steps i no_step in
    once_places (points_of steps) no_step.at j k (points_once (points_of steps) h)
    (omega (arith, a, n)) (omega (arith, b, n)) (at j ∙ e ∙ sym (at k))

pub point_has : (steps : List Step) (k : ℕ) → k < length steps
    → Has (get_or steps k no_step).at (points_of steps)
point_has steps k l =
    let n = length-map steps (λ (s : Step). s.at) in
    subst (λ p. Has p (points_of steps)) (get_or-map (λ (s : Step). s.at) steps k no_step)
    (has_at (points_of steps) k no_step.at (omega (arith, l, n)))
