-- The moves of a complete run leave nothing and repeat no edge in any live list.
use Rattle.std.proofs.Common.{◌≡◌, ℕ, ◌+◌, ◌<◌, ◌≤◌, List, [], ◌∷◌, ◌++◌, length, take, arith, sym}
use Rattle.std.proofs.Common.{◌∙◌, subst}
use Rattle.plane.specs.Forms.Vectors.{Edge}
use Rattle.plane.specs.Lists.{Has, Once}
use Rattle.plane.specs.Runs.Steps.{Step, after, IsReplay, Run}
use Rattle.plane.specs.Runs.Moves.{Move, step_of, steps_from, live_from, Fit}
use Rattle.plane.proofs.Runs.Numbered.{cut_at}
use Rattle.plane.proofs.Runs.RunLaws.{run_once, run_started}
use Rattle.plane.proofs.MoveLemmas.MadeSteps.{list_is, steps_length}

nothing_left : (m : ℕ) (E : ℕ → Edge) (now : List ℕ) (vs : List Move)
    → IsReplay m E now (steps_from now vs) → live_from now vs ≡ []
nothing_left m E now [] h = h
nothing_left m E now (v ∷ vs) h = nothing_left m E (after (step_of now v)) vs h.2

pub run_leaves_none : (m : ℕ) (E : ℕ → Edge) (vs : List Move) → Run m E (steps_from [] vs)
    → live_from [] vs ≡ []
run_leaves_none m E vs run = nothing_left m E [] vs run.replays

pub run_repeats_none : (m : ℕ) (E : ℕ → Edge) (vs : List Move) (k : ℕ) → Run m E (steps_from [] vs)
    → k ≤ length vs → Once (live_from [] (take k vs))
run_repeats_none m E vs k run l =
    let n = steps_length [] vs in
    let (done, todo, c) = cut_at (steps_from [] vs) k (omega (arith, l, n)) in
    subst (λ (xs : List ℕ). Once xs) (c.now ∙ list_is [] vs k l)
    (run_once m E done todo (subst (λ (steps : List Step). Run m E steps) (sym c.whole) run))

pub fit_more : (now : List ℕ) (vs : List Move) (v : Move) → Fit now vs
    → (v.position + v.ending) ≤ length (live_from now vs) → Fit now (vs ++ (v ∷ []))
fit_more now [] v h l = (l, tt)
fit_more now (u ∷ vs) v h l = (h.0, fit_more (after (step_of now u)) vs v h.1 l)

pub run_known : (m : ℕ) (E : ℕ → Edge) (vs : List Move) (k e : ℕ) → Run m E (steps_from [] vs)
    → k ≤ length vs → Has e (live_from [] (take k vs)) → e < m
run_known m E vs k e run l h =
    let n = steps_length [] vs in
    let (done, todo, c) = cut_at (steps_from [] vs) k (omega (arith, l, n)) in
    (run_started m E done todo (subst (λ (steps : List Step). Run m E steps) (sym c.whole) run) e
    (subst (λ (xs : List ℕ). Has e xs) (sym (c.now ∙ list_is [] vs k l)) h)).0
