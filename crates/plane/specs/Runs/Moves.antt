-- Events as a program gives them: each with its position in the live list, and the steps that they
-- make.
use Rattle.std.specs.Prelude.{ℕ, ◌+◌, ◌≤◌, pos, List, [], ◌∷◌, length}
use Rattle.plane.specs.declared.kinds.Point.{Point}
use Rattle.plane.specs.Lists.{Has, Once}
use Rattle.plane.specs.Forms.Vectors.{Edge, Before}
use Rattle.plane.specs.Runs.Steps.{Step, after, live, GoodStep}
use Rattle.plane.specs.Runs.Positions.{step_at}

-- an event: after `position` edges of the live list the next `ending` ones end, and `starting` take
-- their place
pub record Move : Type 0 where
  pub at : Point
  pub position : ℕ
  pub ending : ℕ
  pub starting : List ℕ

abbrev pub no_move : Move
no_move = record { at = record { x = pos 0; y = pos 0 }; position = 0; ending = 0; starting = [] }

-- the step that an event makes of a live list
abbrev pub step_of : List ℕ → Move → Step
step_of now v = step_at v.at now v.position v.ending v.starting

-- the steps that moves make from the live list `now` on
abbrev pub steps_from : List ℕ → List Move → List Step
steps_from now [] = []
steps_from now (v ∷ vs) = step_of now v ∷ steps_from (after (step_of now v)) vs

-- the live list after these moves
abbrev pub live_from : List ℕ → List Move → List ℕ
live_from now [] = now
live_from now (v ∷ vs) = live_from (after (step_of now v)) vs

-- the same steps, the latest first, before the steps that are done
abbrev pub made : List Step → List Move → List Step
made done [] = done
made done (v ∷ vs) = made (step_of (live done) v ∷ done) vs

-- the block of each move lies in the live list
abbrev pub Fit : List ℕ → List Move → Type 0
Fit now [] = Unit {0}
Fit now (v ∷ vs) = ((v.position + v.ending) ≤ length now) × Fit (after (step_of now v)) vs

-- the steps that are done rise, and the starting edges of each repeat none
abbrev pub Risen : List Step → Type 0
Risen [] = Unit {0}
Risen (s ∷ done) = Once s.starting × ((t : Step) → Has t done → Before t.at s.at) × Risen done

-- each move meets the rules of a step, and comes after all steps before it
pub record IsGood (m : ℕ) (E : ℕ → Edge) (done : List Step) (v : Move) : Type 0 where
  pub fits : (v.position + v.ending) ≤ length (live done)
  pub good : GoodStep m E (step_of (live done) v)
  pub once : Once v.starting
  pub later : (s : Step) → Has s done → Before s.at v.at

abbrev pub AreGood : ℕ → (ℕ → Edge) → List Step → List Move → Type 0
AreGood m E done [] = Unit {0}
AreGood m E done (v ∷ vs) = IsGood m E done v × AreGood m E (step_of (live done) v ∷ done) vs
