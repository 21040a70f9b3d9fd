-- The label over an edge: a word of the lemmas on labels.
use Rattle.std.specs.Prelude.{ℕ, zero, suc, List, [], ◌∷◌}
use Rattle.plane.specs.Faces.Labels.{Labels}

-- the label under the edge at place i, g if there is none
abbrev pub label_over : Labels → ℕ → ℕ → List ℕ → ℕ
label_over a g i [] = g
label_over a g zero (e ∷ es) = a.below e
label_over a g (suc i) (e ∷ es) = label_over a g i es
