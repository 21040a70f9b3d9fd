-- Changes of a count from half-edge to half-edge: words of the lemmas on windings.
use Rattle.std.specs.Prelude.{ℕ, zero, suc, ℤ, pos, ◌-ℤ◌}
use Rattle.plane.specs.Faces.Labels.{Labels}

-- 1 for the label t, 0 for others
abbrev pub one_at : ℕ → ℕ → ℤ
one_at zero zero = pos 1
one_at zero (suc l) = pos 0
one_at (suc t) zero = pos 0
one_at (suc t) (suc l) = one_at t l

-- how the label t begins or ends at an edge, from below to above
abbrev pub change : Labels → ℕ → ℕ → ℤ
change lab t e = one_at t (lab.above e) -ℤ one_at t (lab.below e)
