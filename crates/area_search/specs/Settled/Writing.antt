-- What a certificate is written from: half-edges beside cells, and positions.
use Rattle.std.specs.Prelude.{ℕ, Option, Some, None, List, [], ◌∷◌, map}
use Rattle.half_edges.specs.HalfEdges.{over_of, under_of}
use Rattle.plane.specs.Runs.Moves.{Move}

-- the half-edge over an edge, and the one under it
abbrev pub over_some : Option ℕ → List ℕ
over_some None = []
over_some (Some e) = over_of e ∷ []

abbrev pub under_some : Option ℕ → List ℕ
under_some None = []
under_some (Some e) = under_of e ∷ []

abbrev pub positions_of : List Move → List ℕ
positions_of vs = map (λ (v : Move). v.position) vs
