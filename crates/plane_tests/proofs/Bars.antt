-- Two bars, one over the other: each half-edge leads to the one under the lower bar.
use Rattle.std.proofs.Common.{ℕ, zero, suc, Some, List, [], ◌∷◌, inl, inr, refl, arith}
use Rattle.plane.specs.Runs.Gaps.{Gap}
use Rattle.half_edges.specs.HalfEdges.{HalfEdges}
use Rattle.half_edges.specs.Meshes.{with_edge, with_faces, without_edges}
use Rattle.faces.specs.Joined.{Across, HasCell}
use Rattle.faces.specs.Ranking.{AreRooted, Leads, step, there}

abbrev pub two_bars : HalfEdges
two_bars = with_edge (with_edge (without_edges 4) 0 2) 1 3

module _ (cells : List Gap) (between : HasCell cells (Some 0) (Some 1)) (faces : List ℕ) where
  abbrev mesh : HalfEdges
  mesh = with_faces two_bars faces

  first : Leads mesh cells 0 0
  first = there 0 0 refl

  second : Leads mesh cells 1 0
  second = step 1 0 0 (inl refl) first

  beside : Across cells 2 1
  beside = inr (record { lower = 0; upper = 1; cell = between; low_side = refl; high_side = refl })

  third : Leads mesh cells 2 0
  third = step 2 1 0 (inr (inr beside)) second

  fourth : Leads mesh cells 3 0
  fourth = step 3 2 0 (inl refl) third

  pub bars_rooted : AreRooted mesh cells (0 ∷ [])
  bars_rooted zero l = (0, inl refl, first)
  bars_rooted (suc zero) l = (0, inl refl, second)
  bars_rooted (suc (suc zero)) l = (0, inl refl, third)
  bars_rooted (suc (suc (suc zero))) l = (0, inl refl, fourth)
  bars_rooted (suc (suc (suc (suc h)))) l = absurd (omega (arith, l))
