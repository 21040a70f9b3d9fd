-- Meshes of events and edges, with nothing turned yet.
use Rattle.std.specs.Prelude.{◌≡◌, ◌≢◌, ℕ, ◌+◌, ◌*◌, ◌<◌, List, length, replicate, slice_index}
use Rattle.half_edges.specs.HalfEdges.{HalfEdges, size, origin_of}
use Rattle.half_edges.specs.Stars.{IsUnlinked}

-- each edge has two of so many events, which are not one
pub record AreEnds (events : ℕ) (low high : List ℕ) : Type 0 where
  pub pairs : length high ≡ length low
  pub low_within : (e : ℕ) → e < length low → slice_index low e < events
  pub high_within : (e : ℕ) → e < length low → slice_index high e < events
  pub apart : (e : ℕ) → e < length low → slice_index low e ≢ slice_index high e

-- a vertex for each event, and the first n edges: half-edge 2 e begins at the high end of edge e
-- and 2 e + 1 at the low one, no half-edge is linked with that of another edge, and each has face 0
pub record IsMeshOf (events : ℕ) (low high : List ℕ) (n : ℕ) (mesh : HalfEdges) : Type 0 where
  pub vertices : mesh.vertices ≡ events
  pub size : size mesh ≡ 2 * n
  pub origins : length mesh.origin ≡ 2 * n
  pub highs : (e : ℕ) → e < n → origin_of mesh (2 * e) ≡ slice_index high e
  pub lows : (e : ℕ) → e < n → origin_of mesh (2 * e + 1) ≡ slice_index low e
  pub unlinked : IsUnlinked mesh
  pub faces : mesh.face ≡ replicate (2 * n) 0
