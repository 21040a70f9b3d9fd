use Rattle.std.specs.Prelude.{ℕ, ◌≡◌, ◌≢◌, ◌<◌, ◌+◌, ◌%◌, ◌^◌, List, [], ◌∷◌, ◌++◌, length}
use Rattle.std.specs.Prelude.{replicate, slice_index}
use Rattle.half_edges.specs.HalfEdges.{HalfEdges, size, next_of, prev_of, origin_of, twin_of}

-- a half-edge and its next have the same number
pub record AgreesAlong (next numbers : List ℕ) : Type 0 where
  pub same : (h : ℕ) → h < length next
      → slice_index numbers (slice_index next h) ≡ slice_index numbers h

-- what holds of every mesh
pub record IsMesh (m : HalfEdges) : Type 0 where
  -- half-edges come in pairs, and their numbers are below 2 ^ 32
  pub pairs : size m % 2 ≡ 0
  pub few : size m < 2 ^ 32
  -- each list has one entry for each half-edge
  pub prevs : length m.prev ≡ size m
  pub origins : length m.origin ≡ size m
  pub faces : length m.face ≡ size m
  -- the entries are half-edges and vertices of the mesh
  pub next_within : (h : ℕ) → h < size m → next_of m h < size m
  pub prev_within : (h : ℕ) → h < size m → prev_of m h < size m
  pub origin_within : (h : ℕ) → h < size m → origin_of m h < m.vertices
  -- next and prev undo each other
  pub next_prev : (h : ℕ) → h < size m → next_of m (prev_of m h) ≡ h
  pub prev_next : (h : ℕ) → h < size m → prev_of m (next_of m h) ≡ h
  -- a half-edge goes to where its next begins, which is not where it begins itself
  pub joined : (h : ℕ) → h < size m → origin_of m (next_of m h) ≡ origin_of m (twin_of h)
  pub ends : (h : ℕ) → h < size m → origin_of m (twin_of h) ≢ origin_of m h
  -- a half-edge and its next have one face
  pub one_face : AgreesAlong m.next m.face

-- a mesh with no edge
abbrev pub without_edges : ℕ → HalfEdges
without_edges n = record { vertices = n; next = []; prev = []; origin = []; face = [] }

-- the mesh with one face, 0, for all of its half-edges
abbrev pub with_one_face : HalfEdges → HalfEdges
with_one_face m = record m { face = replicate (size m) 0 }

-- the mesh with one more edge, each half of which is the other's next and prev, and with face 0
-- throughout
abbrev pub with_edge : HalfEdges → ℕ → ℕ → HalfEdges
with_edge m low high = record {
  vertices = m.vertices;
  next = m.next ++ (size m + 1) ∷ size m ∷ [];
  prev = m.prev ++ (size m + 1) ∷ size m ∷ [];
  origin = m.origin ++ high ∷ low ∷ [];
  face = replicate (size m + 2) 0;
}

-- the mesh with these faces
abbrev pub with_faces : HalfEdges → List ℕ → HalfEdges
with_faces m faces = record m { face = faces }
