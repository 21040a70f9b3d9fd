use Rattle.std.specs.Prelude.{ℕ, ◌+◌, ◌-◌, ◌*◌, ◌/◌, ◌%◌, List, length, slice_index}

-- a mesh as its callers see it: the number of its vertices, and four lists over its half-edges
pub record HalfEdges : Type 0 where
  pub vertices : ℕ
  pub next : List ℕ
  pub prev : List ℕ
  pub origin : List ℕ
  pub face : List ℕ

-- the number of half-edges
abbrev pub size : HalfEdges → ℕ
size m = length m.next

-- the number of edges
abbrev pub edge_count : HalfEdges → ℕ
edge_count m = size m / 2

-- the half-edge after h round its face, and the one before it
abbrev pub next_of : HalfEdges → ℕ → ℕ
next_of m h = slice_index m.next h

abbrev pub prev_of : HalfEdges → ℕ → ℕ
prev_of m h = slice_index m.prev h

-- the vertex where h begins
abbrev pub origin_of : HalfEdges → ℕ → ℕ
origin_of m h = slice_index m.origin h

-- the face on the left of h
abbrev pub face_of : HalfEdges → ℕ → ℕ
face_of m h = slice_index m.face h

-- the half-edge under an edge, from its high vertex to its low one; and that over it, from low to
-- high
abbrev pub under_of : ℕ → ℕ
under_of e = 2 * e

abbrev pub over_of : ℕ → ℕ
over_of e = 2 * e + 1

-- the other half of the same edge: h + 1 where h is even, h - 1 where it is odd
abbrev pub twin_of : ℕ → ℕ
twin_of h = h + 1 - 2 * (h % 2)
