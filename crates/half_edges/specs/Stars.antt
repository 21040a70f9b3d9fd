use Rattle.std.specs.Prelude.{ℕ, zero, suc, ◌≡◌, ◌≢◌, ◌<◌, ◌-◌, List, length, replicate}
use Rattle.std.specs.Prelude.{slice_index}
use Rattle.half_edges.specs.HalfEdges.{HalfEdges, size, next_of, origin_of, twin_of}

-- no number is in the list twice
pub record IsOnce (numbers : List ℕ) : Type 0 where
  pub apart : (j k : ℕ) → j < length numbers → k < length numbers
      → slice_index numbers j ≡ slice_index numbers k → j ≡ k

-- the vertex where the first half-edge of the list begins
abbrev pub center : HalfEdges → List ℕ → ℕ
center m around = origin_of m (slice_index around 0)

-- the list is the star of one vertex: all half-edges that begin there, each once
pub record IsStar (m : HalfEdges) (around : List ℕ) : Type 0 where
  pub filled : 0 < length around
  pub within : (k : ℕ) → k < length around → slice_index around k < size m
  pub start : (k : ℕ) → k < length around → origin_of m (slice_index around k) ≡ center m around
  pub once : IsOnce around
  pub whole : (h : ℕ) → h < size m → origin_of m h ≡ center m around
      → (k : ℕ) × (k < length around) × (slice_index around k ≡ h)

-- the half-edge that begins at the same vertex and comes next in the turn about it
abbrev pub turned : HalfEdges → ℕ → ℕ
turned m h = next_of m (twin_of h)

-- no half-edge of the list was linked with another yet
pub record IsLoose (m : HalfEdges) (around : List ℕ) : Type 0 where
  pub alone : (k : ℕ) → k < length around → turned m (slice_index around k) ≡ slice_index around k

-- no half-edge of the mesh was linked with another yet
pub record IsUnlinked (m : HalfEdges) : Type 0 where
  pub alone : (h : ℕ) → h < size m → turned m h ≡ h

-- the place before k in a cyclic list of n places: the last one comes before the first
abbrev pub before : ℕ → ℕ → ℕ
before n zero = n - 1
before n (suc k) = k

-- the turn about the vertex goes through the list backwards, and from the first to the last
pub record TurnsThrough (m : HalfEdges) (around : List ℕ) : Type 0 where
  pub turns : (k : ℕ) → k < length around
      → turned m (slice_index around k) ≡ slice_index around (before (length around) k)

-- Of each b in the list and the a before it, also the first and the last, next (twin b) is a and
-- prev a is twin b.
-- All other entries of next and prev stay.
pub record Links (around next prev new_next new_prev : List ℕ) : Type 0 where
  pub next_length : length new_next ≡ length next
  pub prev_length : length new_prev ≡ length prev
  pub next_is : (k : ℕ) → k < length around
      → slice_index new_next (twin_of (slice_index around k))
      ≡ slice_index around (before (length around) k)
  pub prev_is : (k : ℕ) → k < length around
      → slice_index new_prev (slice_index around (before (length around) k))
      ≡ twin_of (slice_index around k)
  pub next_stays : (h : ℕ) → ((k : ℕ) → k < length around → h ≢ twin_of (slice_index around k))
      → slice_index new_next h ≡ slice_index next h
  pub prev_stays : (h : ℕ) → ((k : ℕ) → k < length around → h ≢ slice_index around k)
      → slice_index new_prev h ≡ slice_index prev h

-- the list became linked, each face became 0, and all else stayed
pub record IsLinked (old new : HalfEdges) (around : List ℕ) : Type 0 where
  pub links : Links around old.next old.prev new.next new.prev
  pub faces : new.face ≡ replicate (size old) 0
  pub vertices : new.vertices ≡ old.vertices
  pub origins : new.origin ≡ old.origin
