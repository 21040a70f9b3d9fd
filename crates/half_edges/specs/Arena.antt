use Rattle.std.specs.Prelude.{◌≤◌, ℕ, Bool, true, false, List, length, replicate, vec_capacity}
use Rattle.half_edges.specs.HalfEdges.{HalfEdges}
use Rattle.half_edges.specs.Meshes.{IsMesh}
use Rattle.half_edges.specs.declared.mesh.Mesh.TheInside.{Inside}

-- the faces of so many half-edges: each is 0 until they are set
abbrev pub faces_of : Bool → List ℕ → ℕ → List ℕ
faces_of true faces halves = faces
faces_of false faces halves = replicate halves 0

-- the lists that a mesh keeps
abbrev pub half_edges_of : Inside → HalfEdges
half_edges_of a =
    record {
      vertices = a.vertices;
      next = a.next.items;
      prev = a.prev.items;
      origin = a.origin.items;
      face = faces_of a.faces_set a.face.items (length a.next.items);
    }

-- what a mesh keeps: its lists form a mesh, and there is room for all faces
pub record IsKept (a : Inside) : Type 0 where
  pub mesh : IsMesh (half_edges_of a)
  pub few : length a.face.items ≤ length a.next.items
  pub room : length a.next.items ≤ vec_capacity a.face
