-- Vertices, whose fields are kept in one list.
use Rattle.std.specs.Prelude.{ℕ, ◌+◌, List, [], ◌∷◌, take, drop}
use Rattle.itf_reader.specs.declared.transfer.VertexKind.{VertexKind}
use Rattle.itf_reader.specs.declared.transfer.VertexKind.TheVariants as kinds
use Rattle.itf_reader.specs.declared.vertices.Head.{Head}
use Rattle.itf_reader.specs.Forms.{Kind, Start, Straight, OnArc, Vertex, vertex}

abbrev pub kind_of : VertexKind → Kind
kind_of kinds.Start = Start
kind_of kinds.Straight = Straight
kind_of kinds.OnArc = OnArc

-- vertices by what is kept beside their fields: each has the next fields, as many as it counts
abbrev pub with_fields : List Head → List (List ℕ) → List Vertex
with_fields [] fields = []
with_fields (h ∷ hs) fields =
    vertex (kind_of h.kind) h.line (take h.count fields) ∷ with_fields hs (drop h.count fields)

-- how many fields these vertices have
abbrev pub field_count : List Head → ℕ
field_count [] = 0
field_count (h ∷ hs) = h.count + field_count hs
