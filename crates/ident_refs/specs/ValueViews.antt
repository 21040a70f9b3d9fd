-- Values of the code, as they are compared.
use Rattle.std.specs.Prelude.{ℕ, [], ◌∷◌, map}
use Rattle.std.specs.Option.{option_to_list}
use Rattle.itf_reader.specs.declared.transfer.VertexKind.{VertexKind}
use Rattle.itf_reader.specs.declared.transfer.VertexKind.TheVariants as kinds
use Rattle.itf_reader.specs.VertexLists.{kind_of}
use Rattle.ident_refs.specs.declared.key_values.KeyVertex.{KeyVertex as CodeKeyVertex}
use Rattle.ident_refs.specs.declared.key_values.Value.{Value as CodeValue}
use Rattle.ident_refs.specs.declared.key_values.Value.TheVariants as values
use Rattle.ident_refs.specs.ListValues.{KeyVertex, Value, Numbers, Bytes, Vertices}

-- the number of a kind
abbrev pub rank_of : VertexKind → ℕ
rank_of kinds.Start = 0
rank_of kinds.Straight = 1
rank_of kinds.OnArc = 2

abbrev pub key_vertex_view : CodeKeyVertex → KeyVertex
key_vertex_view c = record { kind = kind_of c.kind; numbers = c.x ∷ c.y ∷ option_to_list c.height }

abbrev pub value_view : CodeValue → Value
value_view (values.Number n) = Numbers (n ∷ [])
value_view (values.Plane x y) = Numbers (x ∷ y ∷ [])
value_view (values.Space x y z) = Numbers (x ∷ y ∷ z ∷ [])
value_view (values.Word w) = Bytes w.now
value_view (values.Line key_vertices) = Vertices (map key_vertex_view key_vertices.items)
