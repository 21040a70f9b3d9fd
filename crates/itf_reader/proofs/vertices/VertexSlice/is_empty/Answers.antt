use Rattle.itf_reader.proofs.VertexLists.{length_with_fields}
use Rattle.itf_reader.proofs.vertices.VertexSlice.is_empty.Goals as goal

pub returns : goal.returns
returns c = rw (length_with_fields c.args.self.heads.now c.args.self.fields.now) c.is_empty.ensures
