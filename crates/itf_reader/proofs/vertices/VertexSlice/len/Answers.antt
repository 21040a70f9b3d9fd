use Rattle.std.proofs.Common.{sym}
use Rattle.itf_reader.proofs.VertexLists.{length_with_fields}
use Rattle.itf_reader.proofs.vertices.VertexSlice.len.Goals as goal

pub returns : goal.returns
returns c = sym (length_with_fields c.args.self.heads.now c.args.self.fields.now)
