use Rattle.ident_refs.specs.ValueViews.{key_vertex_view}
use Rattle.ident_refs.specs.KeyBytes.{key_vertex_code}
use Rattle.ident_refs.proofs.FlatSteps.{flat_step_at}
use Rattle.ident_refs.proofs.key_bytes.add_vertices.Goals as goal

pub loop-key_vertex-preserved : goal.loop-key_vertex-preserved
loop-key_vertex-preserved c =
    flat_step_at key_vertex_view key_vertex_code c.loop-key_vertex.key_vertex-index
    c.args.key_vertices.now _ (c.loop-key_vertex.into.items) _ _ c.loop-key_vertex-test.true
    c.in_ok-add_vertex.ensures c.loop-key_vertex.invariant
