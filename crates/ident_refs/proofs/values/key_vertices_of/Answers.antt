use Rattle.std.proofs.Common.{rules}
use Rattle.resolver.specs.Values.{line_of}
use Rattle.table_layout.specs.Values.{role_view}
use Rattle.itf_reader.specs.Views.{slice_of, vertex_of}
use Rattle.ident_refs.specs.ValueViews.{key_vertex_view}
use Rattle.ident_refs.specs.ListValues.{key_vertex_of}
use Rattle.ident_refs.proofs.Collecting.{collected_front}
use Rattle.ident_refs.proofs.SoundVertices.{clean_front, sound_clean}
use Rattle.ident_refs.proofs.values.key_vertices_of.Goals as goal

pub loop-vertex-init : goal.loop-vertex-init
loop-vertex-init c = record {
  clean = sound_clean (role_view c.args.role) (line_of c.args.form.now)
      (slice_of c.args.vertices) c.requires;
  collected = search rules;
}

pub key_vertex_of-requires : goal.key_vertex_of-requires
key_vertex_of-requires c =
    (clean_front (line_of c.args.form.now) (slice_of c.loop-vertex.rest)
    (vertex_of c.in-Some.vertex) (slice_of c.in-Some.others) c.in-Some.ensures.some
    c.loop-vertex.invariant.clean).0

pub loop-vertex-preserved : goal.loop-vertex-preserved
loop-vertex-preserved c = record {
  clean = (clean_front (line_of c.args.form.now) (slice_of c.loop-vertex.rest)
      (vertex_of c.in-Some.vertex) (slice_of c.in-Some.others) c.in-Some.ensures.some
      c.loop-vertex.invariant.clean).1;
  collected =
      collected_front key_vertex_view (key_vertex_of (line_of c.args.form.now))
      c.loop-vertex.key_vertices.items c.push.new.self.items c.key_vertex_of.result
      (slice_of c.loop-vertex.rest) (vertex_of c.in-Some.vertex) (slice_of c.in-Some.others) _
      c.in-Some.ensures.some c.in_ok-push.ensures.items c.key_vertex_of.ensures
      c.loop-vertex.invariant.collected;
}
