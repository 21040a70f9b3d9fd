use Rattle.ident_refs.proofs.KeyVertices.{on_then, corner_added}
use Rattle.ident_refs.proofs.key_bytes.add_vertex.Goals as goal

pub returns : goal.returns
returns c =
    on_then c.add_height.result
    (corner_added c.args.key_vertex.now c.args.into.now.items c.push.new.self.items
    c.push-2.new.self.items c.add_place.new.into.items c.add_height.new.into.items c.rank.result
    c.axes.result
    c.rank.ensures c.axes.ensures c.in_ok-push.ensures.items c.in_ok-push-2.ensures.items
    c.in_ok-add_place.ensures)
    c.add_height.ensures
