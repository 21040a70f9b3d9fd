use Rattle.faces.proofs.LinkSteps.{notes_next}
use Rattle.faces.specs.Joins.{cells_of}
use Rattle.faces.proofs.linking.notes_of.Goals as goal

pub loop-h-preserved : goal.loop-h-preserved
loop-h-preserved c =
    let s = notes_next c.args.graph.now.mesh.now
    (cells_of c.args.graph.now.joins.now) c.args.ranks.now c.loop-h.notes.items
    c.push.new.self.items c.loop-h.h c.note_of.result c.loop-h.invariant.size
    c.in_ok-push.ensures.items c.note_of.ensures c.loop-h.invariant.notes in
    record { size = s.0; notes = s.1 }
