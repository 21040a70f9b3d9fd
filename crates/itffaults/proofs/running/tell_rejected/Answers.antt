use Rattle.ports.specs.Faults.{Rose}
use Rattle.itffaults.proofs.Rejections.{leaves, rejection_memory, rejection_writes}
use Rattle.itffaults.proofs.running.tell_rejected.Goals as goal

pub publish-requires : goal.publish-requires
publish-requires g c = record {
  sound = λ e. rejection_writes _ _ _ _
      (c.in-Ok.ensures c.requires.rejected.0 c.requires.rejected.1) e;
}

pub returns-in-Ok-clause-told : goal.returns-in-Ok-clause-told
returns-in-Ok-clause-told g c n ls e =
    leaves ls c.in-Ok.telling.text c.in-Ok.telling.report.items c.in-Ok.telling.status
    (c.in-Ok.ensures ls e)
    (g.S.Shelf.held c.args.shelf.now) c.args.name.now
    (Rose (g.S.Shelf.write_faults c.args.shelf.now) (g.S.Shelf.write_faults c.publish.new.shelf))
    c.publish.result
    (g.S.Shelf.held c.publish.new.shelf) (g.K.Sink.written c.args.out.now)
    (g.K.Sink.written c.publish.new.out)
    c.publish.ensures.filed c.publish.ensures.begun c.publish.ensures.reports

pub returns-in-Ok-clause-memory : goal.returns-in-Ok-clause-memory
returns-in-Ok-clause-memory g c =
    λ e. absurd (rejection_memory _ _ _ _
    (c.in-Ok.ensures c.requires.rejected.0 c.requires.rejected.1) (c.publish.ensures.memory e))
