use Rattle.ports.specs.Faults.{Rose}
use Rattle.itffaults.proofs.Calls.{all_small, all_tolerant, as_many, tells, told_memory}
use Rattle.itffaults.proofs.Calls.{told_writes}
use Rattle.itffaults.proofs.running.tell_clean.Goals as goal

pub tell-requires-clause-valid : goal.tell-requires-clause-valid
tell-requires-clause-valid g c = c.requires.clean.2.by.valid

pub tell-requires-clause-drawn : goal.tell-requires-clause-drawn
tell-requires-clause-drawn g c =
    as_many (g.S.Shelf.held c.args.shelf.now) c.requires.clean.0 c.requires.clean.1 c.args.clean.now
    c.requires.clean.2

pub tell-requires-clause-small : goal.tell-requires-clause-small
tell-requires-clause-small g c =
    all_small (g.S.Shelf.held c.args.shelf.now) c.requires.clean.0 c.requires.clean.1
    c.args.clean.now c.requires.clean.2

pub tell-requires-clause-tolerances : goal.tell-requires-clause-tolerances
tell-requires-clause-tolerances g c =
    all_tolerant (g.S.Shelf.held c.args.shelf.now) c.requires.clean.0 c.requires.clean.1
    c.args.clean.now c.requires.clean.2

pub publish-requires : goal.publish-requires
publish-requires g c = record { sound = λ e. told_writes _ _ _ _ _ _ _ c.in-Ok.ensures e }

pub returns-in-Ok-clause-told : goal.returns-in-Ok-clause-told
returns-in-Ok-clause-told g c n model transfer h =
    tells (g.S.Shelf.held c.args.shelf.now) model transfer c.args.clean.now h c.args.name.now
    (Rose (g.S.Shelf.write_faults c.args.shelf.now) (g.S.Shelf.write_faults c.publish.new.shelf))
    c.publish.result (g.S.Shelf.held c.publish.new.shelf) (g.K.Sink.written c.args.out.now)
    (g.K.Sink.written c.publish.new.out) c.in-Ok.telling.text c.in-Ok.telling.report.items
    c.in-Ok.telling.status
    c.in-Ok.ensures c.publish.ensures.filed c.publish.ensures.begun c.publish.ensures.reports

pub returns-in-Ok-clause-memory : goal.returns-in-Ok-clause-memory
returns-in-Ok-clause-memory g c =
    λ e. absurd (told_memory _ _ _ _ _ _ _ c.in-Ok.ensures (c.publish.ensures.memory e))
