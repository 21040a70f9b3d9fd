use Rattle.std.proofs.Common.{List, ℕ, subst, sym}
use Rattle.half_edges.specs.Stars.{IsStar, IsLoose, IsLinked}
use Rattle.event_mesh.proofs.TurnedEvents.{turned_more}
use Rattle.event_mesh.proofs.Writing.{fan_whole}
use Rattle.event_mesh.proofs.turning.turn_event.Goals as goal

pub link-requires-clause-star : goal.link-requires-clause-star
link-requires-clause-star c =
    subst (λ (xs : List ℕ). IsStar c.args.mesh.now xs)
    (sym (fan_whole c.args.starting.now c.args.ending.now c.args.fan.now c.write_over.new.fan
    c.write_under.new.fan c.requires.room c.write_over.auto.fan c.write_under.auto.fan
    c.write_over.ensures c.write_under.ensures.before c.write_under.ensures.written))
    c.requires.can.star

pub link-requires-clause-loose : goal.link-requires-clause-loose
link-requires-clause-loose c =
    subst (λ (xs : List ℕ). IsLoose c.args.mesh.now xs)
    (sym (fan_whole c.args.starting.now c.args.ending.now c.args.fan.now c.write_over.new.fan
    c.write_under.new.fan c.requires.room c.write_over.auto.fan c.write_under.auto.fan
    c.write_over.ensures c.write_under.ensures.before c.write_under.ensures.written))
    c.requires.can.loose

pub returns-clause-linked : goal.returns-clause-linked
returns-clause-linked c =
    subst (λ (xs : List ℕ). IsLinked c.args.mesh.now c.link.new.self xs)
    (fan_whole c.args.starting.now c.args.ending.now c.args.fan.now c.write_over.new.fan
    c.write_under.new.fan c.requires.room c.write_over.auto.fan c.write_under.auto.fan
    c.write_over.ensures c.write_under.ensures.before c.write_under.ensures.written)
    c.link.ensures

pub returns-clause-turned : goal.returns-clause-turned
returns-clause-turned c m E steps k events is event =
    turned_more m E steps events c.args.mesh.now k is c.args.starting.now c.args.ending.now event
    c.link.new.self (returns-clause-linked c)
