use Rattle.ident_refs.proofs.SharedSteps.{grown_more, known_within}
use Rattle.ident_refs.proofs.ident_lists.number_of.Goals as goal

pub returns-clause-grown : goal.returns-clause-grown
returns-clause-grown c =
    grown_more c.args.kept.now.items c.push.new.self.items _ c.in_ok-push.ensures.items

pub returns-then-are_same-clause-own : goal.returns-then-are_same-clause-own
returns-then-are_same-clause-own c =
    known_within c.args.kept.now.items c.deref.result.now c.args.supposed c.in-Some.known.now
    c.args.places.now c.requires.bare c.deref.ensures.value
    c.in-Some.ensures.lookup.3.0 c.in-Some.ensures.lookup.1 (c.are_same.ensures c.if-are_same.true)
