use Rattle.std.proofs.Common.{◌↔◌, IsTrue, false, Option, sym, subst}
use Rattle.tubes.specs.declared.kinds.Tube.{Tube}
use Rattle.level_breaks.specs.Parts.{EndsEnter}
use Rattle.level_breaks.proofs.Choices.{clash}
use Rattle.level_breaks.proofs.PlacedGroups.{first_edged, turnable_at}
use Rattle.level_breaks.proofs.entering.ends_enter.Goals as goal

pub some_end_enters-requires-clause-edged : goal.some_end_enters-requires-clause-edged
some_end_enters-requires-clause-edged c =
    first_edged c.args.group.now c.args.other.now c.requires.groups

pub some_end_enters-requires-clause-turnable : goal.some_end_enters-requires-clause-turnable
some_end_enters-requires-clause-turnable c =
    turnable_at c.args.group.now c.args.other.now c.in-Some.tube c.requires.groups c.in-Some.is

pub returns-in-Some : goal.returns-in-Some
returns-in-Some c =
    let g = c.args.group.now in
    let h = c.args.other.now in
    subst (λ (u : Option Tube). IsTrue c.some_end_enters.result
    ↔ EndsEnter g.curve.now g.tube.now c.args.part h.curve.now u c.args.number)
    (sym c.in-Some.is) c.some_end_enters.ensures

pub returns-in-None : goal.returns-in-None
returns-in-None c =
    let g = c.args.group.now in
    let h = c.args.other.now in
    subst (λ (u : Option Tube). IsTrue false
    ↔ EndsEnter g.curve.now g.tube.now c.args.part h.curve.now u c.args.number)
    (sym c.in-None.is) ((λ t. clash t), (λ (f, hf, (p, end, none)). absurd none))
