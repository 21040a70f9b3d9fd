use Rattle.std.proofs.Common.{ℕ, List, inl, inr, subst, sym}
use Rattle.plane.specs.Rule.Plans.{plan}
use Rattle.forks.specs.Bent.{StandFor}
use Rattle.forks.specs.ForkedStraights.{AreInOrder, IsListed}
use Rattle.forks.specs.declared.forked.Forked.{Forked}
use Rattle.forks.proofs.PieceLists.{one_piece_more}
use Rattle.forks.proofs.bending.add_curve.Goals as goal

pub straight_at-requires-clause-rising : goal.straight_at-requires-clause-rising
straight_at-requires-clause-rising c =
    subst AreInOrder (sym c.deref.ensures.value) c.requires.forked.rising

pub returns-in_ok-add-in-Some-clause-pieces : goal.returns-in_ok-add-in-Some-clause-pieces
returns-in_ok-add-in-Some-clause-pieces c =
    let w = c.args.drawing.now in
    one_piece_more w.tolerance (plan w) c.args.number c.args.pieces.now.curves.items
    c.piece_of.result.now c.add.new.self.curves.items c.args.pieces.now.origin.items
    c.add.new.self.origin.items c.requires.pieces
    (subst (λ (k : ℕ). StandFor w.tolerance (plan w) k c.piece_of.result.now) c.in-Some.ensures.2
    c.piece_of.ensures) c.in_ok-add-in-Some.ensures.curves c.in_ok-add-in-Some.ensures.origin

pub returns-in_ok-add-in-None-clause-pieces : goal.returns-in_ok-add-in-None-clause-pieces
returns-in_ok-add-in-None-clause-pieces c =
    let w = c.args.drawing.now in
    let itself = elim (c.requires.forked.whole c.args.number c.requires.there) as
    (λ _. StandFor w.tolerance (plan w) c.args.number c.itself.result.now) [
      | inl listed ↦ absurd
          (c.in-None.ensures.0
          (subst (λ (fs : List Forked). IsListed c.args.number fs)
          (sym c.deref.ensures.value) listed))
      | inr stands ↦ subst (StandFor w.tolerance (plan w) c.args.number)
          (sym c.itself.ensures) stands
    ] in
    one_piece_more w.tolerance (plan w) c.args.number c.args.pieces.now.curves.items
    c.itself.result.now c.add-in-None.new.self.curves.items c.args.pieces.now.origin.items
    c.add-in-None.new.self.origin.items c.requires.pieces
    itself c.in_ok-add-in-None.ensures.curves c.in_ok-add-in-None.ensures.origin
