use Rattle.std.proofs.Common.{ℕ, arith, subst}
use Rattle.line_sweep.specs.Kinds.{gaps_of}
use Rattle.faces.specs.Joins.{AreJoins}
use Rattle.faces.proofs.CellPairs.{known_more}
use Rattle.faces.proofs.SameJoins.{if_ok}
use Rattle.faces.proofs.labelling.label.Goals as goal

pub new-requires-clause-known : goal.new-requires-clause-known
new-requires-clause-known c =
    known_more _ _ (gaps_of c.args.cells.now) (let e = c.halves_of.ensures.size in
    omega (arith, e)) c.requires.known

pub returns-clause-faces : goal.returns-clause-faces
returns-clause-faces c = if_ok _ _ c.label_by.result
    (λ l f. f (gaps_of c.args.cells.now)
    (subst (λ (n : ℕ). AreJoins n (gaps_of c.args.cells.now) c.in_ok-joins.joins)
    c.halves_of.ensures.size c.in_ok-joins.ensures))
    c.label_by.ensures.faces
