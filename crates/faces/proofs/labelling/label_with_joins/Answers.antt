use Rattle.std.proofs.Common.{ℕ, arith, subst}
use Rattle.line_sweep.specs.Kinds.{gaps_of}
use Rattle.faces.specs.Joins.{AreJoins}
use Rattle.faces.proofs.CellPairs.{known_more}
use Rattle.faces.proofs.labelling.label_with_joins.Goals as goal

pub freeing-requires-clause-known : goal.freeing-requires-clause-known
freeing-requires-clause-known c =
    known_more _ _ (gaps_of c.args.cells.items) (let e = c.halves_of.ensures.size in
    omega (arith, e)) c.requires.known

pub returns-clause-faces : goal.returns-clause-faces
returns-clause-faces c =
    c.in_ok-labelled.ensures.faces (gaps_of c.args.cells.items)
    (subst (λ (n : ℕ). AreJoins n (gaps_of c.args.cells.items) c.in_ok-joins.joins)
    c.halves_of.ensures.size c.in_ok-joins.ensures)
