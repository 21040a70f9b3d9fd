use Rattle.std.proofs.Common.{ℕ, arith, subst}
use Rattle.line_sweep.specs.Kinds.{gaps_of}
use Rattle.faces.specs.Joins.{AreJoins}
use Rattle.faces.proofs.CellPairs.{known_more}
use Rattle.faces.proofs.SameJoins.{if_ok}
use Rattle.faces.proofs.linking.links.Goals as goal

pub new-requires-clause-known : goal.new-requires-clause-known
new-requires-clause-known c =
    known_more _ _ (gaps_of c.args.cells.now) (let e = c.halves_of.ensures.size in
    omega (arith, e)) c.requires.known

pub links_by_joins-requires-clause-joins : goal.links_by_joins-requires-clause-joins
links_by_joins-requires-clause-joins c = (
  gaps_of c.args.cells.now,
  subst (λ (n : ℕ). AreJoins n (gaps_of c.args.cells.now) c.in_ok-joins.joins)
      c.halves_of.ensures.size c.in_ok-joins.ensures,
  c.requires.rooted,
)

pub returns : goal.returns
returns c = if_ok _ _ c.links_by_joins.result
    (λ notes f. f (gaps_of c.args.cells.now)
    (subst (λ (n : ℕ). AreJoins n (gaps_of c.args.cells.now) c.in_ok-joins.joins)
    c.halves_of.ensures.size c.in_ok-joins.ensures))
    c.links_by_joins.ensures
