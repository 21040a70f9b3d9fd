use Rattle.std.proofs.Common.{List, sym, subst}
use Rattle.line_sweep.specs.declared.kinds.Cell.{Cell}
use Rattle.line_sweep.specs.Kinds.{gaps_of}
use Rattle.faces.specs.Joined.{AreKnown}
use Rattle.faces.proofs.joins.Joins.freeing.Goals as goal

pub new-requires-clause-known : goal.new-requires-clause-known
new-requires-clause-known c =
    subst (λ (cs : List Cell). AreKnown c.args.halves (gaps_of cs))
    (sym c.deref.ensures.value) c.requires.known
