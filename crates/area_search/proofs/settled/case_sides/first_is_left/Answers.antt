use Rattle.area_search.proofs.SettledLemmas.CaseSideLaws.{left_first}
use Rattle.area_search.proofs.settled.case_sides.first_is_left.Goals as goal

pub returns-in-HalfArc : goal.returns-in-HalfArc
returns-in-HalfArc c =
    left_first c.args.curve.now c.turn.result c.is_left.result c.in-HalfArc.is c.turn.ensures
    c.is_left.ensures.yes c.is_left.ensures.no
