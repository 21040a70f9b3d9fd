use Rattle.std.proofs.Common.{◌<◌, ◌∙◌, arith, get_or, length, subst, sym}
use Rattle.plane.specs.Runs.Moves.{no_move}
use Rattle.area_search.specs.Level.OwnCorners.{HasTwoEdges}
use Rattle.area_search.proofs.LevelLemmas.OwnCornerLemmas.{nth_move, same_point}
use Rattle.area_search.proofs.level.own_corners.has_two_at.Goals as goal

pub returns-then-eq : goal.returns-then-eq
returns-then-eq c = λ h.
    let l : c.first_from-number.result < length c.args.events.now = (let n = c.len.ensures in
    let t = c.if-number-len.true in omega (arith, n, t)) in
    record {
      v = get_or c.args.events.now c.first_from-number.result no_move;
      has = nth_move c.args.events.now c.first_from-number.result l;
      at = sym c.at.ensures
          ∙ same_point c.at.result c.args.at c.eq.result c.eq.ensures c.if-eq.true;
      two = subst HasTwoEdges c.get.ensures (c.has_two_edges.ensures h);
    }
