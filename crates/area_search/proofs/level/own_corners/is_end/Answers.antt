use Rattle.std.proofs.Common.{inr}
use Rattle.area_search.proofs.LevelLemmas.OwnCornerLemmas.{same_point}
use Rattle.area_search.proofs.level.own_corners.is_end.Goals as goal

pub returns-else-eq : goal.returns-else-eq
returns-else-eq c =
    λ h. inr (same_point c.args.edge.now.high c.args.at c.eq-else-eq.result c.eq-else-eq.ensures h)
