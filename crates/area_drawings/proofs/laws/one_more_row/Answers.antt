use Rattle.area_drawings.proofs.RowSteps.{lines_more, points_more, kept_more}
use Rattle.area_drawings.proofs.laws.one_more_row.Goals as goal

pub returns-clause-lines : goal.returns-clause-lines
returns-clause-lines c = lines_more

pub returns-clause-points : goal.returns-clause-points
returns-clause-points c = points_more

pub returns-clause-all : goal.returns-clause-all
returns-clause-all c = kept_more
