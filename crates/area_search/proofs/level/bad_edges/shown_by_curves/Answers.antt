use Rattle.area_search.proofs.level.bad_edges.shown_by_curves.Goals as goal

pub returns-then-is_bad : goal.returns-then-is_bad
returns-then-is_bad c = λ level none. (none, c.is_bad.ensures.0 c.if-is_bad.true)
