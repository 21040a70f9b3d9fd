-- Where no level settles a drawing, the pair or the point that is found is the least one.
-- Serves `answer_unsettled`.
pub mod MarkedNumbers
pub mod PointsOnCurves
pub mod SetAsideCurves
pub mod AloneCurves
pub mod MarkedPoints
