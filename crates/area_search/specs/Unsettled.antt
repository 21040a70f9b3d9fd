-- Points on curves, and curves that are set aside, in a drawing that no level settles.
pub mod Alone
pub mod CurvePoints
pub mod SetAside
pub mod MarkedPoints
