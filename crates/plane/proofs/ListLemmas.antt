-- Lists: their elements, neighbours and pairs, sorted lists, and points in their order.
-- Main lemma: `SortedLists.same_sorted`, that strictly sorted lists with the same elements are
-- equal.
-- Serves all lemmas on runs, and the law `moves::timetables`.
pub mod Lists
pub mod ListWords
pub mod ListPairs
pub mod Points
pub mod SortedLists
