-- Lists: what each keeps while it is walked, places of names, repeats, ways through names.
pub mod Folds
pub mod Members
pub mod Indexes
pub mod Repeats
pub mod Named
pub mod Keys
pub mod Viewed
pub mod Reaching
pub mod Powers
