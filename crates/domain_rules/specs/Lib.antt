pub mod CleanPlaces
pub mod ValueFindings
pub mod FedFindings
