pub mod FieldCodes
pub mod Places
pub mod Zipped
pub mod FedValues
