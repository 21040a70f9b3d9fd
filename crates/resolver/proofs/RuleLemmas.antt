-- The list of faults has exactly the rules that are broken, and the least of them counts.
pub mod Meant
pub mod FaultParts
pub mod ListedRules
pub mod BrokenRules
pub mod Least
pub mod RuleLaws
