-- Laws that the proofs of `checks` share.
pub mod Records
pub mod Shape
pub mod SiteTests
pub mod RuleTests
pub mod RulePairs
pub mod Marking
pub mod Soundness
pub mod Naming
pub mod Visits
