pub mod Reports
pub mod Hearing
pub mod Laws
