pub mod Ends
pub mod Layout
pub mod LeaseRule
pub mod Leases
pub mod Locals
pub mod Packed
pub mod Rule
pub mod Snapshots
