pub mod Shares
pub mod Totals
pub mod Sides
pub mod Moves
pub mod Alone
