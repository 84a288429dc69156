pub mod Past
pub mod Noted
pub mod Place
pub mod Cut
