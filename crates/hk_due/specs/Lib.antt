pub mod Keys
pub mod Due
