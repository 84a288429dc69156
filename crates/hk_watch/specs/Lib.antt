pub mod Looking
pub mod Rising
