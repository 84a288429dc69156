pub mod Moments
pub mod Facts
pub mod UpdatePart
pub mod RmwPart
pub mod ViewPart
pub mod Held
pub mod EventKinds
pub mod Meaning
