pub mod Keys
pub mod Shown
pub mod Transcript
pub mod Taken
pub mod Progress
pub mod Drilled
pub mod Marks
pub mod Together
