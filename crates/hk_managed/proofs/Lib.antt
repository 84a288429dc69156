pub mod Places
pub mod Growing
pub mod Chain
pub mod Agreeing
pub mod NodeSteps
pub mod ManagerSteps
pub mod Mirror
pub mod Facts
pub mod NodeEvents
pub mod ManagerEvents
pub mod ClockEvents
pub mod Beginning
pub mod Accepting
pub mod Kept
pub mod Guarding
pub mod Founding
pub mod Staying
pub mod Convening
pub mod Ticking
pub mod Councils
pub mod Pacing
mod Refusing
pub mod Viewing
pub mod Running
mod Working
