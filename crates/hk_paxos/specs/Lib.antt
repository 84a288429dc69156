pub mod Paxos
pub mod Run
pub mod Worked
pub mod Validity
