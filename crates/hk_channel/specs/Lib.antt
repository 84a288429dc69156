pub mod Retrying
pub mod Greeted
pub mod Dialled
pub mod Sending
pub mod Asking
pub mod Answering
pub mod Reporting
pub mod Incoming
