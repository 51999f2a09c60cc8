pub mod Handles
pub mod Lending
pub mod Statuses
pub mod Places
pub mod Records
pub mod Texts
pub mod Calls
pub mod Headers
