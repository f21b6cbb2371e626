pub mod Logs
pub mod Made
pub mod Migrated
