pub mod AuditText
pub mod AuditLines
