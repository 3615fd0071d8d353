pub mod Fields
pub mod Files
pub mod Claims
pub mod Examples
