pub mod legal
pub mod structures
pub mod order
pub mod safe
pub mod views
pub mod base
pub mod needed
pub mod examples
