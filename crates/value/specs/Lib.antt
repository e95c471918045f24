pub mod Codes
pub mod Isolation
pub mod Literal
pub mod Order
pub mod Printed
pub mod Refusals
