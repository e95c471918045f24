pub mod Based
pub mod OnBase
pub mod FollowsBase
pub mod Order
