pub mod Behind
pub mod Drawn
pub mod Followed
pub mod Keys
pub mod Pieces
pub mod Rounds
pub mod Taking
pub mod StillThere
