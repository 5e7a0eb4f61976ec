pub mod Watched
pub mod Plays
pub mod Clock
pub mod Seats
