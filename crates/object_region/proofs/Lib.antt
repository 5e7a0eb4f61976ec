pub mod Words
pub mod Keys
pub mod Kept
pub mod Occupied
pub mod Next
pub mod Taken
