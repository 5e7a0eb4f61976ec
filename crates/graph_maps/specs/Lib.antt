pub mod Places
pub mod ExactKeys
pub mod Keys
pub mod Halves
pub mod KeyOrders
pub mod Parts
pub mod PartLaws
pub mod Vertices
