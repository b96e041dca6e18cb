pub mod SetUp
pub mod Laws
