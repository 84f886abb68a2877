pub mod Words
pub mod Lists
pub mod Named
pub mod Places
