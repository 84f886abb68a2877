pub mod Action
pub mod Buffer
pub mod Sample
