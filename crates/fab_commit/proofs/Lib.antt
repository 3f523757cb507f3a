pub mod RunLemmas
pub mod ModelLemmas
