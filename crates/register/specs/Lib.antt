pub mod Circuit
pub mod Clock
