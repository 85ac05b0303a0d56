pub mod Tours
pub mod Five
