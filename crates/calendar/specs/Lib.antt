pub mod Calendar
pub mod Form
