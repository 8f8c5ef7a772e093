pub mod Again
pub mod Headline
pub mod Shown
pub mod States
pub mod Reports
pub mod Finished
pub mod Claims
