pub mod LabelRead
pub mod Marking
pub mod Emptying
pub mod Renaming
pub mod Sweeping
pub mod Undeleting
