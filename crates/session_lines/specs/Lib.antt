pub mod Commands
pub mod ReplyTexts
pub mod Naming
pub mod Readings
pub mod Serving
pub mod Sessions
pub mod Feeds
pub mod Ending
