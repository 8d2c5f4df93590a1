pub mod CommandLine
pub mod Program
pub mod Run
pub mod Serving
pub mod SessionRun
pub mod Statuses
