mod Runs
mod Served
mod Written
mod Halts
mod Spelled
mod Ends
