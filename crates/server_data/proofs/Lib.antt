mod Learned
mod Passed
mod Moved
mod Opened
mod Accepted
