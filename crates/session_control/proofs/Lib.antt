mod Wraps
mod Taking
mod Beginning
mod Placing
