mod Came
mod Sound
mod Taken
mod Free
mod First
mod Placed
mod Admitted
mod Arrived
