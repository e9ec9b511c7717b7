mod BigEndian
mod Counters
mod Sealing
