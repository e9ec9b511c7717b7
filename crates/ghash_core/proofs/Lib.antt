mod Blocks
mod Facts
mod Linear
mod Table
mod Pieces
