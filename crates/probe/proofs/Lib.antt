mod Run
mod Shaped
