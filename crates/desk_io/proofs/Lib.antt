mod Filling
mod Writing
