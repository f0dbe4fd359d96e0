mod Geometries
mod Sums
mod Remaining
mod Found
mod Needs
mod Choosing
mod Reading
mod Sound
