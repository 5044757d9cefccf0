mod Known
mod Made
mod Spoken
mod Roomy
mod Fits
mod Planned
mod Whole
