mod Own
mod Stepwise
