mod Upwards
mod Lists
mod Listed
