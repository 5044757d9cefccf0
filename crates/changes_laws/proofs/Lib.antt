mod DoItsStay
mod Made
