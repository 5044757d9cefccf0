pub mod ChangeNames
pub mod PlacesNames
