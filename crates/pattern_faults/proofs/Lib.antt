pub mod SecondLists
pub mod MetaPlaces
pub mod Again
pub mod PatternsSame
pub mod Numbers
pub mod Said
