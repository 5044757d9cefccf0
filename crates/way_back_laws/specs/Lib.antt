pub mod WayBack
