pub mod SameTrees
