pub mod BareImages
