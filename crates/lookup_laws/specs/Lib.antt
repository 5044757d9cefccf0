pub mod OtherMethods
