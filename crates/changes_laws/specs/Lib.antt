pub mod ChangeFiles
