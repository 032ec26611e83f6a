pub mod Nib
