pub mod Catalogue
