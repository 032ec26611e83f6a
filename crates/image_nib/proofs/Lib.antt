pub mod NibLaws
