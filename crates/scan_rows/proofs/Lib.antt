pub mod Laying
pub mod Refusing
pub mod NthLaws
