pub mod StatusLaws
pub mod SymbolLaws
pub mod Small
