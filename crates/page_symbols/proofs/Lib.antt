pub mod SymbolLengths
