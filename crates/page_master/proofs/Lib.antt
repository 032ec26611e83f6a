pub mod MasterLengths
