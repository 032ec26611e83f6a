pub mod MediumSteps
