pub mod InstructionsExact
