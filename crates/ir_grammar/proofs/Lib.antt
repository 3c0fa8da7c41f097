pub mod WordsExact
pub mod OperatorsExact
pub mod TypesExact
