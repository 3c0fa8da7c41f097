pub mod ValuesExact
