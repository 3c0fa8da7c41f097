pub mod NamesBack
pub mod NumbersBack
