pub mod Disjoint
