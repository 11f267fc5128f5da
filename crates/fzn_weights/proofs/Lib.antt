pub mod CostLemmas
pub mod InverseLemmas
pub mod ListLemmas
pub mod MoveLemmas
pub mod PriceLemmas
pub mod TableLemmas
