mod ClaimLemmas
mod HeardLemmas
mod RowLemmas
mod TotalLemmas
