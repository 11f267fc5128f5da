pub mod DerivedSound
mod DraftSound
mod FormedLemmas
pub mod FormedSound
mod IntLemmas
mod InverseLemmas
mod InverseTerms
mod InversesSound
mod ListLemmas
mod MoveLemmas
mod MovesSound
mod MultiplesSound
mod PartLemmas
mod PricesSound
mod TableLemmas
mod TableRowLemmas
mod TablesSound
mod TurnLemmas
mod WeightsSound
