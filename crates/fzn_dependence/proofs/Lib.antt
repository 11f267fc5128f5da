mod DecidedLemmas
pub mod DecidedSound
pub mod IntLemmas
