mod DenialLemmas
mod FixedLemmas
mod MeaningLemmas
mod ImageLemmas
