mod ItemizedLemmas
mod ListedLemmas
mod TextLemmas
