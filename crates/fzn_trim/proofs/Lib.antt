mod ShorterLemmas
mod TrimLemmas
mod WriteLemmas
