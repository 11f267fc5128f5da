mod HeardLemmas
mod MemberLemmas
