mod HeldLemmas
mod ModelLemmas
