mod FrontLemmas
mod LimitLemmas
mod OneModel
