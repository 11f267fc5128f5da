-- What callers may cite: which values a clause leaves, when it is false or forces a literal, what justifies it, the literal that a
-- variable has not a value, and which terms are heard.
pub use Rattle.fzn_propagator.proofs.DiffersLemmas.{differs_not, same_value, value_where_false, denied_one, denied_some, may_fail}
pub use Rattle.fzn_propagator.proofs.LeftLemmas.{some_value, left_of_denied, left_of_may, left_of_more, last_fails, none_left, one_end, flat_cond, end_left, ends_ordered}
pub use Rattle.fzn_propagator.proofs.ClauseLemmas.{false_of_none, forcing_of_false, false_push, forcing_push, left-more, left_denied, justified_by, justified_where, hint_of, exhausted}
pub use Rattle.fzn_propagator.proofs.FoundLemmas.{inference_by, inference_of}
pub use Rattle.fzn_propagator.proofs.SubscriptionLemmas.{all_heard-more, all_heard-later, all_heard-by, all_heard-each, all_heard-one, all_heard-join, all_heard-swap}
