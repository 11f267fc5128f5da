-- A sort only moves the numbers of both.
use Rattle.std.proofs.Common.{ℕ, ◌++◌, List, All, Contains, sym, ap, ◌∙◌, subst, inl, inr}
use Rattle.std.proofs.lemmas.List.Elements.{All-append, All-weaker, Contains-append_left, Contains-append_right}
use Rattle.std.proofs.lemmas.List.Sorted.{IsNonDecreasingBy-from_sort, All-permutation, Contains-permutation}
use Rattle.fzn_clauses.specs.Watching.{held_by}
use Rattle.fzn_reduction.specs.Deletion.{IsOfHeld, IsOfStacked, IsInUse}
use Rattle.fzn_reduction.proofs.idle.numbers_in_use.Goals as goal

pub returns-clause-all : goal.returns-clause-all
returns-clause-all c n in_use =
    let both = c.in_ok-extend_from_slice.ensures.items ∙ ap (λ (ns : List ℕ). c.in_ok-used.used.items ++ ns) c.as_slice.ensures.value in
    let there : Contains (c.in_ok-used.used.items ++ c.in_ok-stacked.stacked.items) n = elim in_use [
      | inl held ↦ Contains-append_left c.in_ok-used.used.items c.in_ok-stacked.stacked.items n (c.in_ok-used.ensures.all n held)
      | inr stacked ↦ Contains-append_right c.in_ok-used.used.items c.in_ok-stacked.stacked.items n (c.in_ok-stacked.ensures.all n stacked)
    ] in
    let C : List ℕ → Type 0 = λ ns. Contains ns n in
    Contains-permutation c.extend_from_slice.new.self.items c.sort_unstable.new.self.items n c.sort_unstable.ensures.permutation (subst C (sym both) there)

pub returns-clause-only : goal.returns-clause-only
returns-clause-only c =
    let both = c.in_ok-extend_from_slice.ensures.items ∙ ap (λ (ns : List ℕ). c.in_ok-used.used.items ++ ns) c.as_slice.ensures.value in
    let held = held_by c.args.clauses.now in
    let numbers = c.args.numbers.now in
    let stack = c.args.inferences.now in
    let U : ℕ → Type 0 = IsInUse (held_by c.args.clauses.now) c.args.numbers.now c.args.inferences.now in
    let A : List ℕ → Type 0 = λ ns. All (IsInUse (held_by c.args.clauses.now) c.args.numbers.now c.args.inferences.now) ns in
    All-permutation U c.extend_from_slice.new.self.items c.sort_unstable.new.self.items c.sort_unstable.ensures.permutation
    (subst A (sym both) (All-append U c.in_ok-used.used.items c.in_ok-stacked.stacked.items
    (All-weaker (IsOfHeld held numbers) U (λ n is. inl is) c.in_ok-used.used.items c.in_ok-used.ensures.only)
    (All-weaker (IsOfStacked stack) U (λ n is. inr is) c.in_ok-stacked.stacked.items c.in_ok-stacked.ensures.only)))

pub returns-clause-sorted : goal.returns-clause-sorted
returns-clause-sorted c = IsNonDecreasingBy-from_sort (λ x. x) _ c.sort_unstable.ensures.sorted
