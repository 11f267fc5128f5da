use Rattle.std.proofs.Common.{◌≡◌, ℕ, min, List, length, take, sym, ap, ◌∙◌, inl, inr, arith}
use Rattle.std.proofs.lemmas.Bool.{cases_lt}
use Rattle.std.proofs.lemmas.List.{take_all}
use Rattle.fzn_values.proofs.cumulative.first_block.Goals as goal

take-min : {A : Type 0} (n : ℕ) (xs : List A) → take (min (length xs) n) xs ≡ take n xs
take-min n xs = elim (cases_lt n (length xs)) [
  | inl more ↦ ap (λ k. take k xs) (omega arith)
  | inr all ↦ take_all (min (length xs) n) xs (omega arith) ∙ sym (take_all n xs all)
]

pub returns : goal.returns
returns c = c.before-2.ensures ∙ ap (λ k. take k c.args.rest.now) (c.min.ensures ∙ ap (λ n. min n 8192) c.len.ensures) ∙ take-min 8192 c.args.rest.now
