-- Rules and literals that have a spelling.
use Rattle.std.proofs.Common.{ℕ, suc, ◌≤◌, ℤ, List, [], ◌∷◌, All, arith}
use Rattle.std.specs.List.{AllByRecursion}
use Rattle.std.proofs.lemmas.List.Elements.{All-head, All-tail, recursion_from_All}
use Rattle.fzn_domain.specs.declared.literal.Lit.{Lit}
use Rattle.fzn_domain.specs.Ascending.{IsAscending}
use Rattle.fzn_domain.specs.Narrow.{IsVariable, IsClauseOver}
use Rattle.fzn_rules.specs.declared.rule.Rule.{Rule}
use Rattle.fzn_rules.specs.declared.rule.Rule.TheVariants.{Lin, Rows, Box, Fixed, Enum, Hall, Load, Energy, Cut, Pair, Row}
use Rattle.fzn_cert.specs.Spelling.{IsHint, IsLiteral, IsNumber, IsRule, Rises}
use Rattle.fzn_propagator.specs.Clause.{IsWritable}
use Rattle.fzn_propagator.specs.Inference.{HasWritableHints}

ascending-rises : (xs : List ℤ) → IsAscending xs → Rises xs
unfolding Rises
ascending-rises [] h = tt
ascending-rises (x ∷ []) h = tt
ascending-rises (x ∷ y ∷ xs) h = (h 0 1 x (omega arith) (omega arith), ascending-rises (y ∷ xs) (λ i j d below within. h (suc i) (suc j) d (omega arith) (omega arith)))

pub rule-spelled : (rule : Rule) → HasWritableHints rule → IsRule rule
rule-spelled Lin h = tt
rule-spelled Rows h = tt
rule-spelled Box h = tt
rule-spelled Fixed h = tt
rule-spelled Enum h = tt
rule-spelled (Hall low high) h = recursion_from_All IsHint (low ∷ high ∷ []) h
rule-spelled (Load time) h = recursion_from_All IsHint (time ∷ []) h
rule-spelled (Energy from to) h = recursion_from_All IsHint (from ∷ to ∷ []) h
rule-spelled (Cut places) h = (recursion_from_All IsHint places h.0, ascending-rises places h.1)
rule-spelled (Pair one other) h = recursion_from_All IsHint (one ∷ other ∷ []) h
rule-spelled Row h = tt

pub few-number : (most n : ℕ) → most ≤ 100000 → 1 ≤ n → n ≤ most → IsNumber n
few-number most n few one within = (one, omega arith)

pub literals-spelled : (count : ℕ) (clause : List Lit) → count ≤ 100000 → IsClauseOver count clause → All IsWritable clause → AllByRecursion IsLiteral clause
literals-spelled count [] few over writable = tt
literals-spelled count (lit ∷ clause) few over writable =
    let var = All-head (λ (l : Lit). IsVariable count l.var) lit clause over in (
      (few-number count lit.var.0 few var.0 var.1, All-head IsWritable lit clause writable),
      literals-spelled count clause few (All-tail (λ (l : Lit). IsVariable count l.var) lit clause over) (All-tail IsWritable lit clause writable),
    )
