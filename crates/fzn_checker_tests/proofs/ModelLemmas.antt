-- The small model is one that a file may ask for.
use Rattle.std.proofs.Common.{◌≡◌, ℕ, ◌<◌, true, ◌&&◌, ℤ, pos, ◌≤ℤ◌, int_le, List, [], ◌∷◌, length, sym, ap, ◌∙◌, arith}
use Rattle.std.specs.List.{AllPairs}
use Rattle.std.proofs.lemmas.Int.{ints}
use Rattle.std.proofs.lemmas.List.Elements.{All-nil, All-from_recursion}
use Rattle.std.proofs.lemmas.List.Kept.{AllPairs-cons}
use Rattle.fzn_domain.specs.declared.literal.VarId.{VarId}
use Rattle.fzn_domain.specs.IntSet.{range}
use Rattle.fzn_domain.specs.Limits.{IsLimited}
use Rattle.fzn_domain.specs.Narrow.{IsVariable}
use Rattle.fzn_domain.proofs.SetLemmas.{contains-range}
use Rattle.fzn_meaning.specs.declared.model.Goal.TheVariants.{Minimize}
use Rattle.fzn_meaning.specs.declared.model.Kind.{Kind}
use Rattle.fzn_meaning.specs.declared.model.OutputItem.TheVariants.{Single}
use Rattle.fzn_meaning.specs.declared.model.Var.{Var}
use Rattle.fzn_meaning.specs.declared.model.Model.{Model}
use Rattle.fzn_meaning.specs.Meaning.{HasBooleanSets, IsWellFormedConstraint}
use Rattle.fzn_meaning.specs.Solutions.{declared_sets}
use Rattle.fzn_meaning.specs.WellFormed.{IsOutputItem, IsWellFormed}

between : (low high v : ℤ) → (int_le low v && int_le v high) ≡ true → (low ≤ℤ v) × (v ≤ℤ high)
between low high v h = (grind (arith, ints), grind (arith, ints))

limited : IsLimited (range (pos 0) (pos 1))
limited v inside =
    let parts = between (pos 0) (pos 1) v (sym (contains-range (pos 0) (pos 1) v) ∙ inside) in
    (omega (arith, ints), omega (arith, ints))

none : AllPairs (λ (v w : VarId). v.0 < w.0) []
none i j d before within = absurd (omega arith)

pub least_bit_well_formed : (x : Var) (name : List ℕ) (kind : Kind) (model : Model) → model.vars ≡ x ∷ [] → x.domain ≡ range (pos 0) (pos 1) → model.constraints ≡ [] → model.goal ≡ Minimize (record { 0 = 1 }) → model.outputs ≡ record { 0 = 1 } ∷ [] → model.shown ≡ Single name kind (record { 0 = 1 }) ∷ [] → IsWellFormed model
least_bit_well_formed x name kind model vars x_is constraints goal outputs shown =
    let count : length model.vars ≡ 1 = ap length vars in
    let sets : declared_sets model.vars ≡ range (pos 0) (pos 1) ∷ [] = ap declared_sets vars ∙ ap (λ s. s ∷ []) x_is in
    record {
      constraints = rw (count, constraints) (All-nil (IsWellFormedConstraint 1));
      booleans = rw constraints (All-nil (HasBooleanSets (declared_sets model.vars)));
      goal = rw (count, goal) (omega arith, omega arith);
      outputs = rw (count, outputs) (All-from_recursion (IsVariable 1) (record { 0 = 1 } ∷ []) ((omega arith, omega arith), tt));
      rising = rw outputs (AllPairs-cons (λ (v w : VarId). v.0 < w.0) (record { 0 = 1 }) [] (All-nil (λ (w : VarId). 1 < w.0)) none);
      shown = rw (count, shown) (All-from_recursion (IsOutputItem 1) (Single name kind (record { 0 = 1 }) ∷ []) ((omega arith, omega arith), tt));
      values = rw sets (All-from_recursion IsLimited (range (pos 0) (pos 1) ∷ []) (limited, tt));
      few_vars = rw count (omega arith);
      few_constraints = rw constraints (omega arith);
    }
