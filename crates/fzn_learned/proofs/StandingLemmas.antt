-- Entries on other variables leave the set of a variable as it was.
use Rattle.std.proofs.Common.{◌≡◌, ◌≢◌, ℕ, zero, suc, ◌+◌, ◌-◌, ◌<◌, ◌≤◌, List, length, map, take, get_or, Some, refl, sym, ap, subst, ◌∙◌, inl, inr, arith, All}
use Rattle.std.specs.List.{slice_get}
use Rattle.std.proofs.lemmas.List.{take-map, get_or-take, get_or-map}
use Rattle.std.proofs.lemmas.List.Elements.{All-get_or}
use Rattle.std.proofs.lemmas.Option.{slice_get_cases}
use Rattle.fzn_domain.specs.declared.literal.VarId.{VarId}
use Rattle.fzn_domain.specs.IntSet.{IntSet}
use Rattle.fzn_domain.specs.Narrow.{IsVariable, set_of}
use Rattle.fzn_domain.proofs.NarrowLemmas.{other_set-narrowed}
use Rattle.fzn_trail.specs.declared.trail.Entry.{Entry}
use Rattle.fzn_trail.specs.Replay.{replayed, variable_at}
use Rattle.fzn_learned.proofs.TrialLemmas.{replayed-more}

-- the first entries are on the same variables
pub variable_at-take : (entries : List Entry) (n k : ℕ) → k < n → variable_at (take n entries) k ≡ variable_at entries k
variable_at-take entries n k below =
    ap (λ (xs : List ℕ). get_or xs k 0) (sym (take-map (λ (e : Entry). e.lit.var.0) n entries))
    ∙ get_or-take n (map (λ (e : Entry). e.lit.var.0) entries) k 0 below

-- one more entry, on another variable
set_of-one : (declared : List IntSet) (entries : List Entry) (var : VarId) (i : ℕ) (e : Entry) → 1 ≤ var.0 → IsVariable (length declared) e.lit.var → slice_get entries i ≡ Some e → e.lit.var.0 ≢ var.0 → set_of (replayed declared (take (i + 1) entries)) var ≡ set_of (replayed declared (take i entries)) var
set_of-one declared entries var i e from on here other =
    let apart : var.0 - 1 ≢ e.lit.var.0 - 1 = λ same. other (omega (arith, on.0)) in
    ap (λ (s : List IntSet). set_of s var) (sym (replayed-more declared (replayed declared (take i entries)) entries i e here refl))
    ∙ other_set-narrowed (replayed declared (take i entries)) e.lit (var.0 - 1) apart

-- as many more entries, none of them on the variable
pub set_of-more : (declared : List IntSet) (entries : List Entry) (var : VarId) (count more : ℕ) → 1 ≤ var.0 → All (λ (e : Entry). IsVariable (length declared) e.lit.var) entries → count + more ≤ length entries → ((k : ℕ) → count ≤ k → k < count + more → variable_at entries k ≢ var.0) → set_of (replayed declared (take (count + more) entries)) var ≡ set_of (replayed declared (take count entries)) var
set_of-more declared entries var count zero from all fits none = ap (λ (n : ℕ). set_of (replayed declared (take n entries)) var) (omega arith)
set_of-more declared entries var count (suc more) from all fits none =
    let i : ℕ = count + more in
    elim ((slice_get_cases entries i).1) [
      | inl found ↦
          let e : Entry = found.0 in
          let on : IsVariable (length declared) e.lit.var = subst (λ (x : Entry). IsVariable (length declared) x.lit.var) found.3 (All-get_or (λ (x : Entry). IsVariable (length declared) x.lit.var) entries i e found.1 all) in
          let number : variable_at entries i ≡ e.lit.var.0 = get_or-map (λ (x : Entry). x.lit.var.0) entries i e 0 found.1 ∙ ap (λ (x : Entry). x.lit.var.0) found.3 in
          let other : e.lit.var.0 ≢ var.0 = λ same. none i (omega arith) (omega arith) (number ∙ same) in
          ap (λ (n : ℕ). set_of (replayed declared (take n entries)) var) (omega arith)
          ∙ set_of-one declared entries var i e from on found.2 other
          ∙ set_of-more declared entries var count more from all (omega arith) (λ k above below. none k above (omega arith))
      | inr past ↦ absurd (omega (arith, past.0))
    ]

-- between the numbers of entries there is none on the variable
pub set_of-until : (declared : List IntSet) (entries : List Entry) (var : VarId) (count until : ℕ) → 1 ≤ var.0 → All (λ (e : Entry). IsVariable (length declared) e.lit.var) entries → count ≤ until → until ≤ length entries → ((k : ℕ) → count ≤ k → k < until → variable_at entries k ≢ var.0) → set_of (replayed declared (take until entries)) var ≡ set_of (replayed declared (take count entries)) var
set_of-until declared entries var count until from all upto fits none =
    let is : until ≡ count + (until - count) = omega arith in
    ap (λ (n : ℕ). set_of (replayed declared (take n entries)) var) is
    ∙ set_of-more declared entries var count (until - count) from all (omega arith) (λ k above below. none k above (omega arith))
