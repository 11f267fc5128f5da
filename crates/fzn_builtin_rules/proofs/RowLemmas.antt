-- Entries of a list one by one.
use Rattle.std.proofs.Common.{◌≡◌, ℕ, ◌+◌, ◌-◌, ◌<◌, ◌≤◌, List, length, get_or, take, sym, ap, subst, ◌∙◌, arith, pos, negsuc, zero, suc}
use Rattle.std.specs.List.{All, Any}
use Rattle.std.proofs.lemmas.Int.{ints}
use Rattle.std.proofs.lemmas.List.{get_or_default, take_all}
use Rattle.fzn_domain.specs.IntSet.{IntSet}
use Rattle.fzn_values.specs.declared.term.Term.{Term}
use Rattle.fzn_values.specs.declared.term.Term.TheVariants.{Constant}
use Rattle.fzn_sets.specs.Terms.{MayBe, term_at}
use Rattle.fzn_builtin_rules.specs.Rows.{ShareNone, NoEntryFits}

-- where no element has the property, there is none that has it
pub none_has : {X : Type 0} (P : X → Type 0) (xs : List X) (i : ℕ) → length xs ≤ i → All (λ x. P x → ⊥) (take i xs) → Any P xs → ⊥
none_has P xs i end none any =
    let all : All (λ x. P x → ⊥) xs = subst (λ ys. All (λ x. P x → ⊥) ys) (take_all i xs end) none in
    all any.0 any.1 any.2 (subst P (sym any.3) any.4)

at_place : (entries : List Term) (k : ℕ) (d : Term) → k < length entries → term_at entries (pos (k + 1)) ≡ get_or entries k d
at_place entries k d below = let same : k + 1 - 1 ≡ k = omega arith in ap (λ (n : ℕ). get_or entries n (Constant (pos 0))) same ∙ get_or_default entries k (Constant (pos 0)) d below

-- the entry at one place
pub unfit_at : (sets : List IntSet) (index : Term) (entries : List Term) (value : Term) (k : ℕ) (d : Term) → k < length entries → NoEntryFits sets index entries value → MayBe sets index (pos (k + 1)) → ShareNone sets (get_or entries k d) value
unfit_at sets index entries value k d below none may =
    subst (λ (t : Term). ShareNone sets t value) (at_place entries k d below) (none (pos (k + 1)) (omega (arith, ints), omega (arith, ints)) may)

-- the entries at all places
pub unfit_everywhere : (sets : List IntSet) (index : Term) (entries : List Term) (value : Term) → ((j : ℕ) (d : Term) → j < length entries → MayBe sets index (pos (j + 1)) → ShareNone sets (get_or entries j d) value) → NoEntryFits sets index entries value
unfit_everywhere sets index entries value each (pos zero) at may = absurd (omega (arith, ints))
unfit_everywhere sets index entries value each (pos (suc k)) at may =
    let same : k + 1 ≡ suc k = omega arith in
    let below : k < length entries = omega (arith, ints) in
    subst (λ (t : Term). ShareNone sets t value) (sym (at_place entries k (Constant (pos 0)) below) ∙ ap (λ (n : ℕ). term_at entries (pos n)) same) (each k (Constant (pos 0)) below (subst (λ (n : ℕ). MayBe sets index (pos n)) (sym same) may))
unfit_everywhere sets index entries value each (negsuc k) at may = absurd (omega (arith, ints))
