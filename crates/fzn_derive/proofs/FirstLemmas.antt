-- The pairs of a first variable, and those of the others.
use Rattle.std.proofs.Common.{◌≡◌, ℕ, ◌+◌, ◌≤◌, List, ◌∷◌, ◌++◌, length, take, drop, sym, ap, subst, ◌∙◌, arith, length-append, length-drop}
use Rattle.std.specs.List.{All, zip, IsFirstAndRest}
use Rattle.std.proofs.lemmas.List.{length-map}
use Rattle.std.proofs.lemmas.List.Elements.{All-append}
use Rattle.fzn_domain.specs.declared.literal.VarId.{VarId}
use Rattle.fzn_meaning.specs.declared.constraint.Constraint.{Constraint}
use Rattle.fzn_cited.specs.declared.fault.DeriveFault.{DeriveFault}
use Rattle.fzn_derive.specs.Apart.{two_by_two, pairs_cited, IsPairTold, IsPairWrong, IsPairsFault}
use Rattle.fzn_derive.proofs.PairLemmas.{paired, pairs_cited-first}
use Rattle.fzn_cited.proofs.CitedLemmas.{HoldsUpTo-append_left, HoldsUpTo-append_right}

first_rest : (xs : List VarId) (x : VarId) (ys : List VarId) → IsFirstAndRest xs x ys → xs ≡ x ∷ ys
first_rest xs x ys h = h.0

enough : (x : VarId) (ys : List VarId) (ids : List ℕ) → length ids ≡ length (two_by_two (x ∷ ys)) → (length ys ≤ length ids) × (length (drop (length ys) ids) ≡ length (two_by_two ys))
enough x ys ids count =
    let all : length ids ≡ length ys + length (two_by_two ys) =
    count ∙ length-append (paired x ys) (two_by_two ys) ∙ ap (λ (n : ℕ). n + length (two_by_two ys)) (length-map ys (λ (other : VarId). (x, other))) in
    let behind = length-drop (length ys) ids in
    (omega arith, omega arith)

-- where they are counted
pub later_count : (rest : List VarId) (x : VarId) (ys : List VarId) (ids : List ℕ) → IsFirstAndRest rest x ys → length ids ≡ length (two_by_two rest) → length (drop (length ys) ids) ≡ length (two_by_two ys)
later_count rest x ys ids cases count = (enough x ys ids (count ∙ ap (λ (vs : List VarId). length (two_by_two vs)) (first_rest rest x ys cases))).1

parts : (rest : List VarId) (x : VarId) (ys : List VarId) (ids : List ℕ) → IsFirstAndRest rest x ys → length ids ≡ length (two_by_two rest) → pairs_cited rest ids ≡ zip (paired x ys) (take (length ys) ids) ++ pairs_cited ys (drop (length ys) ids)
parts rest x ys ids cases count =
    let whole = first_rest rest x ys cases in
    ap (λ (vs : List VarId). pairs_cited vs ids) whole ∙ pairs_cited-first x ys ids (enough x ys ids (count ∙ ap (λ (vs : List VarId). length (two_by_two vs)) whole)).0

-- what is wrong with one of the first pairs, or of those behind them, is wrong with all
pub first_fault : (given : List Constraint) (rest : List VarId) (x : VarId) (ys : List VarId) (ids : List ℕ) (fault : DeriveFault) → IsFirstAndRest rest x ys → length ids ≡ length (two_by_two rest) → IsPairsFault given (zip (paired x ys) (take (length ys) ids)) fault → IsPairsFault given (pairs_cited rest ids) fault
first_fault given rest x ys ids fault cases count h =
    subst (λ (pairs : List ((VarId × VarId) × ℕ)). IsPairsFault given pairs fault) (sym (parts rest x ys ids cases count))
    (HoldsUpTo-append_left (IsPairTold given) (IsPairWrong given fault) (zip (paired x ys) (take (length ys) ids)) (pairs_cited ys (drop (length ys) ids)) h)

pub later_fault : (given : List Constraint) (rest : List VarId) (x : VarId) (ys : List VarId) (ids : List ℕ) (fault : DeriveFault) → IsFirstAndRest rest x ys → length ids ≡ length (two_by_two rest) → All (IsPairTold given) (zip (paired x ys) (take (length ys) ids)) → IsPairsFault given (pairs_cited ys (drop (length ys) ids)) fault → IsPairsFault given (pairs_cited rest ids) fault
later_fault given rest x ys ids fault cases count told h =
    subst (λ (pairs : List ((VarId × VarId) × ℕ)). IsPairsFault given pairs fault) (sym (parts rest x ys ids cases count))
    (HoldsUpTo-append_right (IsPairTold given) (IsPairWrong given fault) (zip (paired x ys) (take (length ys) ids)) (pairs_cited ys (drop (length ys) ids)) told h)

pub both_told : (given : List Constraint) (rest : List VarId) (x : VarId) (ys : List VarId) (ids : List ℕ) → IsFirstAndRest rest x ys → length ids ≡ length (two_by_two rest) → All (IsPairTold given) (zip (paired x ys) (take (length ys) ids)) → All (IsPairTold given) (pairs_cited ys (drop (length ys) ids)) → All (IsPairTold given) (pairs_cited rest ids)
both_told given rest x ys ids cases count told later =
    subst (All (IsPairTold given)) (sym (parts rest x ys ids cases count)) (All-append (IsPairTold given) (zip (paired x ys) (take (length ys) ids)) (pairs_cited ys (drop (length ys) ids)) told later)
