-- Variables among the declarations.
use Rattle.std.proofs.Common.{◌≡◌, ◌∙◌, ℕ, ◌+◌, ◌<◌, take, length, get_or, List, [], ◌∷◌, ◌++◌, refl, ap}
use Rattle.std.proofs.lemmas.List.{append-nil, take_more}
use Rattle.fzn_names.specs.Variables.{var_of, vars_of}
use Rattle.fzn_tree.specs.declared.tree.ArrayVar.{ArrayVar}
use Rattle.fzn_tree.specs.declared.tree.SingleVar.{SingleVar}
use Rattle.fzn_tree.specs.declared.tree.Var.{Var}
use Rattle.fzn_tree.specs.declared.tree.Var.TheVariants as vars

pub vars_of-append : (xs ys : List Var) → vars_of (xs ++ ys) ≡ vars_of xs ++ vars_of ys
vars_of-append [] ys = refl
vars_of-append (vars.Single var ∷ xs) ys = ap (λ rest. var_of var ∷ rest) (vars_of-append xs ys)
vars_of-append (vars.Array var ∷ xs) ys = vars_of-append xs ys

-- one more declaration
vars_of-more : (xs : List Var) (i : ℕ) (x : Var) → i < length xs → x ≡ get_or xs i x → vars_of (take (i + 1) xs) ≡ vars_of (take i xs) ++ vars_of (x ∷ [])
vars_of-more xs i x below is =
    let longer : take (i + 1) xs ≡ take i xs ++ get_or xs i x ∷ [] = take_more xs i x below in
    rw longer (rw (← is) (vars_of-append (take i xs) (x ∷ [])))

pub vars_of-array : (xs : List Var) (i : ℕ) (x : Var) (array : ArrayVar) → i < length xs → x ≡ get_or xs i x → x ≡ vars.Array array → vars_of (take (i + 1) xs) ≡ vars_of (take i xs)
vars_of-array xs i x array below is shape = vars_of-more xs i x below is ∙ (rw shape (append-nil (vars_of (take i xs))))

pub vars_of-single : (xs : List Var) (i : ℕ) (x : Var) (single : SingleVar) → i < length xs → x ≡ get_or xs i x → x ≡ vars.Single single → vars_of (take (i + 1) xs) ≡ vars_of (take i xs) ++ var_of single ∷ []
vars_of-single xs i x single below is shape = vars_of-more xs i x below is ∙ (rw shape refl)
