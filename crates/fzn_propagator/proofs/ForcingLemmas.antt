-- The only possible literal of a clause.
use Rattle.std.proofs.Common.{◌≡◌, List, [], ◌∷◌, All, subst}
use Rattle.std.proofs.lemmas.List.Elements.{All-head, All-filter}
use Rattle.fzn_domain.specs.declared.literal.Lit.{Lit}
use Rattle.fzn_domain.specs.IntSet.{IntSet, is_possible}
use Rattle.fzn_domain.specs.Narrow.{set_of, possible_in}

-- what holds of each literal holds of it
pub possible-literal : (P : Lit → Type 0) (sets : List IntSet) (clause : List Lit) (lit : Lit) → All P clause → possible_in sets clause ≡ lit ∷ [] → P lit
possible-literal P sets clause lit all is = All-head P lit [] (subst (All P) is (All-filter (λ l. is_possible (set_of sets l.var) l) P clause all))
