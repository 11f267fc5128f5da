-- Unit propagation keeps a trail reasoned, with the same decisions.
use Rattle.std.proofs.Common.{◌≡◌, List, [], ◌∷◌, length, sym, ap, subst, ◌∙◌}
use Rattle.fzn_domain.specs.declared.literal.Lit.{Lit}
use Rattle.fzn_domain.specs.IntSet.{IntSet}
use Rattle.fzn_domain.specs.Narrow.{IsClauseOver}
use Rattle.fzn_trail.specs.declared.trail.Antecedent.TheVariants.{Clause}
use Rattle.fzn_trail.specs.declared.trail.Reason.TheVariants.{Implied}
use Rattle.fzn_trail.specs.Levels.{Levels, asserted}
use Rattle.fzn_trail.specs.Unit.{IsUnit}
use Rattle.fzn_clauses.specs.Held.{AllHeld}
use Rattle.fzn_clauses.specs.Propagation.{Forced, Propagates, IsPropagated}
use Rattle.fzn_learned.specs.Reasoned.{Known, antecedent_clause, IsLoneLiteral, opens, IsReasoned}
use Rattle.fzn_learned.proofs.NarrowerLemmas.{IsVariable-unit}
use Rattle.fzn_learned.proofs.CallerLemmas.{IsReasoned-forced, IsReasoned-marked, opens-forced}

pub IsForced-from_unit : (sets : List IntSet) (clause : List Lit) (lit : Lit) → IsUnit sets clause lit → IsLoneLiteral sets clause lit
IsForced-from_unit sets clause lit unit = (unit.only, unit.not_yet_true)

-- what propagation keeps
pub record KeepsDecisions (old new : Levels) : Type 0 where
  pub declared : new.declared ≡ old.declared
  pub saved : new.saved ≡ old.saved
  pub same_opens : opens new.declared new.entries ≡ opens old.declared old.entries

pub record StaysReasoned (known : Known) (old new : Levels) : Type 0 where
  pub reasoned : IsReasoned known new
  pub keeps : KeepsDecisions old new

along : (known : Known) (forced : List Forced) (old new : Levels) → AllHeld (IsClauseOver (length old.declared)) known.held → IsReasoned known old → Propagates known.held old forced new → StaysReasoned known old new
along known [] old new over reasoned is = record {
  reasoned = subst (λ (t : Levels). IsReasoned known t) (sym is) (IsReasoned-marked known old new.mark reasoned);
  keeps = record {
    declared = ap (λ (t : Levels). t.declared) is;
    saved = ap (λ (t : Levels). t.saved) is;
    same_opens = ap (λ (t : Levels). opens t.declared t.entries) is;
  };
}
along known (forced ∷ rest) old new over reasoned is =
    let unit = is.0.unit in
    let over_here : IsClauseOver (length old.declared) (antecedent_clause known (Clause forced.id)) = over forced.id is.0.is_held in
    let var = IsVariable-unit old.sets (antecedent_clause known (Clause forced.id)) forced.lit (length old.declared) over_here unit.only in
    let next : IsReasoned known (asserted forced.lit (Implied (Clause forced.id)) old) =
    IsReasoned-forced known old forced.lit (Clause forced.id) reasoned var (is.0.is_held, IsForced-from_unit old.sets (antecedent_clause known (Clause forced.id)) forced.lit unit) in
    let later = along known rest (asserted forced.lit (Implied (Clause forced.id)) old) new over next is.1 in
    record {
      reasoned = later.reasoned;
      keeps = record {
        declared = later.keeps.declared;
        saved = later.keeps.saved;
        same_opens = later.keeps.same_opens ∙ opens-forced old forced.lit (Clause forced.id);
      };
    }

pub IsReasoned-propagated : (known : Known) (old new : Levels) → AllHeld (IsClauseOver (length old.declared)) known.held → IsReasoned known old → IsPropagated known.held old new → StaysReasoned known old new
IsReasoned-propagated known old new over reasoned propagated = along known propagated.0 old new over reasoned propagated.1
