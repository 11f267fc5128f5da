-- Unit propagation from smaller sets follows the entries that led on from larger ones.
use Rattle.std.proofs.Common.{◌≡◌, ℕ, Bool, true, false, cond, ◌⊎◌, List, [], ◌∷◌, ◌++◌, map, length, refl, sym, ap, subst, ◌∙◌, inl, inr, All}
use Rattle.std.proofs.lemmas.List.Elements.{All-nil, All-cons, All-head, All-tail, All-weaker}
use Rattle.fzn_domain.specs.declared.literal.Lit.{Lit}
use Rattle.fzn_domain.specs.Literal.{negated}
use Rattle.fzn_domain.specs.IntSet.{IntSet, is_possible}
use Rattle.fzn_domain.specs.Narrow.{IsVariable, set_of, narrowed, denied, possible_in, ChainOutcome, accepted, not_unit, by_count, chain_outcome, IsAcceptedFrom}
use Rattle.fzn_domain.proofs.NarrowLemmas.{length-narrowed}
use Rattle.fzn_trail.specs.declared.trail.Entry.{Entry}
use Rattle.fzn_trail.specs.declared.trail.Antecedent.{Antecedent}
use Rattle.fzn_trail.specs.declared.trail.Reason.{Reason}
use Rattle.fzn_trail.specs.declared.trail.Reason.TheVariants.{Decision, Implied}
use Rattle.fzn_trail.specs.Levels.{IsNarrower}
use Rattle.fzn_trail.proofs.CallerLemmas.{IsNarrower-narrowed}
use Rattle.fzn_learned.specs.Learned.{antecedent_before, antecedents_of}
use Rattle.fzn_learned.specs.Reasoned.{Known, antecedent_clause, IsReason, Leads, Open, open_at, opens, negated_decisions}
use Rattle.fzn_learned.proofs.NarrowerLemmas.{IsTrueOn, IsNarrower-self, IsNarrower-through, IsTrueOn-narrower, IsTrueOn-twice, narrowed_both, narrowed_where_true, false_on_narrower, unit_on_narrower, impossible-negated}
use Rattle.fzn_learned.proofs.EntryLemmas.{IsTaken, opens-taken}

-- each of the decisions is true on the sets
abbrev pub AllTrueOn : List IntSet → List Open → Type 0
AllTrueOn sets taken = All (λ (at : Open). IsTrueOn sets at.decision) taken

AllTrueOn-narrower : (small large : List IntSet) (taken : List Open) → IsNarrower small large → AllTrueOn large taken → AllTrueOn small taken
AllTrueOn-narrower small large taken narrower holds =
    All-weaker (λ (at : Open). IsTrueOn large at.decision) (λ (at : Open). IsTrueOn small at.decision) (λ at h. IsTrueOn-narrower small large at.decision narrower h) taken holds

-- ---- the chain

by_none : (possible : List Lit) (after : Lit → ChainOutcome) → possible ≡ [] → by_count possible accepted after not_unit ≡ accepted
by_none possible after e = ap (λ (p : List Lit). by_count p accepted after not_unit) e

by_one : (possible : List Lit) (lit : Lit) (after : Lit → ChainOutcome) → (possible ≡ []) ⊎ (possible ≡ lit ∷ []) → after lit ≡ accepted → by_count possible accepted after not_unit ≡ accepted
by_one possible lit after (inl e) h = by_none possible after e
by_one possible lit after (inr e) h = ap (λ (p : List Lit). by_count p accepted after not_unit) e ∙ h

-- along one entry, and then along the rest
step : (known : Known) (rest : List (List Lit)) (ids : List Antecedent) (taken : List Open) (small from : List IntSet) (lit : Lit) (reason : Reason) → IsVariable (length from) lit.var → IsNarrower small from → IsReason known from lit reason → AllTrueOn small (open_at from lit reason taken) → ((s : List IntSet) → IsNarrower s (narrowed from lit) → AllTrueOn s taken → chain_outcome s (map (antecedent_clause known) ids ++ rest) ≡ accepted) → chain_outcome small (map (antecedent_clause known) (antecedent_before reason ids) ++ rest) ≡ accepted
step known rest ids taken small from lit Decision var narrower h holds go_on =
    go_on small
    (narrowed_where_true small from lit var (All-head (λ (at : Open). IsTrueOn small at.decision) (record { sets = from; decision = lit }) taken holds) narrower)
    (All-tail (λ (at : Open). IsTrueOn small at.decision) (record { sets = from; decision = lit }) taken holds)
step known rest ids taken small from lit (Implied antecedent) var narrower h holds go_on =
    let var_small : IsVariable (length small) lit.var = subst (λ (n : ℕ). IsVariable n lit.var) (sym narrower.one_each) var in
    by_one (possible_in small (antecedent_clause known antecedent)) lit (λ l. chain_outcome (narrowed small l) (map (antecedent_clause known) ids ++ rest))
    (unit_on_narrower small from (antecedent_clause known antecedent) lit narrower h.1.0)
    (go_on (narrowed small lit) (narrowed_both small from lit var narrower)
    (AllTrueOn-narrower (narrowed small lit) small taken (IsNarrower-narrowed small small lit var_small (IsNarrower-self small)) holds))

-- a clause that is false on the last sets ends the chain of all antecedents, from any smaller sets on which the decisions are true
pub chain_along : (known : Known) (conflict : List Lit) (entries : List Entry) (small from to : List IntSet) → IsNarrower small from → AllTrueOn small (opens from entries) → Leads known from entries to → possible_in to conflict ≡ [] → chain_outcome small (map (antecedent_clause known) (antecedents_of entries) ++ conflict ∷ []) ≡ accepted
chain_along known conflict [] small from to narrower holds leads none =
    by_none (possible_in small conflict) (λ l. chain_outcome (narrowed small l) [])
    (false_on_narrower small from conflict narrower (subst (λ (s : List IntSet). possible_in s conflict ≡ []) (sym leads) none))
chain_along known conflict (entry ∷ later) small from to narrower holds leads none =
    step known (conflict ∷ []) (antecedents_of later) (opens (narrowed from entry.lit) later) small from entry.lit entry.reason leads.0 narrower leads.1 holds
    (λ s s_narrower s_holds. chain_along known conflict later s (narrowed from entry.lit) to s_narrower s_holds leads.2 none)

-- ---- the denied clause

abbrev AllVariables : ℕ → List Open → Type 0
AllVariables count taken = All (λ (at : Open). IsVariable count at.decision.var) taken

module _ (at : Open) (taken : List Open) (sets : List IntSet) (vars : AllVariables (length sets) (at ∷ taken)) where
  first_var : IsVariable (length sets) at.decision.var
  first_var = All-head (λ (o : Open). IsVariable (length sets) o.decision.var) at taken vars

  later_vars : AllVariables (length (narrowed sets (negated (negated at.decision)))) taken
  later_vars =
      subst (λ (n : ℕ). AllVariables n taken) (sym (length-narrowed sets (negated (negated at.decision))))
      (All-tail (λ (o : Open). IsVariable (length sets) o.decision.var) at taken vars)

denied_narrower : (taken : List Open) (sets : List IntSet) → AllVariables (length sets) taken → IsNarrower (denied sets (map (λ (at : Open). negated at.decision) taken)) sets
denied_narrower [] sets vars = IsNarrower-self sets
denied_narrower (at ∷ taken) sets vars =
    let next : List IntSet = narrowed sets (negated (negated at.decision)) in
    IsNarrower-through (denied next (map (λ (o : Open). negated o.decision) taken)) next sets
    (denied_narrower taken next (later_vars at taken sets vars))
    (IsNarrower-narrowed sets sets (negated (negated at.decision)) (first_var at taken sets vars) (IsNarrower-self sets))

-- where the negated decisions were denied all decisions are true
denied_true : (taken : List Open) (sets : List IntSet) → AllVariables (length sets) taken → AllTrueOn (denied sets (map (λ (at : Open). negated at.decision) taken)) taken
denied_true [] sets vars = All-nil (λ (at : Open). IsTrueOn sets at.decision)
denied_true (at ∷ taken) sets vars =
    let next : List IntSet = narrowed sets (negated (negated at.decision)) in
    let last : List IntSet = denied next (map (λ (o : Open). negated o.decision) taken) in
    All-cons (λ (o : Open). IsTrueOn last o.decision) at taken
    (IsTrueOn-narrower last next at.decision (denied_narrower taken next (later_vars at taken sets vars)) (IsTrueOn-twice sets at.decision (first_var at taken sets vars)))
    (denied_true taken next (later_vars at taken sets vars))

-- the clause of all negated decisions is accepted, by what the entries follow from and then a clause that is false
pub accepted_plain : (known : Known) (conflict : List Lit) (entries : List Entry) (declared to : List IntSet) → Leads known declared entries to → possible_in to conflict ≡ [] → IsAcceptedFrom declared (negated_decisions declared entries) (map (antecedent_clause known) (antecedents_of entries) ++ conflict ∷ [])
accepted_plain known conflict entries declared to leads none =
    let vars : AllVariables (length declared) (opens declared entries) =
    All-weaker (IsTaken declared) (λ (at : Open). IsVariable (length declared) at.decision.var) (λ at taken. taken.variable) (opens declared entries) (opens-taken known entries declared to leads) in
    inr (chain_along known conflict entries (denied declared (negated_decisions declared entries)) declared to
    (denied_narrower (opens declared entries) declared vars) (denied_true (opens declared entries) declared vars) leads none)

-- ---- the clause where the decisions are true

none_more : (b : Bool) (x : Lit) (xs : List Lit) → b ≡ false → xs ≡ [] → cond b (x ∷ xs) xs ≡ []
none_more true x xs e h = cc
none_more false x xs e h = h

-- no negated decision is possible where all decisions are true
pub negations_false : (taken : List Open) (sets : List IntSet) → AllTrueOn sets taken → possible_in sets (map (λ (at : Open). negated at.decision) taken) ≡ []
negations_false [] sets holds = refl
negations_false (at ∷ taken) sets holds =
    let P : Open → Type 0 = λ o. IsTrueOn sets o.decision in
    none_more (is_possible (set_of sets at.decision.var) (negated at.decision)) (negated at.decision) (possible_in sets (map (λ (o : Open). negated o.decision) taken))
    (impossible-negated sets at.decision (All-head P at taken holds))
    (negations_false taken sets (All-tail P at taken holds))
