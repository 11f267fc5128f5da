-- One more turn of the loops that test a clause.
use Rattle.std.proofs.Common.{◌≡◌, ℕ, suc, ◌+◌, ◌<◌, List, [], ◌∷◌, ◌++◌, length, map, take, drop, get_or, Some, sym, ap, subst, ◌∙◌, add-one, drop-cons, All}
use Rattle.std.specs.List.{slice_get}
use Rattle.std.proofs.lemmas.List.{take_more}
use Rattle.std.proofs.lemmas.List.Elements.{All-nil, All-cons, All-head, All-filter}
use Rattle.std.proofs.lemmas.List.Sums.{fold-append}
use Rattle.std.proofs.lemmas.Option.{slice_get_within, get_or_from_slice_get}
use Rattle.fzn_domain.specs.declared.literal.Lit.{Lit}
use Rattle.fzn_domain.specs.IntSet.{IntSet, is_possible}
use Rattle.fzn_domain.specs.Narrow.{IsVariable, set_of, narrowed, possible_in, by_count, ChainOutcome, accepted, not_unit, chain_outcome}
use Rattle.fzn_domain.proofs.NarrowLemmas.{length-narrowed}
use Rattle.fzn_trail.specs.declared.trail.Antecedent.{Antecedent}
use Rattle.fzn_trail.specs.declared.trail.Entry.{Entry}
use Rattle.fzn_trail.specs.Replay.{replayed}
use Rattle.fzn_learned.specs.Reasoned.{Known, Leads}

-- along one more clause
pub chain-more : (clause : Antecedent → List Lit) (sets new : List IntSet) (antecedents : List Antecedent) (i : ℕ) (d : Antecedent) (lit : Lit) (all : ChainOutcome) → i < length antecedents → possible_in sets (clause (get_or antecedents i d)) ≡ lit ∷ [] → new ≡ narrowed sets lit → chain_outcome sets (map clause (drop i antecedents)) ≡ all → chain_outcome new (map clause (drop (i + 1) antecedents)) ≡ all
chain-more clause sets new antecedents i d lit all below one new_is rest =
    ap (λ (n : ℕ). chain_outcome new (map clause (drop n antecedents))) (add-one i)
    ∙ ap (λ (s : List IntSet). chain_outcome s (map clause (drop (suc i) antecedents))) new_is
    ∙ sym (ap (λ (p : List Lit). by_count p accepted (λ l. chain_outcome (narrowed sets l) (map clause (drop (suc i) antecedents))) not_unit) one)
    ∙ sym (ap (λ (rest_of : List Antecedent). chain_outcome sets (map clause rest_of)) (drop-cons antecedents i d below))
    ∙ rest

-- a clause without a possible literal
pub chain-ends : (clause : Antecedent → List Lit) (sets : List IntSet) (antecedents : List Antecedent) (i : ℕ) (d : Antecedent) (all : ChainOutcome) → i < length antecedents → possible_in sets (clause (get_or antecedents i d)) ≡ [] → chain_outcome sets (map clause (drop i antecedents)) ≡ all → all ≡ accepted
chain-ends clause sets antecedents i d all below none rest =
    sym rest ∙ ap (λ (rest_of : List Antecedent). chain_outcome sets (map clause rest_of)) (drop-cons antecedents i d below)
    ∙ ap (λ (p : List Lit). by_count p accepted (λ l. chain_outcome (narrowed sets l) (map clause (drop (suc i) antecedents))) not_unit) none

-- by one more entry
pub replayed-more : (sets now : List IntSet) (entries : List Entry) (i : ℕ) (entry : Entry) → slice_get entries i ≡ Some entry → now ≡ replayed sets (take i entries) → narrowed now entry.lit ≡ replayed sets (take (i + 1) entries)
replayed-more sets now entries i entry is now_is =
    let below : i < length entries = slice_get_within entries i entry is in
    ap (λ (s : List IntSet). narrowed s entry.lit) now_is
    ∙ sym (fold-append (λ (s : List IntSet) (e : Entry). narrowed s e.lit) sets (take i entries) (entry ∷ []))
    ∙ ap (replayed sets) (sym (take_more entries i entry below ∙ ap (λ (e : Entry). take i entries ++ e ∷ []) (get_or_from_slice_get entries i entry entry is)))

-- each entry of a reasoned trail is on one of its variables
pub Leads-variables : (known : Known) (entries : List Entry) (from to : List IntSet) → Leads known from entries to → All (λ (entry : Entry). IsVariable (length from) entry.lit.var) entries
Leads-variables known [] from to leads = All-nil (λ (entry : Entry). IsVariable (length from) entry.lit.var)
Leads-variables known (entry ∷ later) from to leads =
    All-cons (λ (e : Entry). IsVariable (length from) e.lit.var) entry later leads.0
    (subst (λ (n : ℕ). All (λ (e : Entry). IsVariable n e.lit.var) later) (length-narrowed from entry.lit) (Leads-variables known later (narrowed from entry.lit) to leads.2))

-- what holds of all literals holds of the possible one
pub only-has : (P : Lit → Type 0) (sets : List IntSet) (clause : List Lit) (lit : Lit) → All P clause → possible_in sets clause ≡ lit ∷ [] → P lit
only-has P sets clause lit all only =
    All-head P lit [] (subst (All P) only (All-filter (λ (l : Lit). is_possible (set_of sets l.var) l) P clause all))
