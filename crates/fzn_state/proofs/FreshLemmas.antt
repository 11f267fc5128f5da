-- Each learned clause is false at an assignment at which the earlier ones are true.
use Rattle.std.proofs.Common.{◌≡◌, ℕ, ◌-◌, ◌<◌, Bool, true, false, not, ◌||◌, inl, inr, ℤ, List, [], ◌∷◌, ◌++◌, length, map, All, refl, sym, ap, ◌∙◌, subst, arith}
use Rattle.std.proofs.lemmas.List.{append-nil, append_assoc, map-append}
use Rattle.std.proofs.lemmas.List.Elements.{All-push, All-weaker}
use Rattle.fzn_domain.specs.declared.literal.Lit.{Lit}
use Rattle.fzn_domain.specs.Literal.{negated}
use Rattle.fzn_domain.specs.IntSet.{IntSet, least}
use Rattle.fzn_domain.specs.Narrow.{IsVariable, IsWithin, NoneEmpty, value_of, narrowed, is_literal_true, is_clause_true}
use Rattle.fzn_domain.proofs.SetLemmas.{is_true_at-negated}
use Rattle.fzn_learned.specs.Reasoned.{Open}
use Rattle.fzn_state.specs.Learned.{SaysMore, FreshAfter, HasCertain, HasLiteral, negations, IsBacked, LevelsBacked, AllCertain}
use Rattle.fzn_state.proofs.WithinLemmas.{Within, Within-narrowed, IsWithin-least, IsWithin-larger, certain-true, HasCertain-within, HasCertain-asserted}

both_false : (a b : Bool) → a ≡ false → b ≡ false → (a || b) ≡ false
both_false a b p q = ap (λ x. x || b) p ∙ q

-- no negated decision is true within sets on which the decisions are certain
negations-fail : (sets : List IntSet) (a : List ℤ) (taken : List Open) → IsWithin sets a → AllCertain (length sets) sets taken → is_clause_true a (negations taken) ≡ false
negations-fail sets a [] h c = refl
negations-fail sets a (at ∷ taken) h c =
    let lit = at.decision in
    let var = c.0 in
    let index : lit.var.0 - 1 < length sets = omega arith in
    both_false (is_literal_true a (negated lit)) (is_clause_true a (negations taken))
    (is_true_at-negated lit (value_of a lit.var) ∙ ap not (c.1 (value_of a lit.var) (h.inside (lit.var.0 - 1) index)))
    (negations-fail sets a taken h c.2)

-- one more clause at the end of a list of fresh ones
FreshAfter-push : (declared : List IntSet) (before clauses : List (List Lit)) (clause : List Lit) → FreshAfter declared before clauses → SaysMore declared (before ++ clauses) clause → FreshAfter declared before (clauses ++ clause ∷ [])
FreshAfter-push declared before [] clause h w = let P : List (List Lit) → Type 0 = λ bs. SaysMore declared bs clause in (subst P (append-nil before) w, tt)
FreshAfter-push declared before (first ∷ clauses) clause h w =
    let P : List (List Lit) → Type 0 = λ bs. SaysMore declared bs clause in
    (h.0, FreshAfter-push declared (before ++ first ∷ []) clauses clause h.1 (subst P (sym (append_assoc before (first ∷ []) clauses)) w))

pub learned-fresh : (declared sets : List IntSet) (clauses : List (List Lit)) (taken : List Open) → length sets ≡ length declared → Within sets declared → NoneEmpty sets → AllCertain (length declared) sets taken → All (HasCertain (length declared) sets) clauses → FreshAfter declared [] clauses → FreshAfter declared [] (clauses ++ negations taken ∷ [])
learned-fresh declared sets clauses taken e w filled certain backed fresh =
    let a = map least sets in
    let h = IsWithin-least sets filled in
    let C : ℕ → Type 0 = λ n. AllCertain n sets taken in
    let B : ℕ → Type 0 = λ n. All (HasCertain n sets) clauses in
    FreshAfter-push declared [] clauses (negations taken) fresh (record {
      witness = a;
      within = IsWithin-larger sets declared a e w h;
      true_before = All-weaker (HasCertain (length sets) sets) (λ c. is_clause_true a c ≡ true) (λ c t. certain-true sets a c h t) clauses (subst B (sym e) backed);
      fails = negations-fail sets a taken h (subst C (sym e) certain);
    })

-- ---- a decision

pub LevelsBacked-push : (count : ℕ) (clauses : List (List Lit)) (taken : List Open) (at : Open) → LevelsBacked count clauses taken → All (HasCertain count at.sets) clauses → LevelsBacked count clauses (taken ++ at ∷ [])
LevelsBacked-push count clauses [] at h k = (All-weaker (HasCertain count at.sets) (IsBacked count at) (λ c q. inl q) clauses k, tt)
LevelsBacked-push count clauses (first ∷ taken) at h k = (h.0, LevelsBacked-push count clauses taken at h.1 k)

-- ---- a step back

HasLiteral-append : (lit : Lit) (c d : List Lit) → HasLiteral lit c → HasLiteral lit (c ++ d)
HasLiteral-append lit [] d h = absurd h
HasLiteral-append lit (k ∷ ks) d (inl h) = inl h
HasLiteral-append lit (k ∷ ks) d (inr h) = inr (HasLiteral-append lit ks d h)

HasLiteral-last : (lit : Lit) (c : List Lit) → HasLiteral lit (c ++ lit ∷ [])
HasLiteral-last lit [] = inl refl
HasLiteral-last lit (k ∷ ks) = inr (HasLiteral-last lit ks)

negations-push : (taken : List Open) (at : Open) → negations (taken ++ at ∷ []) ≡ negations taken ++ negated at.decision ∷ []
negations-push taken at = map-append (λ (o : Open). negated o.decision) taken (at ∷ [])

learned-last : (taken : List Open) (at : Open) → HasLiteral (negated at.decision) (negations (taken ++ at ∷ []))
learned-last taken at = let P : List Lit → Type 0 = λ c. HasLiteral (negated at.decision) c in subst P (sym (negations-push taken at)) (HasLiteral-last (negated at.decision) (negations taken))

-- every clause keeps what backs it below, and the new clause has every negated decision
levels-learned : (count : ℕ) (clauses : List (List Lit)) (clause : List Lit) (taken : List Open) → LevelsBacked count clauses taken → ((lit : Lit) → HasLiteral lit (negations taken) → HasLiteral lit clause) → LevelsBacked count (clauses ++ clause ∷ []) taken
levels-learned count clauses clause [] h k = tt
levels-learned count clauses clause (at ∷ taken) h k =
    (All-push (IsBacked count at) clauses clause h.0 (inr (k (negated at.decision) (inl refl))), levels-learned count clauses clause taken h.1 (λ lit q. k lit (inr q)))

levels-front : (count : ℕ) (clauses : List (List Lit)) (taken : List Open) (at : Open) → LevelsBacked count clauses (taken ++ at ∷ []) → LevelsBacked count clauses taken × All (IsBacked count at) clauses
levels-front count clauses [] at h = (tt, h.0)
levels-front count clauses (first ∷ taken) at h = let r = levels-front count clauses taken at h.1 in ((h.0, r.0), r.1)

pub LevelsBacked-back : (count : ℕ) (clauses : List (List Lit)) (taken : List Open) (at : Open) → LevelsBacked count clauses (taken ++ at ∷ []) → LevelsBacked count (clauses ++ negations (taken ++ at ∷ []) ∷ []) taken
LevelsBacked-back count clauses taken at h =
    levels-learned count clauses (negations (taken ++ at ∷ [])) taken (levels-front count clauses taken at h).0
    (λ lit q. let P : List Lit → Type 0 = λ c. HasLiteral lit c in subst P (sym (negations-push taken at)) (HasLiteral-append lit (negations taken) (negated at.decision ∷ []) q))

backed-by : (count : ℕ) (at : Open) (clause : List Lit) → length at.sets ≡ count → IsVariable count at.decision.var → IsBacked count at clause → HasCertain count (narrowed at.sets (negated at.decision)) clause
backed-by count at clause e var (inl h) = HasCertain-within count (narrowed at.sets (negated at.decision)) at.sets clause (Within-narrowed at.sets (negated at.decision)) h
backed-by count at clause e var (inr h) = HasCertain-asserted count at.sets (negated at.decision) clause e var h

pub backed-back : (count : ℕ) (clauses : List (List Lit)) (taken : List Open) (at : Open) → length at.sets ≡ count → IsVariable count at.decision.var → LevelsBacked count clauses (taken ++ at ∷ []) → All (HasCertain count (narrowed at.sets (negated at.decision))) (clauses ++ negations (taken ++ at ∷ []) ∷ [])
backed-back count clauses taken at e var h =
    All-push (HasCertain count (narrowed at.sets (negated at.decision))) clauses (negations (taken ++ at ∷ []))
    (All-weaker (IsBacked count at) (HasCertain count (narrowed at.sets (negated at.decision))) (λ c q. backed-by count at c e var q) clauses (levels-front count clauses taken at h).1)
    (HasCertain-asserted count at.sets (negated at.decision) (negations (taken ++ at ∷ [])) e var (learned-last taken at))
