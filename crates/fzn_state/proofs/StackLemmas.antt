-- The inferences that the entries of a trail rest on.
use Rattle.std.proofs.Common.{◌≡◌, ℕ, ◌+◌, ◌<◌, ◌≤◌, List, [], ◌∷◌, length, take, get_or, slice_get, Some, All, cond, refl, sym, ◌∙◌, subst, arith}
use Rattle.std.proofs.lemmas.List.{length-map, take_more, take_all}
use Rattle.std.specs.declared.cmp.Ordering.{Ordering}
use Rattle.std.specs.declared.cmp.Ordering.TheVariants.{Less, Equal, Greater}
use Rattle.std.specs.Ordering.{MatchOrdering, nat_cmp, is_lt, ord_max}
use Rattle.std.proofs.lemmas.Cmp.{ranked}
use Rattle.std.proofs.lemmas.Option.{get_or_from_slice_get}
use Rattle.std.proofs.lemmas.List.Elements.{All-nil, All-cons, All-push, All-weaker}
use Rattle.fzn_domain.specs.declared.literal.Lit.{Lit}
use Rattle.fzn_domain.specs.IntSet.{IntSet}
use Rattle.fzn_domain.specs.Narrow.{narrowed}
use Rattle.fzn_propagator.specs.declared.inferences.Inferred.{Inferred}
use Rattle.fzn_trail.specs.declared.trail.Entry.{Entry}
use Rattle.fzn_trail.specs.declared.trail.Reason.{Reason}
use Rattle.fzn_trail.specs.declared.trail.Antecedent.TheVariants.{Clause, Inference}
use Rattle.fzn_trail.specs.declared.trail.Reason.TheVariants.{Decision, Implied}
use Rattle.fzn_trail.specs.Levels.{Levels, level_of, returned}
use Rattle.fzn_learned.specs.Reasoned.{Known, IsBelow, IsReason, Leads, IsReasoned}
use Rattle.fzn_learned.proofs.CallerLemmas.{IsReasoned-returned}
use Rattle.fzn_state.specs.State.{Stock, known_in}

-- all reasons are below a place
abbrev pub AllBelow : ℕ → List Entry → Type 0
AllBelow n entries = All (λ (entry : Entry). IsBelow n entry.reason) entries

IsBelow-more : (n m : ℕ) (reason : Reason) → n ≤ m → IsBelow n reason → IsBelow m reason
IsBelow-more n m Decision h low = tt
IsBelow-more n m (Implied (Clause id)) h low = tt
IsBelow-more n m (Implied (Inference place)) h low = omega (arith, low)

AllBelow-more : (n m : ℕ) (entries : List Entry) → n ≤ m → AllBelow n entries → AllBelow m entries
AllBelow-more n m entries h low =
    All-weaker (λ (entry : Entry). IsBelow n entry.reason) (λ (entry : Entry). IsBelow m entry.reason) (λ entry one. IsBelow-more n m entry.reason h one) entries low

max-at : (a b : ℕ) (o : Ordering) → MatchOrdering o (b < a) (b ≡ a) (a < b) → (a ≤ cond (is_lt o) a b) × (b ≤ cond (is_lt o) a b)
max-at a b Less h = (omega arith, omega arith)
max-at a b Equal h = (omega arith, omega arith)
max-at a b Greater h = (omega arith, omega arith)

-- neither is above the greater
pub max-above : (a b : ℕ) → (a ≤ ord_max nat_cmp a b) × (b ≤ ord_max nat_cmp a b)
max-above a b = max-at a b (nat_cmp b a) (ranked b a (nat_cmp b a) refl)

-- one more entry
pub AllBelow-next : (len here next i : ℕ) (entries : List Entry) (entry : Entry) → len ≤ next → here ≤ next → i < length entries → slice_get entries i ≡ Some entry → IsBelow here entry.reason → AllBelow len (take i entries) → AllBelow next (take (i + 1) entries)
AllBelow-next len here next i entries entry a b within is one low =
    let L : List Entry → Type 0 = λ es. AllBelow next es in
    let E : Entry → Type 0 = λ e. IsBelow next e.reason in
    subst L (sym (take_more entries i entry within))
    (All-push (λ (e : Entry). IsBelow next e.reason) (take i entries) (get_or entries i entry) (AllBelow-more len next (take i entries) a low) (subst E (sym (get_or_from_slice_get entries i entry entry is)) (IsBelow-more here next entry.reason b one)))

pub AllBelow-all : (len i : ℕ) (entries : List Entry) → length entries ≤ i → AllBelow len (take i entries) → AllBelow len entries
AllBelow-all len i entries past low = let L : List Entry → Type 0 = λ es. AllBelow len es in subst L (take_all i entries past) low

-- a reason is one of the inferences that stand
IsBelow-stacked : (known : Known) (sets : List IntSet) (lit : Lit) (reason : Reason) → IsReason known sets lit reason → IsBelow (length known.stacked) reason
IsBelow-stacked known sets lit Decision h = tt
IsBelow-stacked known sets lit (Implied (Clause id)) h = tt
IsBelow-stacked known sets lit (Implied (Inference place)) h = h.0

Leads-stacked : (known : Known) (entries : List Entry) (from to : List IntSet) → Leads known from entries to → AllBelow (length known.stacked) entries
Leads-stacked known [] from to h = All-nil (λ (entry : Entry). IsBelow (length known.stacked) entry.reason)
Leads-stacked known (entry ∷ later) from to h =
    All-cons (λ (entry : Entry). IsBelow (length known.stacked) entry.reason) entry later (IsBelow-stacked known from entry.lit entry.reason h.1) (Leads-stacked known later (narrowed from entry.lit) to h.2)

pub AllBelow-reasoned : (stock : Stock) (trail : Levels) (count : ℕ) → IsReasoned (known_in stock) trail → count ≡ length stock.stack → AllBelow count trail.entries
AllBelow-reasoned stock trail count reasoned is =
    let N : ℕ → Type 0 = λ n. AllBelow n trail.entries in
    subst N (length-map stock.stack (λ (it : Inferred). it.inference.clause) ∙ sym is) (Leads-stacked (known_in stock) trail.entries trail.declared trail.sets reasoned.leads)

-- so it is on the way back
pub AllBelow-returned : (stock : Stock) (trail : Levels) (level count : ℕ) → IsReasoned (known_in stock) trail → level ≤ level_of trail → count ≡ length stock.stack → AllBelow count (returned level trail).entries
AllBelow-returned stock trail level count reasoned below is =
    let there = returned level trail in
    let N : ℕ → Type 0 = λ n. AllBelow n there.entries in
    subst N (length-map stock.stack (λ (it : Inferred). it.inference.clause) ∙ sym is) (Leads-stacked (known_in stock) there.entries there.declared there.sets (IsReasoned-returned (known_in stock) trail level reasoned below).leads)
