-- The decisions among the entries of a trail.
use Rattle.std.proofs.Common.{◌≡◌, ℕ, ◌+◌, ◌<◌, ◌≤◌, Bool, true, false, cond, List, [], ◌∷◌, ◌++◌, length, refl, sym, ap, subst, ◌∙◌, arith, filter, All}
use Rattle.std.proofs.lemmas.List.{nil_from_length, map-append, length-append, length-take-le}
use Rattle.std.proofs.lemmas.List.Elements.{filter-append, filter_passes, All-head}
use Rattle.std.proofs.lemmas.Option.{get_or_from_slice_get}
use Rattle.fzn_domain.specs.declared.literal.Lit.{Lit}
use Rattle.fzn_domain.specs.Literal.{negated}
use Rattle.fzn_domain.specs.IntSet.{IntSet, is_possible}
use Rattle.fzn_domain.specs.Narrow.{IsVariable, IsOpen, NoneEmpty, set_of, narrowed, possible_in}
use Rattle.fzn_domain.proofs.NarrowLemmas.{length-narrowed}
use Rattle.fzn_trail.specs.declared.trail.Entry.{Entry}
use Rattle.fzn_trail.specs.declared.trail.Reason.{Reason}
use Rattle.fzn_trail.specs.declared.trail.Reason.TheVariants.{Decision, Implied}
use Rattle.fzn_trail.specs.Levels.{Levels, Standing, standing, restored, returned}
use Rattle.fzn_trail.proofs.CallerLemmas.{NoneEmpty-narrowed, returned-below}
use Rattle.fzn_learned.specs.Reasoned.{Known, antecedent_clause, IsReason, Leads, Open, open_at, opens, IsReasoned}
use Rattle.fzn_state.specs.Volume.{slack}
use Rattle.fzn_state.specs.Learned.{IsTrueAtEach, AllCertain, negations}
use Rattle.fzn_state.proofs.VolumeLemmas.{slack-narrowed_le}
use Rattle.fzn_state.proofs.WithinLemmas.{Within, Within-self, Within-through, Within-narrowed, IsCertain-within, IsCertain-narrowed, impossible-negated}

-- ---- from the first sets to the last

pub forced-possible : (sets : List IntSet) (clause : List Lit) (lit : Lit) → possible_in sets clause ≡ lit ∷ [] → is_possible (set_of sets lit.var) lit ≡ true
forced-possible sets clause lit e =
    let P : List Lit → Type 0 = λ lits. All (λ (l : Lit). is_possible (set_of sets l.var) l ≡ true) lits in
    All-head (λ (l : Lit). is_possible (set_of sets l.var) l ≡ true) lit [] (subst P e (filter_passes (λ (l : Lit). is_possible (set_of sets l.var) l) clause))

reason-possible : (known : Known) (sets : List IntSet) (lit : Lit) (reason : Reason) → IsReason known sets lit reason → is_possible (set_of sets lit.var) lit ≡ true
reason-possible known sets lit Decision h = h.0
reason-possible known sets lit (Implied antecedent) h = forced-possible sets (antecedent_clause known antecedent) lit h.1.0

module _ (known : Known) where
  pub Leads-within : (from : List IntSet) (entries : List Entry) (to : List IntSet) → Leads known from entries to → Within to from
  Leads-within from [] to h = let P : List IntSet → Type 0 = λ s. Within s from in subst P h (Within-self from)
  Leads-within from (entry ∷ later) to h =
      Within-through to (narrowed from entry.lit) from (Leads-within (narrowed from entry.lit) later to h.2) (Within-narrowed from entry.lit)

  pub Leads-length : (from : List IntSet) (entries : List Entry) (to : List IntSet) → Leads known from entries to → length to ≡ length from
  Leads-length from [] to h = sym (ap length h)
  Leads-length from (entry ∷ later) to h = Leads-length (narrowed from entry.lit) later to h.2 ∙ length-narrowed from entry.lit

  pub Leads-filled : (from : List IntSet) (entries : List Entry) (to : List IntSet) → Leads known from entries to → NoneEmpty from → NoneEmpty to
  Leads-filled from [] to h filled = let P : List IntSet → Type 0 = λ s. NoneEmpty s in subst P h filled
  Leads-filled from (entry ∷ later) to h filled =
      Leads-filled (narrowed from entry.lit) later to h.2 (NoneEmpty-narrowed from entry.lit (reason-possible known from entry.lit entry.reason h.1) filled)

  pub Leads-slack : (from : List IntSet) (entries : List Entry) (to : List IntSet) → Leads known from entries to → slack to ≤ slack from
  Leads-slack from [] to h = let e = ap slack h in omega arith
  Leads-slack from (entry ∷ later) to h =
      let one = Leads-slack (narrowed from entry.lit) later to h.2 in
      let first = slack-narrowed_le from entry.lit in
      omega arith

  certain_at : (count : ℕ) (from to : List IntSet) (lit : Lit) (reason : Reason) (later : List Open) → IsVariable count lit.var → IsTrueAtEach to lit → AllCertain count to later → AllCertain count to (open_at from lit reason later)
  certain_at count from to lit Decision later var certain rest = (var, certain, rest)
  certain_at count from to lit (Implied antecedent) later var certain rest = rest

  -- each decision is true on the last sets
  pub Leads-certain : (count : ℕ) (from : List IntSet) (entries : List Entry) (to : List IntSet) → length from ≡ count → Leads known from entries to → AllCertain count to (opens from entries)
  Leads-certain count from [] to e h = tt
  Leads-certain count from (entry ∷ later) to e h =
      let var : IsVariable (length from) entry.lit.var = h.0 in
      let there : IsVariable count entry.lit.var = (omega arith, omega arith) in
      certain_at count from to entry.lit entry.reason (opens (narrowed from entry.lit) later) there
      (IsCertain-within to (narrowed from entry.lit) entry.lit (Leads-within (narrowed from entry.lit) later to h.2) (IsCertain-narrowed from entry.lit var))
      (Leads-certain count (narrowed from entry.lit) later to (length-narrowed from entry.lit ∙ e) h.2)

  -- the sets where an entry was made
  pub Leads-at : (from : List IntSet) (before : List Entry) (entry : Entry) (later : List Entry) (here to : List IntSet) → Leads known from before here → Leads known from (before ++ entry ∷ later) to → IsVariable (length here) entry.lit.var × IsReason known here entry.lit entry.reason
  Leads-at from [] entry later here to h all =
      let P : List IntSet → Type 0 = λ s. IsVariable (length s) entry.lit.var × IsReason known s entry.lit entry.reason in
      subst P h (all.0, all.1)
  Leads-at from (first ∷ before) entry later here to h all = Leads-at (narrowed from first.lit) before entry later here to h.2 all.2

-- ---- the decisions

open_at-append : (from : List IntSet) (lit : Lit) (reason : Reason) (xs ys : List Open) → open_at from lit reason (xs ++ ys) ≡ open_at from lit reason xs ++ ys
open_at-append from lit Decision xs ys = refl
open_at-append from lit (Implied antecedent) xs ys = refl

-- a decision among the entries
pub opens-parts : (known : Known) (from : List IntSet) (before : List Entry) (here : List IntSet) (lit : Lit) (level : ℕ) (later : List Entry) → Leads known from before here → opens from (before ++ record { lit = lit; reason = Decision; level = level } ∷ later) ≡ opens from before ++ record { sets = here; decision = lit } ∷ opens (narrowed here lit) later
opens-parts known from [] here lit level later h = ap (λ (s : List IntSet). record { sets = s; decision = lit } ∷ opens (narrowed s lit) later) h
opens-parts known from (entry ∷ before) here lit level later h =
    ap (open_at from entry.lit entry.reason) (opens-parts known (narrowed from entry.lit) before here lit level later h.2)
    ∙ open_at-append from entry.lit entry.reason (opens (narrowed from entry.lit) before) (record { sets = here; decision = lit } ∷ opens (narrowed here lit) later)

-- ---- one level back

-- what stood where the last decision was taken
pub record IsLast (known : Known) (trail : Levels) (k : ℕ) : Type 0 where
  pub stood : Standing
  pub lit : Lit
  pub sets_is : (returned k trail).sets ≡ stood.sets
  pub entries_is : (returned k trail).entries ≡ stood.entries
  pub declared_is : (returned k trail).declared ≡ trail.declared
  pub saved_is : length (returned k trail).saved ≡ k
  pub taken_is : opens trail.declared trail.entries ≡ opens trail.declared stood.entries ++ record { sets = stood.sets; decision = lit } ∷ []
  pub leads : Leads known trail.declared stood.entries stood.sets
  pub var : IsVariable (length stood.sets) lit.var
  pub either : IsOpen stood.sets lit

pub last_level : (known : Known) (trail : Levels) (k : ℕ) → IsReasoned known trail → length trail.saved ≡ k + 1 → IsLast known trail k
last_level known trail k h e =
    let below : k < length trail.saved = omega arith in
    let at = h.standing k below in
    let back : returned k trail ≡ restored k at.stood trail =
    returned-below k trail below ∙ ap (λ (s : Standing). restored k s trail) (get_or_from_slice_get trail.saved k at.stood (standing trail) at.here) in
    let parts = ap (λ (es : List Entry). opens trail.declared es) at.parts ∙ opens-parts known trail.declared at.stood.entries at.stood.sets at.lit at.level at.later at.leads in
    let L : List Entry → Type 0 = λ es. Leads known trail.declared es trail.sets in
    let made = Leads-at known trail.declared at.stood.entries (record { lit = at.lit; reason = Decision; level = at.level }) at.later at.stood.sets trail.sets at.leads (subst L at.parts h.leads) in
    let count = ap length parts ∙ length-append (opens trail.declared at.stood.entries) (record { sets = at.stood.sets; decision = at.lit } ∷ opens (narrowed at.stood.sets at.lit) at.later) in
    let one = h.one_each in
    let two = at.below in
    let none : opens (narrowed at.stood.sets at.lit) at.later ≡ [] = nil_from_length (opens (narrowed at.stood.sets at.lit) at.later) (omega arith) in
    record {
      stood = at.stood;
      lit = at.lit;
      sets_is = ap (λ (t : Levels). t.sets) back;
      entries_is = ap (λ (t : Levels). t.entries) back;
      declared_is = ap (λ (t : Levels). t.declared) back;
      saved_is = ap (λ (t : Levels). length t.saved) back ∙ length-take-le k trail.saved (omega arith);
      taken_is = parts ∙ ap (λ (os : List Open). opens trail.declared at.stood.entries ++ record { sets = at.stood.sets; decision = at.lit } ∷ os) none;
      leads = at.leads;
      var = made.0;
      either = made.1;
    }

-- ---- the learned clause

negations-push : (taken : List Open) (at : Open) → negations (taken ++ at ∷ []) ≡ negations taken ++ negated at.decision ∷ []
negations-push taken at = map-append (λ (o : Open). negated o.decision) taken (at ∷ [])

none_more : (p : Lit → Bool) (x : Lit) (xs : List Lit) → p x ≡ false → filter p xs ≡ [] → filter p (x ∷ xs) ≡ []
none_more p x xs e h = ap (λ (b : Bool). cond b (x ∷ filter p xs) (filter p xs)) e ∙ h

negations-none : (count : ℕ) (sets : List IntSet) (taken : List Open) → AllCertain count sets taken → possible_in sets (negations taken) ≡ []
negations-none count sets [] h = refl
negations-none count sets (at ∷ taken) h =
    none_more (λ (l : Lit). is_possible (set_of sets l.var) l) (negated at.decision) (negations taken) (impossible-negated sets at.decision h.1) (negations-none count sets taken h.2)

-- one level back it has one possible literal, the negated decision of that level
pub negations-unit : (count : ℕ) (sets : List IntSet) (taken : List Open) (at : Open) → AllCertain count sets taken → is_possible (set_of sets at.decision.var) (negated at.decision) ≡ true → possible_in sets (negations (taken ++ at ∷ [])) ≡ negated at.decision ∷ []
negations-unit count sets taken at h possible =
    ap (possible_in sets) (negations-push taken at)
    ∙ filter-append (λ (l : Lit). is_possible (set_of sets l.var) l) (negations taken) (negated at.decision ∷ [])
    ∙ ap (λ (ls : List Lit). ls ++ possible_in sets (negated at.decision ∷ [])) (negations-none count sets taken h)
    ∙ ap (λ (b : Bool). cond b (negated at.decision ∷ []) []) possible
