-- The sets and the decisions of a reasoned trail.
use Rattle.std.proofs.Common.{◌≡◌, ℕ, ◌<◌, ◌≤◌, List, ◌∷◌, ◌++◌, length, take, Some, length-append, sym, ap, subst, ◌∙◌, arith, All}
use Rattle.std.specs.List.{slice_get}
use Rattle.std.proofs.lemmas.List.{get_or_append_left, get_or_at, get_or-take, length-take-le, take_at}
use Rattle.std.proofs.lemmas.Option.{slice_get-get_or, slice_get_within, get_or_from_slice_get}
use Rattle.fzn_domain.specs.IntSet.{IntSet}
use Rattle.fzn_domain.specs.Narrow.{narrowed}
use Rattle.fzn_trail.specs.declared.trail.Reason.TheVariants.{Decision}
use Rattle.fzn_trail.specs.Levels.{Levels, Standing, standing, level_of, restored, returned, IsNarrower, NoneEmpty}
use Rattle.fzn_trail.proofs.CallerLemmas.{returned-below}
use Rattle.fzn_learned.specs.Reasoned.{Known, Open, opens, IsLevelStanding, IsReasoned}
use Rattle.fzn_learned.proofs.EntryLemmas.{Leads-after, Leads-length, Leads-narrower, Leads-filled, IsTaken, opens-append, opens-taken}

-- ---- what a reasoned trail says of its sets

module _ (known : Known) (trail : Levels) (reasoned : IsReasoned known trail) where
  pub length-reasoned : length trail.sets ≡ length trail.declared
  length-reasoned = Leads-length known trail.entries trail.declared trail.sets reasoned.leads

  pub narrower-reasoned : IsNarrower trail.sets trail.declared
  narrower-reasoned = Leads-narrower known trail.entries trail.declared trail.sets reasoned.leads

  pub filled-reasoned : NoneEmpty trail.declared → NoneEmpty trail.sets
  filled-reasoned = Leads-filled known trail.entries trail.declared trail.sets reasoned.leads

  -- one decision for each level
  pub length-opens : length (opens trail.declared trail.entries) ≡ level_of trail
  length-opens = reasoned.one_each

  -- each was open where it was taken, on sets within the declared ones
  pub taken-reasoned : All (IsTaken trail.declared) (opens trail.declared trail.entries)
  taken-reasoned = opens-taken known trail.entries trail.declared trail.sets reasoned.leads

-- ---- places of lists

pub slice_get_front : {X : Type 0} (xs ys : List X) (k : ℕ) (x : X) → slice_get xs k ≡ Some x → slice_get (xs ++ ys) k ≡ Some x
slice_get_front xs ys k x h =
    let below : k < length xs = slice_get_within xs k x h in
    slice_get-get_or (xs ++ ys) k x (omega (arith, length-append xs ys))
    ∙ ap (λ y. Some y) (get_or_append_left xs ys x k below ∙ get_or_from_slice_get xs k x x h)

pub slice_get_at : {X : Type 0} (xs ys : List X) (x : X) (k : ℕ) → length xs ≡ k → slice_get (xs ++ x ∷ ys) k ≡ Some x
slice_get_at xs ys x k e =
    slice_get-get_or (xs ++ x ∷ ys) k x (omega (arith, length-append xs (x ∷ ys)))
    ∙ ap (λ y. Some y) (get_or_at xs x ys x k e)

pub slice_get_take : {X : Type 0} (xs : List X) (n k : ℕ) (x : X) → k < n → n ≤ length xs → slice_get xs k ≡ Some x → slice_get (take n xs) k ≡ Some x
slice_get_take xs n k x below fits h =
    slice_get-get_or (take n xs) k x (omega (arith, length-take-le n xs fits))
    ∙ ap (λ y. Some y) (get_or-take n xs k x below ∙ get_or_from_slice_get xs k x x h)

-- ---- the decisions of a level

module _ (known : Known) (trail : Levels) (reasoned : IsReasoned known trail) (k : ℕ) (stands : IsLevelStanding known trail k) where
  pub opens-parts : opens trail.declared trail.entries ≡ opens trail.declared stands.stood.entries ++ record { sets = stands.stood.sets; decision = stands.lit } ∷ opens (narrowed stands.stood.sets stands.lit) stands.later
  opens-parts =
      ap (opens trail.declared) stands.parts
      ∙ opens-append stands.stood.entries (record { lit = stands.lit; reason = Decision; level = stands.level } ∷ stands.later) trail.declared
      ∙ ap (λ (s : List IntSet). opens trail.declared stands.stood.entries ++ record { sets = s; decision = stands.lit } ∷ opens (narrowed s stands.lit) stands.later)
      (Leads-after known stands.stood.entries trail.declared stands.stood.sets stands.leads)

  pub opens-at_standing : slice_get (opens trail.declared trail.entries) k ≡ Some (record { sets = stands.stood.sets; decision = stands.lit })
  opens-at_standing =
      ap (λ (taken : List Open). slice_get taken k) opens-parts
      ∙ slice_get_at (opens trail.declared stands.stood.entries) (opens (narrowed stands.stood.sets stands.lit) stands.later) (record { sets = stands.stood.sets; decision = stands.lit }) k stands.below

  pub opens-below : opens trail.declared stands.stood.entries ≡ take k (opens trail.declared trail.entries)
  opens-below =
      sym (take_at (opens trail.declared stands.stood.entries) (record { sets = stands.stood.sets; decision = stands.lit } ∷ opens (narrowed stands.stood.sets stands.lit) stands.later) k stands.below)
      ∙ ap (λ (taken : List Open). take k taken) (sym opens-parts)

  pub returned-standing : k < level_of trail → returned k trail ≡ restored k stands.stood trail
  returned-standing below =
      returned-below k trail below
      ∙ ap (λ (s : Standing). restored k s trail) (get_or_from_slice_get trail.saved k stands.stood (standing trail) stands.here)

-- the decision of a level, with the sets to which the way back to the level below leads
pub record IsDecisionAt (trail : Levels) (k : ℕ) : Type 0 where
  pub at : Open
  pub is : slice_get (opens trail.declared trail.entries) k ≡ Some at
  pub sets : (returned k trail).sets ≡ at.sets
  pub taken : IsTaken trail.declared at

pub decision_at : (known : Known) (trail : Levels) (k : ℕ) → IsReasoned known trail → k < level_of trail → IsDecisionAt trail k
decision_at known trail k reasoned below =
    let stands = reasoned.standing k below in
    let here : Open = record { sets = stands.stood.sets; decision = stands.lit } in
    let is = opens-at_standing known trail reasoned k stands in
    record {
      at = here;
      is = is;
      sets = ap (λ (t : Levels). t.sets) (returned-standing known trail reasoned k stands below);
      taken = subst (λ (o : Open). IsTaken trail.declared o) (get_or_from_slice_get (opens trail.declared trail.entries) k here here is)
          (taken-reasoned known trail reasoned k here (omega (arith, reasoned.one_each)));
    }
