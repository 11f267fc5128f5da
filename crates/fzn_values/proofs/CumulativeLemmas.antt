-- The load is greatest at the start of some task, so the capacity is kept at every time where it is
-- kept at every start.
use Rattle.std.proofs.Common.{◌≡◌, ℕ, zero, suc, ◌+◌, ◌<◌, List, [], ◌∷◌, ◌++◌, Bool, true, false, cond, ◌&&◌, length, get_or, take, refl, ap, sym, ◌∙◌, ◌⊎◌, inl, inr, ℤ, pos, ◌+ℤ◌, ◌≤ℤ◌, int_lt, add-one, arith}
use Rattle.std.specs.Prelude.{int_le}
use Rattle.std.specs.List.{All, Contains, AllByRecursion}
use Rattle.std.proofs.lemmas.Int.{ints}
use Rattle.std.proofs.lemmas.List.Elements.{All-contains, recursion_from_All}
use Rattle.fzn_values.specs.Cumulative.{Task, tasks, runs_at, use_at, load_at, IsCumulative}

-- ---- the latest start of a task that runs

abbrev NothingRuns : ℤ → List Task → Type 0
NothingRuns t chosen = AllByRecursion (λ task. runs_at t task ≡ false) chosen

-- all tasks that run at t start at s or before
abbrev StartedBy : ℤ → ℤ → List Task → Type 0
StartedBy t s chosen = AllByRecursion (λ task. runs_at t task ≡ true → task.start ≤ℤ s) chosen

none_started : (t s : ℤ) (chosen : List Task) → NothingRuns t chosen → StartedBy t s chosen
none_started t s [] h = tt
none_started t s (x ∷ xs) h = ((λ e. absurd (let f : runs_at t x ≡ false = h.0 in cc)), none_started t s xs h.1)

started_later : (t s u : ℤ) (chosen : List Task) → s ≤ℤ u → StartedBy t s chosen → StartedBy t u chosen
started_later t s u [] le h = tt
started_later t s u (x ∷ xs) le h = ((λ e. up_to x.start s u (h.0 e) le), started_later t s u xs le h.1)
  where
    up_to : (a b c : ℤ) → a ≤ℤ b → b ≤ℤ c → a ≤ℤ c
    up_to a b c p q = omega (arith, ints)

≤ℤ_same : (a : ℤ) → a ≤ℤ a
≤ℤ_same a = omega (arith, ints)

either_below : (a b : ℤ) → (a ≤ℤ b) ⊎ (b ≤ℤ a)
either_below a b = grind (arith, ints)

begun : (t s d : ℤ) → (int_le s t && int_lt t (s +ℤ d)) ≡ true → s ≤ℤ t
begun t s d h = grind (arith, ints)

later_in : (x : ℤ) (xs : List ℤ) (s : ℤ) → Contains xs s → Contains (x ∷ xs) s
later_in x xs s h = (suc h.0, omega (arith, h.1), h.2)

abbrev HasLatest : ℤ → List ℤ → List Task → Type 0
HasLatest t starts chosen = (s : ℤ) × Contains starts s × (s ≤ℤ t) × StartedBy t s chosen

one_more : (t x d r : ℤ) (xs : List ℤ) (rest : List Task) → (b : Bool) → runs_at t (record { start = x; duration = d; uses = r }) ≡ b → NothingRuns t rest ⊎ HasLatest t xs rest → NothingRuns t (record { start = x; duration = d; uses = r } ∷ rest) ⊎ HasLatest t (x ∷ xs) (record { start = x; duration = d; uses = r } ∷ rest)
one_more t x d r xs rest false e (inl none) = inl (e, none)
one_more t x d r xs rest false e (inr (s, c, le, all)) = inr (s, later_in x xs s c, le, ((λ f. absurd (let g : runs_at t (record { start = x; duration = d; uses = r }) ≡ false = e in cc)), all))
one_more t x d r xs rest true e (inl none) = inr (x, (0, omega arith, refl), begun t x d e, ((λ f. ≤ℤ_same x), none_started t x rest none))
one_more t x d r xs rest true e (inr (s, c, le, all)) =
    elim (either_below x s) [
      | inl before ↦ inr (s, later_in x xs s c, le, ((λ f. before), all))
      | inr after ↦ inr (x, (0, omega arith, refl), begun t x d e, ((λ f. ≤ℤ_same x), started_later t s x rest after all))
    ]

latest : (t : ℤ) (ss ds rs : List ℤ) → NothingRuns t (tasks ss ds rs) ⊎ HasLatest t ss (tasks ss ds rs)
latest t [] ds rs = inl tt
latest t (s ∷ ss) [] rs = inl tt
latest t (s ∷ ss) (d ∷ ds) [] = inl tt
latest t (s ∷ ss) (d ∷ ds) (r ∷ rs) = one_more t s d r ss (tasks ss ds rs) (runs_at t (record { start = s; duration = d; uses = r })) refl (latest t ss ds rs)

-- ---- loads

load_none : (t : ℤ) (chosen : List Task) → NothingRuns t chosen → load_at t chosen ≡ pos 0
load_none t [] h = refl
load_none t (x ∷ xs) h = rw (h.0, load_none t xs h.1)

use_still : (t s start d r : ℤ) → s ≤ℤ t → pos 0 ≤ℤ r → ((int_le start t && int_lt t (start +ℤ d)) ≡ true → start ≤ℤ s) → cond (int_le start t && int_lt t (start +ℤ d)) r (pos 0) ≤ℤ cond (int_le start s && int_lt s (start +ℤ d)) r (pos 0)
use_still t s start d r le low h = grind (arith, ints)

abbrev HaveUses : List Task → Type 0
HaveUses chosen = AllByRecursion (λ task. pos 0 ≤ℤ task.uses) chosen

-- what runs at t runs at the latest start before t too
load_still : (t s : ℤ) (chosen : List Task) → s ≤ℤ t → HaveUses chosen → StartedBy t s chosen → load_at t chosen ≤ℤ load_at s chosen
load_still t s [] le low h = ≤ℤ_same (pos 0)
load_still t s (x ∷ xs) le low h =
    plus_mono (use_at t x) (use_at s x) (load_at t xs) (load_at s xs) (use_still t s x.start x.duration x.uses le low.0 h.0) (load_still t s xs le low.1 h.1)
  where
    plus_mono : (a b c d : ℤ) → a ≤ℤ b → c ≤ℤ d → (a +ℤ c) ≤ℤ (b +ℤ d)
    plus_mono a b c d p q = omega (arith, ints)

uses_of : (ss ds rs : List ℤ) → AllByRecursion (λ r. pos 0 ≤ℤ r) rs → HaveUses (tasks ss ds rs)
uses_of [] ds rs h = tt
uses_of (s ∷ ss) [] rs h = tt
uses_of (s ∷ ss) (d ∷ ds) [] h = tt
uses_of (s ∷ ss) (d ∷ ds) (r ∷ rs) h = (h.0, uses_of ss ds rs h.1)

-- every time reduces to the starts
pub within_from_starts : (ss ds rs : List ℤ) (b : ℤ) → All (λ r. pos 0 ≤ℤ r) rs → pos 0 ≤ℤ b → All (λ s. load_at s (tasks ss ds rs) ≤ℤ b) ss → (t : ℤ) → load_at t (tasks ss ds rs) ≤ℤ b
within_from_starts ss ds rs b low cap at_starts t = by_latest (latest t ss ds rs)
  where
    up_to : (a b c : ℤ) → a ≤ℤ b → b ≤ℤ c → a ≤ℤ c
    up_to a b c p q = omega (arith, ints)

    by_latest : NothingRuns t (tasks ss ds rs) ⊎ HasLatest t ss (tasks ss ds rs) → load_at t (tasks ss ds rs) ≤ℤ b
    by_latest (inl none) = rw (load_none t (tasks ss ds rs) none) cap
    by_latest (inr (s, c, le, all)) =
        up_to (load_at t (tasks ss ds rs)) (load_at s (tasks ss ds rs)) b
        (load_still t s (tasks ss ds rs) le (uses_of ss ds rs (recursion_from_All (λ r. pos 0 ≤ℤ r) rs low)) all)
        (All-contains (λ x. load_at x (tasks ss ds rs) ≤ℤ b) ss s at_starts c)

pub cumulative_from : (ss ds rs : List ℤ) (b : ℤ) → All (λ d. pos 0 ≤ℤ d) ds → All (λ r. pos 0 ≤ℤ r) rs → pos 0 ≤ℤ b → All (λ s. load_at s (tasks ss ds rs) ≤ℤ b) ss → IsCumulative ss ds rs b
cumulative_from ss ds rs b durations uses cap at_starts = record {
  durations_not_negative = durations;
  uses_not_negative = uses;
  capacity_not_negative = cap;
  within = within_from_starts ss ds rs b uses cap at_starts;
}

-- ---- the step of the loop that sums a load

plus_assoc : (a b c : ℤ) → a +ℤ (b +ℤ c) ≡ (a +ℤ b) +ℤ c
plus_assoc a b c = omega (arith, ints)

zero_plus : (a : ℤ) → pos 0 +ℤ a ≡ a
zero_plus a = omega (arith, ints)

plus_zero : (a : ℤ) → a +ℤ pos 0 ≡ a
plus_zero a = omega (arith, ints)

load_at-push : (t : ℤ) (chosen : List Task) (x : Task) → load_at t (chosen ++ x ∷ []) ≡ load_at t chosen +ℤ use_at t x
load_at-push t [] x = plus_zero (use_at t x) ∙ sym (zero_plus (use_at t x))
load_at-push t (y ∷ ys) x = ap (λ s. use_at t y +ℤ s) (load_at-push t ys x) ∙ plus_assoc (use_at t y) (load_at t ys) (use_at t x)

tasks-more : (ss ds rs : List ℤ) (i : ℕ) (d : ℤ) → i < length ss → length ss ≡ length ds → length ss ≡ length rs → tasks (take (suc i) ss) (take (suc i) ds) (take (suc i) rs) ≡ tasks (take i ss) (take i ds) (take i rs) ++ record { start = get_or ss i d; duration = get_or ds i d; uses = get_or rs i d } ∷ []
tasks-more [] ds rs i d lt e f = absurd (omega arith)
tasks-more (s ∷ ss) [] rs i d lt e f = absurd (omega arith)
tasks-more (s ∷ ss) (x ∷ ds) [] i d lt e f = absurd (omega arith)
tasks-more (s ∷ ss) (x ∷ ds) (r ∷ rs) zero d lt e f = refl
tasks-more (s ∷ ss) (x ∷ ds) (r ∷ rs) (suc i) d lt e f = ap (λ ts. record { start = s; duration = x; uses = r } ∷ ts) (tasks-more ss ds rs i d (omega arith) (omega arith) (omega arith))

pub load_at-more : (t : ℤ) (ss ds rs : List ℤ) (i : ℕ) (d : ℤ) → i < length ss → length ss ≡ length ds → length ss ≡ length rs → load_at t (tasks (take (i + 1) ss) (take (i + 1) ds) (take (i + 1) rs)) ≡ load_at t (tasks (take i ss) (take i ds) (take i rs)) +ℤ use_at t (record { start = get_or ss i d; duration = get_or ds i d; uses = get_or rs i d })
load_at-more t ss ds rs i d lt e f =
    rw add-one (ap (load_at t) (tasks-more ss ds rs i d lt e f) ∙ load_at-push t (tasks (take i ss) (take i ds) (take i rs)) (record { start = get_or ss i d; duration = get_or ds i d; uses = get_or rs i d }))
