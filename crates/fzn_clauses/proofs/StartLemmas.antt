-- From which entry on a call visits, and what it begins with.
use Rattle.std.proofs.Common.{◌≡◌, ◌⊎◌, ℕ, ◌<◌, ◌≤◌, true, false, cond, List, length, min, get_or, nat_lt, refl, sym, ap, subst, inl, inr, arith, All}
use Rattle.std.proofs.lemmas.Bool.{cases_lt, lt-ltb}
use Rattle.fzn_domain.specs.IntSet.{IntSet}
use Rattle.fzn_domain.specs.Narrow.{IsVariable}
use Rattle.fzn_trail.specs.declared.trail.Entry.{Entry}
use Rattle.fzn_trail.specs.Levels.{Levels, Standing, standing}
use Rattle.fzn_clauses.specs.declared.clauses.Again.{Again}
use Rattle.fzn_clauses.specs.declared.clauses.Clauses.{Clauses}
use Rattle.fzn_clauses.specs.declared.clauses.Early.{Early}
use Rattle.fzn_clauses.specs.Guard.{possible_on}
use Rattle.fzn_clauses.specs.Rooted.{AreVisited, sets_at}
use Rattle.fzn_clauses.specs.Watched.{Watched, watched_at, first_of, second_of}
use Rattle.fzn_clauses.specs.Watching.{IsAmong, Guards, IsAgain, IsRising, IsTidy, IsWatchingAt, IsWatchingFrom, IsWatching, IsSavedAt, IsRewound, start_of}
use Rattle.fzn_clauses.proofs.GuardLemmas.{IsGuarded-step, possible_before}
use Rattle.fzn_clauses.proofs.TrailLemmas.{IsNarrower-sets_at, IsRooted-moved, variables_saved}

-- ---- numbers

module _ (early : Early) (count : ℕ) where
  pub start_of-known : count ≤ early.until → start_of early count ≡ min count early.from
  start_of-known h = let no : nat_lt early.until count ≡ false = grind (arith, h) in ap (λ b. cond b count (min count early.from)) no

  pub start_of-past : early.until < count → start_of early count ≡ count
  start_of-past h = ap (λ b. cond b count (min count early.from)) (lt-ltb early.until count h)

  pub start_of-least : start_of early count ≤ count
  start_of-least = elim (cases_lt early.until count) [
    | inl lt ↦ omega (arith, start_of-past lt)
    | inr ge ↦ omega (arith, start_of-known ge)
  ]

-- where no level was pushed so
pub start_of-none : (early : Early) (count : ℕ) → early.until ≡ 0 → start_of early count ≡ count
start_of-none early count none = elim (cases_lt early.until count) [
  | inl lt ↦ start_of-past early count lt
  | inr ge ↦ omega (arith, start_of-known early count ge, ge, none)
]

-- as much was visited on a way back, or less
start_of-back : (early : Early) (mark count : ℕ) → count ≤ mark ⊎ ((count ≤ early.until) × (early.from ≤ mark)) → start_of early (min mark count) ≤ start_of early count
start_of-back early mark count (inl all) = let same : min mark count ≡ count = omega (arith, all) in omega (arith, ap (start_of early) same)
start_of-back early mark count (inr known) =
    omega (arith, known.0, start_of-known early (min mark count) (omega (arith, known.0)), start_of-known early count known.0)

-- where the mark moves back, and no level is known any more
start_of-moved : (early later : Early) (mark count : ℕ) → later.until ≡ 0 → mark ≤ early.until → start_of later (min (min mark early.from) count) ≤ start_of early (min mark count)
start_of-moved early later mark count none known =
    omega (arith, start_of-none later (min (min mark early.from) count) none, start_of-known early (min mark count) (omega (arith, known)))

-- levels are noted
start_of-noted : (early later : Early) (mark entries count : ℕ) → later.until ≡ entries → later.from ≡ min early.from mark → count ≤ entries → start_of later count ≤ start_of early (min mark count)
start_of-noted early later mark entries count until from within =
    let here = start_of-known later count (omega (arith, until, within)) in
    elim (cases_lt early.until (min mark count)) [
      | inl lt ↦ omega (arith, here, from, start_of-past early (min mark count) lt)
      | inr ge ↦ omega (arith, here, from, start_of-known early (min mark count) ge)
    ]

-- ---- what is asked of clauses where less was visited

pub IsWatchingAt-same : (old new : Clauses) → new.arena ≡ old.arena → new.pending.items ≡ old.pending.items → new.again.items ≡ old.again.items → (seen now : List IntSet) (entries : ℕ) → IsWatchingAt old seen now entries → IsWatchingAt new seen now entries
IsWatchingAt-same old new arena pending again seen now entries watching =
    subst (λ (a : List Watched). (k : ℕ) → k < length a → (watched_at a k).live ≡ true → IsAmong k new.pending.items ⊎ (Guards seen now (watched_at a k) ⊎ IsAgain new.again.items k entries)) (sym arena)
    (subst (λ (xs : List ℕ). (k : ℕ) → k < length old.arena → (watched_at old.arena k).live ≡ true → IsAmong k xs ⊎ (Guards seen now (watched_at old.arena k) ⊎ IsAgain new.again.items k entries)) (sym pending)
    (subst (λ (xs : List Again). (k : ℕ) → k < length old.arena → (watched_at old.arena k).live ≡ true → IsAmong k old.pending.items ⊎ (Guards seen now (watched_at old.arena k) ⊎ IsAgain xs k entries)) (sym again) watching))

module _ (old new : Clauses) (arena : new.arena ≡ old.arena) (pending : new.pending.items ≡ old.pending.items) (again : new.again.items ≡ old.again.items) (declared : List IntSet) (stood : Standing) (over : All (λ (entry : Entry). IsVariable (length declared) entry.lit.var) stood.entries) where
  earlier_at : (low high : ℕ) → low ≤ high → IsWatchingAt old (sets_at declared stood.entries high) stood.sets high → IsWatchingAt old (sets_at declared stood.entries low) stood.sets low
  earlier_at low high le watching k within live = to (watching k within live) where
    watched : Watched
    watched = watched_at old.arena k

    wider : (lit : _) → possible_on (sets_at declared stood.entries high) lit ≡ true → possible_on (sets_at declared stood.entries low) lit ≡ true
    wider lit = possible_before (sets_at declared stood.entries high) (sets_at declared stood.entries low) (IsNarrower-sets_at declared stood.entries low high le over) lit

    to : IsAmong k old.pending.items ⊎ (Guards (sets_at declared stood.entries high) stood.sets watched ⊎ IsAgain old.again.items k high) → IsAmong k old.pending.items ⊎ (Guards (sets_at declared stood.entries low) stood.sets watched ⊎ IsAgain old.again.items k low)
    to (inl among) = inl among
    to (inr (inl guards)) = inr (inl (record {
      listed = guards.listed;
      guarded =
          IsGuarded-step watched.clause watched.pair (possible_on (sets_at declared stood.entries high)) (possible_on (sets_at declared stood.entries low)) stood.sets
          (wider (first_of watched)) (wider (second_of watched)) guards.guarded;
    }))
    to (inr (inr (i, h, at, high_there))) = inr (inr (i, h, at, (λ d. let there = high_there d in omega (arith, le, there))))

  pub IsWatchingFrom-earlier : (high low : ℕ) → start_of new.early low ≤ start_of old.early high → IsWatchingFrom old declared stood high → IsWatchingFrom new declared stood low
  IsWatchingFrom-earlier high low le watching =
      IsWatchingAt-same old new arena pending again (sets_at declared stood.entries (start_of new.early low)) stood.sets (start_of new.early low)
      (earlier_at (start_of new.early low) (start_of old.early high) le watching)

  -- where all of so many were visited
  pub IsWatchingFrom-whole : (count : ℕ) → IsWatchingAt old (sets_at declared stood.entries count) stood.sets count → IsWatchingFrom new declared stood count
  IsWatchingFrom-whole count watching =
      IsWatchingAt-same old new arena pending again (sets_at declared stood.entries (start_of new.early count)) stood.sets (start_of new.early count)
      (earlier_at (start_of new.early count) count (start_of-least new.early count) watching)

-- ---- how a propagation begins

pub IsWatching-rewound : (clauses : Clauses) (trail : Levels) → IsRewound clauses trail → IsWatching clauses trail
IsWatching-rewound clauses trail rewound = record {
  rooted = rewound.rooted;
  tidy = rewound.tidy;
  rising = rewound.rising;
  present = IsWatchingFrom-whole clauses clauses refl refl refl trail.declared (standing trail) rewound.rooted.variables trail.mark rewound.present;
  saved = λ i d h.
      let stood = get_or trail.saved i d in
      let at = rewound.saved i d h in
      IsWatchingFrom-earlier clauses clauses refl refl refl trail.declared stood (variables_saved trail rewound.rooted i d h) (length stood.entries) (min trail.mark (length stood.entries))
      (start_of-back clauses.early trail.mark (length stood.entries) at.noted) at.watching;
}

module _ (old new : Clauses) (trail : Levels) (arena : new.arena ≡ old.arena) (lists : new.lists ≡ old.lists) (pending : new.pending.items ≡ old.pending.items) (again : new.again.items ≡ old.again.items) (watching : IsWatching old trail) where
  tidy_still : IsTidy new.arena new.lists
  tidy_still = subst (λ (a : List Watched). IsTidy a new.lists) (sym arena) (subst (IsTidy old.arena) (sym lists) watching.tidy)

  rising_still : IsRising new.again.items
  rising_still = subst IsRising (sym again) watching.rising

  -- the mark is moved back
  pub IsWatching-moved : new.early.until ≡ 0 → trail.mark ≤ old.early.until → IsWatching new (record trail { mark = min trail.mark old.early.from })
  IsWatching-moved none known = record {
    rooted = IsRooted-moved trail watching.rooted (min trail.mark old.early.from) (omega (arith, watching.rooted.mark_within));
    tidy = tidy_still;
    rising = rising_still;
    present =
        IsWatchingFrom-earlier old new arena pending again trail.declared (standing trail) watching.rooted.variables trail.mark (min trail.mark old.early.from)
        (omega (arith, start_of-none new.early (min trail.mark old.early.from) none, start_of-known old.early trail.mark known)) watching.present;
    saved = λ i d h.
        let stood = get_or trail.saved i d in
        IsWatchingFrom-earlier old new arena pending again trail.declared stood (variables_saved trail watching.rooted i d h)
        (min trail.mark (length stood.entries)) (min (min trail.mark old.early.from) (length stood.entries))
        (start_of-moved old.early new.early trail.mark (length stood.entries) none known) (watching.saved i d h);
  }

  -- levels are noted
  module _ (start : start_of old.early trail.mark ≡ trail.mark) where
    present_still : IsWatchingAt new (sets_at trail.declared trail.entries trail.mark) trail.sets trail.mark
    present_still =
        IsWatchingAt-same old new arena pending again (sets_at trail.declared trail.entries trail.mark) trail.sets trail.mark
        (subst (λ (n : ℕ). IsWatchingAt old (sets_at trail.declared trail.entries n) trail.sets n) start watching.present)

    pub IsRewound-noted : new.early.until ≡ length trail.entries → new.early.from ≡ min old.early.from trail.mark → IsRewound new trail
    IsRewound-noted until from = record {
      rooted = watching.rooted;
      tidy = tidy_still;
      rising = rising_still;
      present = present_still;
      saved = λ i d h.
          let stood = get_or trail.saved i d in
          let within = (watching.rooted.saved i d h).within in
          record {
            watching =
                IsWatchingFrom-earlier old new arena pending again trail.declared stood (variables_saved trail watching.rooted i d h) (min trail.mark (length stood.entries)) (length stood.entries)
                (start_of-noted old.early new.early trail.mark (length trail.entries) (length stood.entries) until from within) (watching.saved i d h);
            noted = inr (omega (arith, within, until), omega (arith, from));
          };
    }

    -- or there are none
    pub IsRewound-visited : new.early ≡ old.early → AreVisited trail → IsRewound new trail
    IsRewound-visited early visited = record {
      rooted = watching.rooted;
      tidy = tidy_still;
      rising = rising_still;
      present = present_still;
      saved = λ i d h.
          let stood = get_or trail.saved i d in
          let all = visited i d h in
          let same : min trail.mark (length stood.entries) ≡ length stood.entries = omega (arith, all) in
          record {
            watching =
                IsWatchingFrom-earlier old new arena pending again trail.declared stood (variables_saved trail watching.rooted i d h) (min trail.mark (length stood.entries)) (length stood.entries)
                (omega (arith, ap (λ (e : Early). start_of e (length stood.entries)) early, ap (start_of old.early) same)) (watching.saved i d h);
            noted = inl all;
          };
    }

-- ---- a saved level, as clauses change

pub IsSavedAt-map : (old new : Clauses) (declared : List IntSet) (mark later : ℕ) (stood : Standing) → new.early ≡ old.early → mark ≤ later → (IsWatchingFrom old declared stood (length stood.entries) → IsWatchingAt new (sets_at declared stood.entries (start_of old.early (length stood.entries))) stood.sets (start_of old.early (length stood.entries))) → IsSavedAt old declared mark stood → IsSavedAt new declared later stood
IsSavedAt-map old new declared mark later stood early le to at = record {
  watching =
      subst (λ (e : Early). IsWatchingAt new (sets_at declared stood.entries (start_of e (length stood.entries))) stood.sets (start_of e (length stood.entries))) (sym early)
      (to at.watching);
  noted =
      subst (λ (e : Early). length stood.entries ≤ later ⊎ ((length stood.entries ≤ e.until) × (e.from ≤ later))) (sym early)
      (elim at.noted [
        | inl all ↦ inl (omega (arith, all, le))
        | inr known ↦ inr (known.0, omega (arith, known.1, le))
      ]);
}

pub start_of-saved : (clauses : Clauses) (declared : List IntSet) (mark : ℕ) (stood : Standing) → IsSavedAt clauses declared mark stood → start_of clauses.early (length stood.entries) ≤ mark
start_of-saved clauses declared mark stood at = elim at.noted [
  | inl all ↦ omega (arith, all, start_of-least clauses.early (length stood.entries))
  | inr known ↦ omega (arith, known.1, start_of-known clauses.early (length stood.entries) known.0)
]

pub IsRewound-same : (old new : Clauses) → new.arena ≡ old.arena → new.lists ≡ old.lists → new.pending.items ≡ old.pending.items → new.again.items ≡ old.again.items → new.early ≡ old.early → (trail : Levels) → IsRewound old trail → IsRewound new trail
IsRewound-same old new arena lists pending again early trail rewound = record {
  rooted = rewound.rooted;
  tidy = subst (λ (a : List Watched). IsTidy a new.lists) (sym arena) (subst (IsTidy old.arena) (sym lists) rewound.tidy);
  rising = subst IsRising (sym again) rewound.rising;
  present = IsWatchingAt-same old new arena pending again (sets_at trail.declared trail.entries trail.mark) trail.sets trail.mark rewound.present;
  saved = λ i d h.
      let stood = get_or trail.saved i d in
      let start = start_of old.early (length stood.entries) in
      IsSavedAt-map old new trail.declared trail.mark trail.mark stood early (omega arith)
      (IsWatchingAt-same old new arena pending again (sets_at trail.declared stood.entries start) stood.sets start) (rewound.saved i d h);
}
