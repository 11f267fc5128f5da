-- Watchers that are on no clause leave the lists.
use Rattle.std.proofs.Common.{◌≡◌, ℕ, ◌<◌, List, length, get_or, refl, ap, ◌∙◌, subst, sym, inl}
use Rattle.fzn_clauses.specs.declared.clauses.Clauses.{Clauses}
use Rattle.fzn_clauses.specs.declared.lists.Watcher.{Watcher}
use Rattle.fzn_clauses.specs.Held.{held_in}
use Rattle.fzn_clauses.specs.Kept.{KeepsWatching, Sweeps}
use Rattle.fzn_clauses.specs.Lists.{list_at, no_watcher, IsTakenOut}
use Rattle.fzn_clauses.specs.Watched.{Watched, watched_at}
use Rattle.fzn_clauses.specs.Watching.{held_by, IsAmong, IsOn}
use Rattle.fzn_clauses.proofs.HoldLemmas.{KeepsWatching-stands}
use Rattle.fzn_clauses.proofs.ListedLemmas.{IsTidy-taken_out}

pub Sweeps-none : (clauses : Clauses) → Sweeps clauses clauses
Sweeps-none clauses = record { arena = refl; pending = refl; again = refl; early = refl; tidy = λ tidy. tidy }

pub Sweeps-join : (one two three : Clauses) → Sweeps one two → Sweeps two three → Sweeps one three
Sweeps-join one two three first second = record {
  arena = second.arena ∙ first.arena;
  pending = second.pending ∙ first.pending;
  again = second.again ∙ first.again;
  early = second.early ∙ first.early;
  tidy = λ tidy. second.tidy (first.tidy tidy);
}

pub Sweeps-taken_out : (old : Clauses) (lists : List (List Watcher)) (key j : ℕ) (w : Watcher) → j < length (list_at old.lists key) → get_or (list_at old.lists key) j no_watcher ≡ w → (IsOn old.arena w key → ⊥) → IsTakenOut key j old.lists lists → Sweeps old (record old { lists = lists })
Sweeps-taken_out old lists key j w within at off taken = record {
  arena = refl;
  pending = refl;
  again = refl;
  early = refl;
  tidy = IsTidy-taken_out old.arena old.lists lists key j w within at off taken;
}

pub held-Sweeps : (old new : Clauses) → Sweeps old new → held_by new ≡ held_by old
held-Sweeps old new sweeps = ap held_in sweeps.arena

pub KeepsWatching-Sweeps : (old new : Clauses) → Sweeps old new → KeepsWatching old new
KeepsWatching-Sweeps old new sweeps =
    KeepsWatching-stands old new sweeps.again sweeps.early sweeps.tidy (λ k among. subst (λ p. IsAmong k p.items) (sym sweeps.pending) among)
    (λ k within live. inl (subst (λ (a : List Watched). k < length a) sweeps.arena within, ap (λ (a : List Watched). watched_at a k) sweeps.arena))
