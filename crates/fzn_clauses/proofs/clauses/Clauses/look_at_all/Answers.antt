-- Every number is put among those to be looked at.
use Rattle.std.proofs.Common.{◌≡◌, ℕ, ◌+◌, ◌<◌, ◌≤◌, [], ◌∷◌, ◌++◌, sym, subst, inl, inr, arith}
use Rattle.std.proofs.lemmas.Bool.{cases_lt}
use Rattle.fzn_clauses.specs.Watching.{IsAmong}
use Rattle.fzn_clauses.proofs.HoldLemmas.{KeepsWatching-more}
use Rattle.fzn_clauses.proofs.ListedLemmas.{IsAmong-more, IsAmong-last}
use Rattle.fzn_clauses.proofs.clauses.Clauses.look_at_all.Goals as goal

pub returns-in_err-push-clause-watching : goal.returns-in_err-push-clause-watching
returns-in_err-push-clause-watching c =
    let so_far = c.loop-k.invariant in
    KeepsWatching-more c.args.self.now (record c.loop-k.self { pending = c.push.new.self }) so_far.arena so_far.lists so_far.again so_far.early
    (λ j among. subst (IsAmong j) (sym c.in_err-push.ensures.items) (so_far.more j among))

pub loop-k-preserved : goal.loop-k-preserved
loop-k-preserved c =
    let so_far = c.loop-k.invariant in
    let before = c.loop-k.self.pending.items in
    let k = c.loop-k.k in
    record {
      arena = so_far.arena;
      lists = so_far.lists;
      again = so_far.again;
      early = so_far.early;
      more = λ j among. subst (IsAmong j) (sym c.in_ok-push.ensures.items) (IsAmong-more before k j (so_far.more j among));
      all = λ j below. subst (IsAmong j) (sym c.in_ok-push.ensures.items) (elim (cases_lt j k) [
        | inl lt ↦ IsAmong-more before k j (so_far.all j lt)
        | inr ge ↦ subst (λ (n : ℕ). IsAmong n (before ++ k ∷ [])) (newest j k ge below) (IsAmong-last before k)
      ]);
    }
  where
    newest : (j k : ℕ) → k ≤ j → j < k + 1 → k ≡ j
    newest j k ge below = omega arith
