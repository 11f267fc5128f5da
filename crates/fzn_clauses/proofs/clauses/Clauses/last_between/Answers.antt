use Rattle.std.proofs.Common.{arith, rules, List, FitsSigned, w64, to_z-of_z, ◌≡◌, ◌-◌, ◌∙◌, ℕ, get_or, ap, subst, inl, inr}
use Rattle.fzn_clauses.specs.declared.lists.Watcher.{Watcher}
use Rattle.fzn_clauses.specs.Keys.{key_at, IsOutside}
use Rattle.fzn_clauses.specs.Kept.{IsSatisfiedAt}
use Rattle.fzn_clauses.specs.Lists.{list_at, no_watcher}
use Rattle.fzn_clauses.proofs.SparedLemmas.{AreOutside-more}
use Rattle.fzn_clauses.proofs.clauses.Clauses.last_between.Goals as goal

pub loop-j-preserved-then-not-is_among : goal.loop-j-preserved-then-not-is_among
loop-j-preserved-then-not-is_among c =
    let list = list_at c.args.self.now.lists (key_at c.args.var c.args.place) in
    let here = get_or c.list-list.result.now (c.loop-j.j - 1) no_watcher in
    let at : here ≡ get_or list (c.loop-j.j - 1) no_watcher =
    ap (λ (l : List Watcher). get_or l (c.loop-j.j - 1) no_watcher) (c.list-list.ensures ∙ ap (λ (n : ℕ). list_at c.args.self.now.lists n) c.key_at.ensures) in
    let fits : FitsSigned w64 here.value = search rules in
    record {
      within = omega (arith, c.loop-j.invariant.within);
      outside =
          AreOutside-more c.args.fallen c.args.self.now.arena c.args.trail.now.sets list (c.loop-j.j - 1) c.loop-j.j c.args.end
          (omega (arith, c.loop-j-test.true)) (inl (subst (λ (w : Watcher). IsOutside c.args.fallen w.value) at (subst (IsOutside c.args.fallen) (to_z-of_z fits) c.if-not-is_among.ensures))) c.loop-j.invariant.outside;
    }

pub loop-j-preserved : goal.loop-j-preserved
loop-j-preserved c =
    let list = list_at c.args.self.now.lists (key_at c.args.var c.args.place) in
    let here = get_or c.list-list.result.now (c.loop-j.j - 1) no_watcher in
    let at : here ≡ get_or list (c.loop-j.j - 1) no_watcher =
    ap (λ (l : List Watcher). get_or l (c.loop-j.j - 1) no_watcher) (c.list-list.ensures ∙ ap (λ (n : ℕ). list_at c.args.self.now.lists n) c.key_at.ensures) in
    record {
      within = omega (arith, c.loop-j.invariant.within);
      outside =
          AreOutside-more c.args.fallen c.args.self.now.arena c.args.trail.now.sets list (c.loop-j.j - 1) c.loop-j.j c.args.end
          (omega (arith, c.loop-j-test.true)) (inr (subst (λ (w : Watcher). IsSatisfiedAt c.args.self.now.arena c.args.trail.now.sets w.k) at c.if-is_satisfied.ensures)) c.loop-j.invariant.outside;
    }
