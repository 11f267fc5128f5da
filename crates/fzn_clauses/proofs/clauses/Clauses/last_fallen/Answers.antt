use Rattle.std.proofs.Common.{arith, List, ◌≡◌, ◌<◌, ◌+◌, ◌-◌, ◌^◌, ℕ, ℤ, FitsSigned, w64, rules, to_z, of_z, to_z-of_z, get_or, ap, ◌∙◌, subst, inl, inr, Option, Some, None, IfNone}
use Rattle.std.proofs.lemmas.Option.{IfSome_then}
use Rattle.fzn_domain.specs.declared.literal.Op.{Op}
use Rattle.fzn_domain.specs.IntSet.{IntSet}
use Rattle.fzn_domain.specs.Narrow.{set_of}
use Rattle.fzn_trail.specs.Replay.{set_before}
use Rattle.fzn_clauses.specs.declared.lists.Watcher.{Watcher}
use Rattle.fzn_clauses.specs.Keys.{key_at, operator_at, AreFallen, IsStill}
use Rattle.fzn_clauses.specs.Kept.{ArePassed, IsSatisfiedAt}
use Rattle.fzn_clauses.specs.Lists.{list_at, no_watcher}
use Rattle.fzn_clauses.specs.Watching.{set_at_mark}
use Rattle.fzn_clauses.proofs.SparedLemmas.{ArePassed-none, ArePassed-more, ArePassed-outside}
use Rattle.fzn_clauses.proofs.clauses.Clauses.last_fallen.Goals as goal

IfNone_then : (r : Option ℕ) {P Q : Type 0} → IfNone r P → (P → Q) → IfNone r Q
IfNone_then None p then = then p
IfNone_then (Some j) p then = p

pub loop-j-init : goal.loop-j-init
loop-j-init c = record {
  within = omega arith;
  passed = ArePassed-none (set_at_mark c.args.trail.now) c.args.entry c.args.self.now.arena c.args.trail.now.sets (key_at c.args.entry.var c.args.place) (list_at c.args.self.now.lists (key_at c.args.entry.var c.args.place)) c.args.end;
}

pub loop-j-preserved-then-not-may_have_fallen : goal.loop-j-preserved-then-not-may_have_fallen
loop-j-preserved-then-not-may_have_fallen c =
    let list = list_at c.args.self.now.lists (key_at c.args.entry.var c.args.place) in
    let here = get_or c.list-list.result.now (c.loop-j.j - 1) no_watcher in
    let at : here ≡ get_or list (c.loop-j.j - 1) no_watcher =
    ap (λ (l : List Watcher). get_or l (c.loop-j.j - 1) no_watcher) (c.list-list.ensures ∙ ap (λ (n : ℕ). list_at c.args.self.now.lists n) c.key_at-key.ensures) in
    let fits : FitsSigned w64 here.value = search rules in
    let earlier : c.domain_before-before.result.now ≡ set_at_mark c.args.trail.now =
    c.domain_before-before.ensures.value ∙ ap (λ (n : ℕ). set_before c.args.trail.now.declared c.args.trail.now.entries n) c.seen.ensures.value in
    let still : IsStill c.domain_before-before.result.now c.args.entry c.domain-domain.result.now (record { var = c.args.entry.var; op = c.operator_at-op.result; value = to_z w64 (of_z w64 here.value) }) → IsStill (set_at_mark c.args.trail.now) c.args.entry (set_of c.args.trail.now.sets c.args.entry.var) (record { var = c.args.entry.var; op = operator_at c.args.place; value = (get_or list (c.loop-j.j - 1) no_watcher).value }) = λ spared.
    subst (λ (w : Watcher). IsStill (set_at_mark c.args.trail.now) c.args.entry (set_of c.args.trail.now.sets c.args.entry.var) (record { var = c.args.entry.var; op = operator_at c.args.place; value = w.value })) at
    (subst (λ (s : IntSet). IsStill s c.args.entry (set_of c.args.trail.now.sets c.args.entry.var) (record { var = c.args.entry.var; op = operator_at c.args.place; value = here.value })) earlier
    (subst (λ (s : IntSet). IsStill c.domain_before-before.result.now c.args.entry s (record { var = c.args.entry.var; op = operator_at c.args.place; value = here.value })) c.domain-domain.ensures.value
    (subst (λ (o : Op). IsStill c.domain_before-before.result.now c.args.entry c.domain-domain.result.now (record { var = c.args.entry.var; op = o; value = here.value })) c.operator_at-op.ensures
    (subst (λ (v : ℤ). IsStill c.domain_before-before.result.now c.args.entry c.domain-domain.result.now (record { var = c.args.entry.var; op = c.operator_at-op.result; value = v })) (to_z-of_z fits) spared)))) in
    record {
      within = omega (arith, c.loop-j.invariant.within);
      passed =
          ArePassed-more (set_at_mark c.args.trail.now) c.args.entry c.args.self.now.arena c.args.trail.now.sets c.args.entry.var c.args.place list (c.loop-j.j - 1) c.loop-j.j c.args.end
          c.requires.in_range (omega (arith, c.loop-j-test.true)) (inl (subst (λ (n : ℕ). n < 2 ^ 64 - 1) c.key_at-key.ensures c.if-not-may_have_fallen.ensures.own, still c.if-not-may_have_fallen.ensures.still)) c.loop-j.invariant.passed;
    }

pub loop-j-preserved : goal.loop-j-preserved
loop-j-preserved c =
    let list = list_at c.args.self.now.lists (key_at c.args.entry.var c.args.place) in
    let here = get_or c.list-list.result.now (c.loop-j.j - 1) no_watcher in
    let at : here ≡ get_or list (c.loop-j.j - 1) no_watcher =
    ap (λ (l : List Watcher). get_or l (c.loop-j.j - 1) no_watcher) (c.list-list.ensures ∙ ap (λ (n : ℕ). list_at c.args.self.now.lists n) c.key_at-key.ensures) in
    record {
      within = omega (arith, c.loop-j.invariant.within);
      passed =
          ArePassed-more (set_at_mark c.args.trail.now) c.args.entry c.args.self.now.arena c.args.trail.now.sets c.args.entry.var c.args.place list (c.loop-j.j - 1) c.loop-j.j c.args.end
          c.requires.in_range (omega (arith, c.loop-j-test.true)) (inr (subst (λ (w : Watcher). IsSatisfiedAt c.args.self.now.arena c.args.trail.now.sets w.k) at c.if-is_satisfied.ensures)) c.loop-j.invariant.passed;
    }

pub returns-in-loop-j-clause-found : goal.returns-in-loop-j-clause-found
returns-in-loop-j-clause-found c = (
  omega (arith, c.loop-j.invariant.within, c.loop-j-test.true),
  subst (λ (n : ℕ). ArePassed (set_at_mark c.args.trail.now) c.args.entry c.args.self.now.arena c.args.trail.now.sets (key_at c.args.entry.var c.args.place) (list_at c.args.self.now.lists (key_at c.args.entry.var c.args.place)) n c.args.end)
      (omega (arith, c.loop-j-test.true)) c.loop-j.invariant.passed,
)

pub returns-clause-none : goal.returns-clause-none
returns-clause-none c =
    subst (λ (n : ℕ). ArePassed (set_at_mark c.args.trail.now) c.args.entry c.args.self.now.arena c.args.trail.now.sets (key_at c.args.entry.var c.args.place) (list_at c.args.self.now.lists (key_at c.args.entry.var c.args.place)) n c.args.end)
    (omega (arith, c.loop-j-test.false)) c.loop-j.invariant.passed

pub returns-in-Some-clause-found : goal.returns-in-Some-clause-found
returns-in-Some-clause-found c =
    let earlier : c.domain_before-before.result.now ≡ set_at_mark c.args.trail.now =
    c.domain_before-before.ensures.value ∙ ap (λ (n : ℕ). set_before c.args.trail.now.declared c.args.trail.now.entries n) c.seen.ensures.value in
    let fell : AreFallen (set_at_mark c.args.trail.now) (set_of c.args.trail.now.sets c.args.entry.var) c.args.entry c.args.place c.in-Some.fallen =
    subst (λ (s : IntSet). AreFallen s (set_of c.args.trail.now.sets c.args.entry.var) c.args.entry c.args.place c.in-Some.fallen) earlier
    (subst (λ (s : IntSet). AreFallen c.domain_before-before.result.now s c.args.entry c.args.place c.in-Some.fallen) c.domain-domain.ensures.value c.in-Some.ensures.fallen) in
    IfSome_then c.last_between.result c.last_between.ensures.found (λ j found. (
      found.0,
      ArePassed-outside (set_at_mark c.args.trail.now) c.args.entry c.args.self.now.arena c.args.trail.now.sets c.args.entry.var c.args.place (list_at c.args.self.now.lists (key_at c.args.entry.var c.args.place)) c.in-Some.fallen (j + 1) c.args.end
          c.requires.in_range (subst (λ (n : ℕ). n < 2 ^ 64 - 1) c.key_at-key.ensures c.in-Some.ensures.own) fell
          found.1,
    ))

pub returns-in-Some-clause-none : goal.returns-in-Some-clause-none
returns-in-Some-clause-none c =
    let earlier : c.domain_before-before.result.now ≡ set_at_mark c.args.trail.now =
    c.domain_before-before.ensures.value ∙ ap (λ (n : ℕ). set_before c.args.trail.now.declared c.args.trail.now.entries n) c.seen.ensures.value in
    let fell : AreFallen (set_at_mark c.args.trail.now) (set_of c.args.trail.now.sets c.args.entry.var) c.args.entry c.args.place c.in-Some.fallen =
    subst (λ (s : IntSet). AreFallen s (set_of c.args.trail.now.sets c.args.entry.var) c.args.entry c.args.place c.in-Some.fallen) earlier
    (subst (λ (s : IntSet). AreFallen c.domain_before-before.result.now s c.args.entry c.args.place c.in-Some.fallen) c.domain-domain.ensures.value c.in-Some.ensures.fallen) in
    IfNone_then c.last_between.result c.last_between.ensures.none (λ outside.
    ArePassed-outside (set_at_mark c.args.trail.now) c.args.entry c.args.self.now.arena c.args.trail.now.sets c.args.entry.var c.args.place (list_at c.args.self.now.lists (key_at c.args.entry.var c.args.place)) c.in-Some.fallen 0 c.args.end
    c.requires.in_range (subst (λ (n : ℕ). n < 2 ^ 64 - 1) c.key_at-key.ensures c.in-Some.ensures.own) fell
    outside)

pub returns-then-end-eq0-clause-none : goal.returns-then-end-eq0-clause-none
returns-then-end-eq0-clause-none c =
    subst (λ (n : ℕ). ArePassed (set_at_mark c.args.trail.now) c.args.entry c.args.self.now.arena c.args.trail.now.sets (key_at c.args.entry.var c.args.place) (list_at c.args.self.now.lists (key_at c.args.entry.var c.args.place)) n c.args.end) c.if-end-eq0.true
    (ArePassed-none (set_at_mark c.args.trail.now) c.args.entry c.args.self.now.arena c.args.trail.now.sets (key_at c.args.entry.var c.args.place) (list_at c.args.self.now.lists (key_at c.args.entry.var c.args.place)) c.args.end)
