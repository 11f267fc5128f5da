-- What is not among the numbers in use is of nothing that is held or stands.
use Rattle.std.proofs.Common.{ℕ, List, All, Contains, rules, sym, ◌∙◌, subst}
use Rattle.std.proofs.lemmas.List.Elements.{All-contains, All-weaker}
use Rattle.fzn_clauses.specs.Watching.{held_by}
use Rattle.fzn_reduction.specs.declared.written.Given.{Given}
use Rattle.fzn_reduction.specs.Deletion.{IsInUse}
use Rattle.fzn_reduction.proofs.deletion.next_deletion.Goals as goal

pub returns-clause-deletion : goal.returns-clause-deletion
returns-clause-deletion c =
    let used = c.in_ok-used.used.items in
    let ids = c.in_ok-ids.ids in
    let InUse : List ℕ → ℕ → Type 0 = λ numbers n. IsInUse (held_by c.args.clauses.now) numbers c.args.inferences.now n in
    let Apart : List ℕ → Type 0 = λ ns. All (λ (n : ℕ). Contains ns n → ⊥) c.in_ok-ids.ids in
    let Among : List ℕ → Type 0 = λ ns. All (Contains ns) c.in_ok-ids.ids in
    let apart : Apart c.in_ok-used.used.items = subst Apart c.as_slice-3.ensures.value c.in_ok-ids.ensures.idle in
    let there : (n : ℕ) → InUse c.args.numbers.now n → Contains c.in_ok-used.used.items n = λ n in_use.
    c.in_ok-used.ensures.all n (subst (λ (numbers : List ℕ). InUse numbers n) (sym c.as_slice.ensures) in_use) in
    let left_is = c.in_ok-left.ensures ∙ c.as_slice-4.ensures.value in
    record {
      some = search rules;
      rise = c.in_ok-ids.ensures.rise;
      among = subst Among c.as_slice-2.ensures c.in_ok-ids.ensures.alive;
      idle = λ n in_use in_ids. All-contains (λ (k : ℕ). Contains used k → ⊥) ids n apart in_ids (there n in_use);
      in_use = subst (All (InUse c.args.numbers.now)) (sym left_is) (subst (λ (numbers : List ℕ). All (InUse numbers) used) c.as_slice.ensures c.in_ok-used.ensures.only);
      all = λ n in_use. subst (λ (ns : List ℕ). Contains ns n) (sym left_is) (there n in_use);
    }

pub returns-clause-thinned : goal.returns-clause-thinned
returns-clause-thinned c =
    let used = c.in_ok-used.used.items in
    let InUse : List ℕ → ℕ → Type 0 = λ numbers n. IsInUse (held_by c.args.clauses.now) numbers c.args.inferences.now n in
    let only : All (InUse c.args.numbers.now) used = subst (λ (numbers : List ℕ). All (InUse numbers) used) c.as_slice.ensures c.in_ok-used.ensures.only in
    let Left : List ℕ → Type 0 = λ ns. All (λ (it : Given). Contains ns it.number) c.keep.new.self in
    let left : Left c.in_ok-used.used.items = subst Left c.as_slice-5.ensures.value c.keep.ensures.only in
    record {
      in_use = All-weaker (λ (it : Given). Contains used it.number) (λ (it : Given). InUse c.args.numbers.now it.number) (λ it there. All-contains (InUse c.args.numbers.now) used it.number only there) c.keep.new.self left;
      among = c.keep.ensures.among;
    }
