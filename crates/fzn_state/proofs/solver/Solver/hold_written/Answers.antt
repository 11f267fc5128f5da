-- The step of its number gives the clause.
use Rattle.std.proofs.Common.{ℕ, ◌<◌, List, [], ◌∷◌, ◌++◌, length, set, Some, sym, ap, ◌∙◌, subst, arith}
use Rattle.fzn_domain.specs.declared.literal.Lit.{Lit}
use Rattle.fzn_clauses.specs.Watching.{held_by}
use Rattle.fzn_reduction.specs.declared.written.Given.{Given}
use Rattle.fzn_state.specs.Changes.{IsReduced}
use Rattle.fzn_state.proofs.ForgetLemmas.{more-reduced}
use Rattle.fzn_state.proofs.PutLemmas.{put-reduced}
use Rattle.fzn_state.proofs.solver.Solver.hold_written.Goals as goal

pub returns-in_default : goal.returns-in_default
returns-in_default c =
    let within : c.args.place < length c.args.self.now.written = omega arith in
    let numbers = c.in_ok-push.ensures.ok ∙ ap (λ (g : Given). c.args.self.now.numbers ++ g.number ∷ []) c.get-given.ensures in
    let held = c.in_ok-id.ensures.ok ∙ ap (λ (clause : List Lit). held_by c.args.self.now.clauses ++ Some clause ∷ []) (c.as_slice-clause.ensures ∙ ap (λ (g : Given). g.clause) c.get-given.ensures) in
    record {
      reduced = λ model steps h.
          let N : List ℕ → Type 0 = λ numbers. IsReduced model c.args.self.now (record c.args.self.now { clauses = c.add.new.self; numbers = numbers; notes = record c.args.self.now.notes { stock = c.infer.new.self } }) steps in
          subst N (sym numbers) (more-reduced h c.args.place within c.add.new.self held c.in_ok-id.ensures.watching (record c.args.self.now.notes { stock = c.infer.new.self }));
    }

pub returns : goal.returns
returns c =
    let within : c.args.place < length c.args.self.now.written = omega arith in
    let free = c.in-Some.free in
    let numbers = c.set.ensures ∙ ap (λ (g : Given). set c.args.self.now.numbers c.in-Some.free.0 g.number) c.get-given.ensures in
    let held = c.in_ok-put.ensures.ok ∙ ap (λ (clause : List Lit). set (held_by c.args.self.now.clauses) free.0 (Some clause)) (c.as_slice-clause.ensures ∙ ap (λ (g : Given). g.clause) c.get-given.ensures) in
    record {
      reduced = λ model steps h.
          let N : List ℕ → Type 0 = λ numbers. IsReduced model c.args.self.now (record c.args.self.now { clauses = c.put.new.self; numbers = numbers; notes = record c.args.self.now.notes { stock = c.infer-2.new.self } }) steps in
          subst N (sym numbers) (put-reduced h c.args.place within c.put.new.self free c.in-Some.ensures.in_range c.in-Some.ensures.free held c.in_ok-put.ensures.watching (record c.args.self.now.notes { stock = c.infer-2.new.self }));
    }
