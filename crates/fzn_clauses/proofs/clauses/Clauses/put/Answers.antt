use Rattle.std.proofs.Common.{◌<◌, length, refl, sym, ap, ◌∙◌, subst, arith}
use Rattle.std.proofs.lemmas.List.{length-map}
use Rattle.fzn_clauses.specs.Held.{held_at, held_in}
use Rattle.fzn_clauses.specs.Watched.{added}
use Rattle.fzn_clauses.specs.Watching.{IsAmong}
use Rattle.fzn_clauses.proofs.HeldLemmas.{held_in-put}
use Rattle.fzn_clauses.proofs.HoldLemmas.{KeepsWatching-more, KeepsWatching-put}
use Rattle.fzn_clauses.proofs.ListedLemmas.{IsAmong-more, IsAmong-last}
use Rattle.fzn_clauses.proofs.clauses.Clauses.put.Goals as goal

pub put-requires : goal.put-requires
put-requires c = omega (arith, c.requires.in_range, length-map c.args.self.now.arena held_at)

pub returns-clause-ok : goal.returns-clause-ok
returns-clause-ok c = ap held_in c.in_ok-put.ensures.ok ∙ held_in-put c.args.self.now.arena c.args.id.0 c.args.clause.now

pub returns-in_err-put-clause-watching : goal.returns-in_err-put-clause-watching
returns-in_err-put-clause-watching c =
    KeepsWatching-more c.args.self.now (record c.args.self.now { arena = c.put.new.self; pending = c.push.new.self }) c.in_err-put.ensures.err refl refl refl
    (λ k among. subst (IsAmong k) (sym c.in_ok-push.ensures.items) (IsAmong-more c.args.self.now.pending.items c.args.id.0 k among))

pub returns-clause-watching : goal.returns-clause-watching
returns-clause-watching c =
    let within : c.args.id.0 < length c.args.self.now.arena = omega (arith, c.requires.in_range, length-map c.args.self.now.arena held_at) in
    KeepsWatching-put c.args.self.now (record c.args.self.now { arena = c.put.new.self; pending = c.push.new.self }) c.args.id.0 (added c.args.clause.now)
    within c.in_ok-put.ensures.ok refl c.args.clause.now refl refl refl
    (λ k among. subst (IsAmong k) (sym c.in_ok-push.ensures.items) (IsAmong-more c.args.self.now.pending.items c.args.id.0 k among))
    (subst (IsAmong c.args.id.0) (sym c.in_ok-push.ensures.items) (IsAmong-last c.args.self.now.pending.items c.args.id.0))
