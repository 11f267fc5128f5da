use Rattle.std.proofs.Common.{sym, ◌∙◌}
use Rattle.std.proofs.lemmas.Bool.{true≢false}
use Rattle.fzn_clauses.proofs.SweepLemmas.{Sweeps-none, Sweeps-taken_out}
use Rattle.fzn_clauses.proofs.VisitLemmas.{left_room}
use Rattle.fzn_clauses.proofs.clauses.Clauses.sweep_place.Goals as goal

pub returns-then-is_watching-clause-sweeps : goal.returns-then-is_watching-clause-sweeps
returns-then-is_watching-clause-sweeps c = Sweeps-none c.args.self.now

pub returns-clause-sweeps : goal.returns-clause-sweeps
returns-clause-sweeps c =
    Sweeps-taken_out c.args.self.now c.take_out.new.self c.args.key c.args.j c.at-found.result c.requires (sym c.at-found.ensures)
    (λ on. true≢false (sym (c.is_watching.ensures.1 on) ∙ c.if-is_watching.false)) c.take_out.ensures

pub returns-clause-left : goal.returns-clause-left
returns-clause-left c = left_room c.args.key c.args.j c.args.self.now.lists c.take_out.new.self c.requires c.take_out.ensures
