-- The forms of a goal, by the token that is next.
use Rattle.std.proofs.Common.{sym, ◌∙◌}
use Rattle.fzn_parser.proofs.ItemLaws.{goal_satisfy, goal_minimize, goal_maximize}
use Rattle.fzn_parser.proofs.Onward.{begin, ◌then◌, stop, stop_last, done}
use Rattle.fzn_parser.proofs.items.goal.Goals as goal

pub returns-in_err-symbol : goal.returns-in_err-symbol
returns-in_err-symbol c = record { reads = stop_last (begin (goal_satisfy _ (sym c.sees.ensures ∙ c.if-sees.true))) c.in_err-symbol.ensures.reads c.from_residual.ensures.1 }

pub returns-then-sees : goal.returns-then-sees
returns-then-sees c = record { reads = done (begin (goal_satisfy _ (sym c.sees.ensures ∙ c.if-sees.true))) c.in_ok-symbol.ensures.reads }

pub returns-in_err-symbol-2 : goal.returns-in_err-symbol-2
returns-in_err-symbol-2 c = record { reads = stop (begin (goal_minimize _ (sym c.sees-2.ensures ∙ c.if-sees-2.true))) c.in_err-symbol-2.ensures.reads c.from_residual-in_err-symbol-2.ensures.1 }

pub returns-in_err-basic : goal.returns-in_err-basic
returns-in_err-basic c = record { reads = stop_last (begin (goal_minimize _ (sym c.sees-2.ensures ∙ c.if-sees-2.true)) then c.in_ok-symbol-2.ensures.reads) c.in_err-basic.ensures.reads c.from_residual-in_err-basic.ensures.1 }

pub returns-then-sees-2 : goal.returns-then-sees-2
returns-then-sees-2 c = record { reads = done (begin (goal_minimize _ (sym c.sees-2.ensures ∙ c.if-sees-2.true)) then c.in_ok-symbol-2.ensures.reads) c.in_ok-basic.ensures.reads }

pub returns-in_err-symbol-3 : goal.returns-in_err-symbol-3
returns-in_err-symbol-3 c = record { reads = stop (begin (goal_maximize _ (sym c.sees.ensures ∙ c.if-sees.false) (sym c.sees-2.ensures ∙ c.if-sees-2.false))) c.in_err-symbol-3.ensures.reads c.from_residual-in_err-symbol-3.ensures.1 }

pub returns-in_err-basic-2 : goal.returns-in_err-basic-2
returns-in_err-basic-2 c = record { reads = stop_last (begin (goal_maximize _ (sym c.sees.ensures ∙ c.if-sees.false) (sym c.sees-2.ensures ∙ c.if-sees-2.false)) then c.in_ok-symbol-3.ensures.reads) c.in_err-basic-2.ensures.reads c.from_residual-in_err-basic-2.ensures.1 }

pub returns : goal.returns
returns c = record { reads = done (begin (goal_maximize _ (sym c.sees.ensures ∙ c.if-sees.false) (sym c.sees-2.ensures ∙ c.if-sees-2.false)) then c.in_ok-symbol-3.ensures.reads) c.in_ok-basic-2.ensures.reads }
