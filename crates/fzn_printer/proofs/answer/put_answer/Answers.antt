use Rattle.std.proofs.Common.{◌≡◌, ◌-◌, ◌≤◌, List, ℤ, length, take, drop, subst, arith}
use Rattle.std.specs.List.{flat_map}
use Rattle.std.specs.Io.KnownBytes.{Appends}
use Rattle.std.proofs.lemmas.List.{take_all, length-drop}
use Rattle.fzn_streams.proofs.CallerLemmas.{Puts-last}
use Rattle.fzn_printer.specs.Shown.{shown}
use Rattle.fzn_printer.proofs.answer.put_answer.Goals as goal

-- the slice from the first solution that is printed on is the rest of the list
pub returns-clause-text : goal.returns-clause-text
returns-clause-text g c =
    let rest : List (List ℤ) = drop c.first_shown-first.result c.args.found.now in
    let whole : take (length c.args.found.now - c.first_shown-first.result) rest ≡ rest = take_all _ rest (omega (arith, length-drop c.first_shown-first.result c.args.found.now)) in
    rw (← c.first_shown-first.ensures, ← c.is_empty.ensures, ← c.ending_line.ensures)
    (Puts-last _ _ _ _ _ _ (subst (λ (xs : List (List ℤ)). Appends (g.W.Write.contents c.args.out.now) (g.W.Write.contents c.put_solutions.new.out) (flat_map (shown c.args.model.now) xs)) whole c.in_ok-put_solutions.ensures.text) c.put_last.ensures.text)
