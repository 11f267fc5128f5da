use Rattle.std.proofs.Common.{sym, rules, w64, of_z, to_z, FitsSigned}
use Rattle.std.proofs.lemmas.Int.{to_z-of_z}
use Rattle.fzn_cert_line.specs.Rows.{from_letter}
use Rattle.fzn_cert_line.proofs.RowLoops.{priced-none, priced-no-low, priced-read, priced-not}
use Rattle.fzn_cert_line.proofs.row.priced_before_item.Goals as goal

pub returns-in_default : goal.returns-in_default
returns-in_default c = priced-none c.args.words.now c.in_default.ensures.steps.0

pub returns-in_default-first_priced_of : goal.returns-in_default-first_priced_of
returns-in_default-first_priced_of c = priced-no-low c.args.words.now c.in-Some.first.now c.next.new.self c.in-Some.ensures.steps (sym c.in_default-first_priced_of.ensures)

pub returns-in_default-2 : goal.returns-in_default-2
returns-in_default-2 c =
    priced-not c.args.words.now c.in-Some.first.now c.next.new.self c.in-Some-first_priced_of.low c.in-Some.ensures.steps (sym c.in-Some-first_priced_of.ensures) (rw c.in_default-2.is at c.in_ok-prices.ensures)

pub returns : goal.returns
returns c =
    let low = c.in-Some-first_priced_of.low in
    let fits : FitsSigned w64 low = search rules in
    priced-read c.args.words.now c.in-Some.first.now c.next.new.self low (to_z w64 (of_z w64 low)) c.in-Some-2.prices (from_letter c.in-Some-2.next c.prices_before_item.new.words) c.in-Some.ensures.steps
    (sym c.in-Some-first_priced_of.ensures) (to_z-of_z w64 low fits) (rw c.in-Some-2.is at c.in_ok-prices.ensures)
