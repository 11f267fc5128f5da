use Rattle.std.proofs.Common.{refl, sym, rules, w64, FitsSigned}
use Rattle.std.proofs.lemmas.Int.{to_z-of_z}
use Rattle.fzn_cert_line.proofs.RowLoops.{columns_are_read}
use Rattle.fzn_cert_line.proofs.row.read_columns.Goals as goal

pub returns-in_default : goal.returns-in_default
returns-in_default c = rw (columns_are_read c.args.words.now, sym c.in_default.ensures.number) refl

pub returns-in_default-next_number : goal.returns-in_default-next_number
returns-in_default-next_number c = rw (columns_are_read c.args.words.now, sym c.in-Some.ensures.number, sym c.in-Some.ensures.rest, sym c.in_default-next_number.ensures.number) refl

pub returns-in_default-2 : goal.returns-in_default-2
returns-in_default-2 c =
    let none = rw c.in_default-2.is at c.in_ok-low.ensures in
    rw (columns_are_read c.args.words.now, sym c.in-Some.ensures.number, sym c.in-Some.ensures.rest, sym c.in-Some-next_number.ensures.number, sym c.in-Some-next_number.ensures.rest, sym none) refl

pub returns : goal.returns
returns c =
    let low = c.in-Some-2.low in
    let fits : FitsSigned w64 low = search rules in
    let read = rw c.in-Some-2.is at c.in_ok-low.ensures in
    rw (
      to_z-of_z w64 low fits,
      columns_are_read c.args.words.now,
      sym c.in-Some.ensures.number,
      sym c.in-Some.ensures.rest,
      sym c.in-Some-next_number.ensures.number,
      sym c.in-Some-next_number.ensures.rest,
      sym read,
    ) refl
