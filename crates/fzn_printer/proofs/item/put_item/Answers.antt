use Rattle.std.proofs.Common.{arith, subst, ◌++◌, ℤ}
use Rattle.std.specs.Prelude.{codes}
use Rattle.std.specs.Io.KnownBytes.{Appends}
use Rattle.fzn_streams.specs.Output.{AppendsFront}
use Rattle.fzn_printer.specs.Shown.{value_text, entry_text, item_text}
use Rattle.fzn_streams.proofs.CallerLemmas.{Appends-then, front-left, front-then, front-each, front-each-at, Puts-last, Puts-stopped}
use Rattle.fzn_printer.proofs.item.put_item.Goals as goal

pub returns-in_err-put_list-in-Array-clause-text : goal.returns-in_err-put_list-in-Array-clause-text
returns-in_err-put_list-in-Array-clause-text g c =
    rw (c.in-Array.is, ← c.as_slice.ensures, ← c.as_slice-in-Array.ensures) (Puts-stopped _ _ _ _ c.from_residual-in_err-put_list-in-Array.ensures.0 (front-left _ _ _ _ (front-then _ _ _ _ _ c.in_ok-put_head-in-Array.ensures.text c.in_err-put_list-in-Array.ensures.text)))

pub returns-in_ok-put_list-in-Array-clause-text : goal.returns-in_ok-put_list-in-Array-clause-text
returns-in_ok-put_list-in-Array-clause-text g c =
    rw (c.in-Array.is, ← c.as_slice.ensures, ← c.as_slice-in-Array.ensures) (Puts-last _ _ _ _ _ _ (Appends-then _ _ _ _ _ c.in_ok-put_head-in-Array.ensures.text c.in_ok-put_list-in-Array.ensures.text) c.put.ensures.text)
