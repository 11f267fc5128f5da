use Rattle.std.proofs.Common.{List, ℕ, subst}
use Rattle.std.specs.Io.KnownBytes.{Appends}
use Rattle.fzn_streams.specs.Output.{AppendsFront}
use Rattle.fzn_checker.specs.FileFaults.{fault_from}
use Rattle.fzn_checker.proofs.CallerLemmas.{error-is}
use Rattle.fzn_items.specs.Itemized.{IsItemsFault}
use Rattle.fzn_items.proofs.ItemizedLemmas.{read-fault}
use Rattle.fzn_items.proofs.listing.items_tracked.Goals as goal

pub returns-in_err-listing-clause-err : goal.returns-in_err-listing-clause-err
returns-in_err-listing-clause-err g c =
    let file = g.R.Read.remaining c.args.file.now in
    let before = g.W.Write.contents c.args.out.now in
    error-is c.from_residual.result (fault_from c.in_err-listing.field-0.0) (IsItemsFault file before before) c.from_residual.ensures.1
    (read-fault file before c.in_err-listing.field-0.0 c.in_err-listing.ensures.err)

pub returns-in-Ok-clause-ok : goal.returns-in-Ok-clause-ok
returns-in-Ok-clause-ok g c =
    let listing = c.in_ok-listing.listing in
    (listing.text.items, c.in_ok-listing.ensures.ok, subst (λ (text : List ℕ). Appends (g.W.Write.contents c.args.out.now) (g.W.Write.contents c.put_all.new.out) text) c.as_slice.ensures.value c.in-Ok.ensures.text)

pub returns-clause-err : goal.returns-clause-err
returns-clause-err g c =
    let listing = c.in_ok-listing.listing in
    (listing.counts, listing.text.items, c.in_ok-listing.ensures.ok, subst (λ (text : List ℕ). AppendsFront (g.W.Write.contents c.args.out.now) (g.W.Write.contents c.put_all.new.out) text) c.as_slice.ensures.value c.in-Err.ensures.text)
