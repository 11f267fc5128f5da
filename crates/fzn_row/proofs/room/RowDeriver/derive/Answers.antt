use Rattle.std.proofs.Common.{◌≡◌, length, sym, ap, ◌∙◌, subst, Result, Ok, Err, IfOk, All, ℕ}
use Rattle.std.proofs.lemmas.List.{length-map}
use Rattle.fzn_meaning.specs.declared.row.Row.{Row}
use Rattle.fzn_meaning.specs.Meaning.{IsWellFormedConstraint}
use Rattle.fzn_meaning.specs.Separable.{IsSeparableRow}
use Rattle.fzn_meaning.specs.Solutions.{declared_sets}
use Rattle.fzn_cited.specs.declared.fault.DeriveFault.{DeriveFault}
use Rattle.fzn_row.specs.Draft.{Draft, row_stated, and_then, in_turn}
use Rattle.fzn_row.specs.Derived.{item_added, drafted}
use Rattle.fzn_row.specs.Room.{draft_of}
use Rattle.fzn_row.proofs.FormedSound.{derived_row-formed}
use Rattle.fzn_row.proofs.room.RowDeriver.derive.Goals as goal

each : (P Q : Row → Type 0) (r : Result Row DeriveFault) → ((row : Row) → P row → Q row) → IfOk r P → IfOk r Q
each P Q (Ok row) f h = f row h
each P Q (Err fault) f h = tt

pub returns-clause-formed : goal.returns-clause-formed
returns-clause-formed c =
    let given = c.args.given.now in
    let declared = declared_sets c.args.vars.now in
    let items = c.args.items.now in
    let after = draft_of c.add_items.new.self in
    let same : length declared ≡ length c.args.vars.now = length-map c.args.vars.now _ in
    let well : All (IsWellFormedConstraint (length declared)) given = subst (λ (n : ℕ). All (IsWellFormedConstraint n) given) (sym same) c.requires.given in
    let is : drafted given declared c.args.most items ≡ Ok after = ap (λ (d : Draft). in_turn (item_added given declared) d items) (sym c.begin.ensures.draft) ∙ c.in_ok-add_items.ensures.ok in
    subst (λ (n : ℕ). IfOk c.take_row.result (IsSeparableRow n)) same
    (each (λ row. row_stated after ≡ Ok row) (IsSeparableRow (length declared)) c.take_row.result
    (λ row stated. derived_row-formed given declared well c.args.most items row (ap (λ (r : Result Draft DeriveFault). and_then r row_stated) is ∙ stated)) c.take_row.ensures.ok)
