use Rattle.std.proofs.Common.{◌≡◌, ◌∷◌, ◌++◌, [], sym, ap, ◌∙◌, List, ℕ, refl}
use Rattle.std.specs.Io.KnownBytes.{Consumes}
use Rattle.fzn_cert_reader.specs.Input.{left_in}
use Rattle.fzn_cert.specs.Spelling.{end_line}
use Rattle.fzn_cert_reader.proofs.ReadLaws.{Consumes-then}
use Rattle.fzn_cert_reader.proofs.ToldLaws.{Consumes-kept, end_other, end_then}
use Rattle.fzn_cert_reader.proofs.reader.StepLines.next_step.Goals as goal

-- the last line and the byte after it, taken one after the other
pub returns-in-Ok-Some-clause-err : goal.returns-in-Ok-Some-clause-err
returns-in-Ok-Some-clause-err g c =
    let left = left_in g.R.Read.remaining c.args.self.now.bytes in
    let middle = left_in g.R.Read.remaining c.next_line.new.bytes in
    let rest = left_in g.R.Read.remaining c.next_byte.new.self in
    let line = c.next_line.new.line.items in
    let text : line ++ 10 ∷ [] ≡ end_line c.in-Some.closed = ap (λ (t : List ℕ). t ++ 10 ∷ []) (sym c.deref.ensures.value) ∙ c.in-Some.ensures.found in
    let first : Consumes left middle (line ++ 10 ∷ []) = rw c.in-Whole.is at c.in_ok-next_line.ensures.taken in
    let second : Consumes middle rest (c.in-Ok-Some.field-0-0 ∷ []) = rw c.in-Ok-Some.field-0-is at c.in-Ok-Some.ensures.taken in
    record {
      closed = c.in-Some.closed;
      byte = c.in-Ok-Some.field-0-0;
      rest = rest;
      taken = rw (← text) (Consumes-then left middle rest (line ++ 10 ∷ []) (c.in-Ok-Some.field-0-0 ∷ []) first second);
    }

pub returns-in-Ok-Some-clause-trailed : goal.returns-in-Ok-Some-clause-trailed
returns-in-Ok-Some-clause-trailed g c =
    let left = left_in g.R.Read.remaining c.args.self.now.bytes in
    let middle = left_in g.R.Read.remaining c.next_line.new.bytes in
    let rest = left_in g.R.Read.remaining c.next_byte.new.self in
    let line = c.next_line.new.line.items in
    let text : line ++ 10 ∷ [] ≡ end_line c.in-Some.closed = ap (λ (t : List ℕ). t ++ 10 ∷ []) (sym c.deref.ensures.value) ∙ c.in-Some.ensures.found in
    let first : Consumes left middle (line ++ 10 ∷ []) = rw c.in-Whole.is at c.in_ok-next_line.ensures.taken in
    let second : Consumes middle rest (c.in-Ok-Some.field-0-0 ∷ []) = rw c.in-Ok-Some.field-0-is at c.in-Ok-Some.ensures.taken in
    λ _. (c.in-Some.closed, c.in-Ok-Some.field-0-0, refl, (rest, rw (← text) (Consumes-then left middle rest (line ++ 10 ∷ []) (c.in-Ok-Some.field-0-0 ∷ []) first second), tt))

pub returns-in-Ok-Some-clause-told : goal.returns-in-Ok-Some-clause-told
returns-in-Ok-Some-clause-told g c =
    let middle = left_in g.R.Read.remaining c.next_line.new.bytes in
    let rest = left_in g.R.Read.remaining c.next_byte.new.self in
    let second : Consumes middle rest (c.in-Ok-Some.field-0-0 ∷ []) = rw c.in-Ok-Some.field-0-is at c.in-Ok-Some.ensures.taken in
    λ _. end_then (left_in g.R.Read.remaining c.args.self.now.bytes) middle rest c.in-Some.closed c.next_line.new.line.items (c.in-Ok-Some.field-0-0 ∷ [])
    (ap (λ (t : List ℕ). t ++ 10 ∷ []) (sym c.deref.ensures.value) ∙ c.in-Some.ensures.found) (rw c.in-Whole.is at c.in_ok-next_line.ensures.taken) second

-- the last line alone was taken
pub returns-in-Err-clause-told : goal.returns-in-Err-clause-told
returns-in-Err-clause-told g c =
    let middle = left_in g.R.Read.remaining c.next_line.new.bytes in
    let rest = left_in g.R.Read.remaining c.next_byte.new.self in
    λ _. end_then (left_in g.R.Read.remaining c.args.self.now.bytes) middle rest c.in-Some.closed c.next_line.new.line.items []
    (ap (λ (t : List ℕ). t ++ 10 ∷ []) (sym c.deref.ensures.value) ∙ c.in-Some.ensures.found) (rw c.in-Whole.is at c.in_ok-next_line.ensures.taken) (Consumes-kept middle rest c.in-Err.ensures.err)

-- another line was taken
pub returns-in_err-step-in-None-clause-told : goal.returns-in_err-step-in-None-clause-told
returns-in_err-step-in-None-clause-told g c =
    end_other (left_in g.R.Read.remaining c.args.self.now.bytes) (left_in g.R.Read.remaining c.next_line.new.bytes) c.args.self.now.closed c.next_line.new.line.items c.deref.result.now c.deref.ensures.value
    (rw c.in-Whole.is at c.in_ok-next_line.ensures.taken) c.in_ok-next_line.ensures.inside c.in-None.ensures.none

pub returns-in-Some-2-clause-told : goal.returns-in-Some-2-clause-told
returns-in-Some-2-clause-told g c =
    end_other (left_in g.R.Read.remaining c.args.self.now.bytes) (left_in g.R.Read.remaining c.next_line.new.bytes) c.args.self.now.closed c.next_line.new.line.items c.deref.result.now c.deref.ensures.value
    (rw c.in-Whole.is at c.in_ok-next_line.ensures.taken) c.in_ok-next_line.ensures.inside c.in-None.ensures.none

pub returns-in-None-2-clause-told : goal.returns-in-None-2-clause-told
returns-in-None-2-clause-told g c =
    end_other (left_in g.R.Read.remaining c.args.self.now.bytes) (left_in g.R.Read.remaining c.next_line.new.bytes) c.args.self.now.closed c.next_line.new.line.items c.deref.result.now c.deref.ensures.value
    (rw c.in-Whole.is at c.in_ok-next_line.ensures.taken) c.in_ok-next_line.ensures.inside c.in-None.ensures.none
