-- What a core makes of a whole certificate, and what a fault leaves.
use Rattle.std.proofs.Common.{◌≡◌, ℕ, ◌≤◌, Bool, List, length, Option, Err, IfSome, refl, sym, subst, arith}
use Rattle.std.proofs.KnownBytes.{Keeps-refl}
use Rattle.fzn_lexer.specs.declared.token.Span.{Span}
use Rattle.fzn_meaning.specs.declared.model.Model.{Model}
use Rattle.fzn_meaning.specs.WellFormed.{IsWellFormed}
use Rattle.fzn_reading.specs.declared.fault.ModelFault.{ModelFault}
use Rattle.fzn_reading.specs.declared.fault.ModelFault.TheVariants as reading
use Rattle.fzn_reading.specs.Reads.{Answers, States}
use Rattle.fzn_head.specs.Outcome.{IsOutcomeOn}
use Rattle.fzn_head.proofs.CallerLemmas.{one_for_each}
use Rattle.fzn_checker.specs.declared.fault.CheckFault.{CheckFault}
use Rattle.fzn_checker.specs.declared.fault.CheckFault.TheVariants.{File, Refused, NotVersionOne, Memory, Read, WriteOutput, WriteCert}
use Rattle.fzn_checker.specs.declared.hold.Held.{Held}
use Rattle.fzn_checker.specs.Answered.{Shows}
use Rattle.fzn_checker.specs.Checked.{IsFaultWhere}
use Rattle.fzn_checker.specs.FileFaults.{fault_from}
use Rattle.fzn_checker.specs.Held.{IsCertificate, HoldsCertificate}
use Rattle.fzn_sources.specs.Items.{AreSources}
use Rattle.fzn_core.specs.declared.listing.Listed.{Listed}
use Rattle.fzn_core.specs.Core.{IsCore}
use Rattle.fzn_core.specs.Listing.{core_text, Lists, IsListFault}
use Rattle.fzn_core.proofs.ShowsLemmas.{shows-of}

-- no more are derived than there are constraints
pub derived-among : (model after : Model) (cert : Option (List ℕ)) (held : Held) → HoldsCertificate model after cert held → length held.derivations.items ≤ length after.constraints
derived-among model after cert held is = omega (arith, one_for_each model after held.derivations.items is.derives.extends)

module _ (file cert : Option (List ℕ)) (model after : Model) (states : States file model) where
  pub lists-of : (bytes : List ℕ) (sources : List Span) (held : Held) (numbers : List ℕ) (answer : Listed) → IsWellFormed model → IsWellFormed after → IfSome file (λ all. all ≡ bytes) → AreSources bytes model.constraints sources → HoldsCertificate model after cert held
      → IsCore model after held.derivations.items held.solutions.items held.closed numbers → answer.closed ≡ held.closed → answer.listed ≡ length numbers → answer.constraints ≡ length model.constraints
      → Lists file cert (core_text bytes sources numbers answer.closed) answer
  lists-of bytes sources held numbers answer wf formed whole stated is_held core closed listed constraints = record {
    bytes = bytes;
    whole = whole;
    model = model;
    found = held.solutions.items;
    shows = subst (λ (b : Bool). Shows file cert model held.solutions.items b) (sym closed) (shows-of file cert model after states held wf formed is_held);
    read = held.derivations.items;
    after = after;
    derives = is_held.derives;
    version = is_held.version;
    steps = held.steps;
    certificate = subst (λ (b : Bool). IsCertificate model after is_held.version cert held.steps b) (sym closed) is_held.certificate;
    sources = sources;
    stated = stated;
    numbers = numbers;
    core = subst (λ (b : Bool). IsCore model after held.derivations.items held.solutions.items b numbers) (sym closed) core;
    is = refl;
    counts = (listed, constraints);
  }

  -- the same by what was seen of each list
  pub lists-seen : (bytes seen : List ℕ) (sources seen_sources : List Span) (held : Held) (numbers seen_numbers : List ℕ) (answer : Listed) → seen ≡ bytes → seen_sources ≡ sources → seen_numbers ≡ numbers
      → IsWellFormed model → IsWellFormed after → IfSome file (λ all. all ≡ bytes) → AreSources bytes model.constraints sources → HoldsCertificate model after cert held
      → IsCore model after held.derivations.items held.solutions.items held.closed numbers → answer.closed ≡ held.closed → answer.listed ≡ length numbers → answer.constraints ≡ length model.constraints
      → Lists file cert (core_text seen seen_sources seen_numbers answer.closed) answer
  lists-seen bytes seen sources seen_sources held numbers seen_numbers answer bytes_are sources_are numbers_are wf formed whole stated is_held core closed listed constraints =
      let L : List ℕ → List Span → List ℕ → Type 0 = λ b s n. Lists file cert (core_text b s n answer.closed) answer in
      subst (λ (b : List ℕ). L b seen_sources seen_numbers) (sym bytes_are)
      (subst (λ (s : List Span). L bytes s seen_numbers) (sym sources_are)
      (subst (λ (n : List ℕ). L bytes sources n) (sym numbers_are) (lists-of bytes sources held numbers answer wf formed whole stated is_held core closed listed constraints)))

  -- nothing is printed for a certificate that is not accepted
  pub certificate-fault : (before : Option (List ℕ)) (fault : CheckFault) → IsFaultWhere (IsOutcomeOn model cert) fault → IsListFault file cert before before fault
  certificate-fault before (File of) f = absurd f
  certificate-fault before (Refused line refusal) f = (Keeps-refl before, (model, states, f))
  certificate-fault before Memory f = Keeps-refl before
  certificate-fault before Read f = Keeps-refl before
  certificate-fault before NotVersionOne f = absurd f
  certificate-fault before WriteOutput f = absurd f
  certificate-fault before WriteCert f = absurd f

-- the file has a fault, or can't be read
pub model-fault : (file cert before : Option (List ℕ)) (fault : ModelFault) → IfSome file (λ bytes. Answers bytes (Err fault)) → IsListFault file cert before before (fault_from fault)
model-fault file cert before (reading.File fault) h = (Keeps-refl before, h)
model-fault file cert before reading.Memory h = Keeps-refl before
model-fault file cert before reading.Read h = Keeps-refl before
