-- What the calls of a reader make together: the induction over the steps of a certificate.
use Rattle.std.proofs.Common.{◌≡◌, ℕ, List, [], ◌∷◌, ◌++◌, length, Option, Some, None, refl, sym, ap, subst, ◌∙◌, arith, rules, append_assoc}
use Rattle.std.specs.Prelude.{IsSome}
use Rattle.std.specs.List.{flat_map}
use Rattle.std.specs.Io.KnownBytes.{Consumes, IsAtEnd}
use Rattle.std.proofs.lemmas.List.{append-nil, length-append}
use Rattle.std.proofs.lemmas.List.Concat.{flat_map-append}
use Rattle.fzn_cert.specs.declared.fault.CertFault.{CertFault}
use Rattle.fzn_cert.specs.declared.header.Header.{Header}
use Rattle.fzn_cert.specs.declared.step.Step.{Step}
use Rattle.fzn_cert.specs.Spelling.{step_line, end_line, header_lines}
use Rattle.fzn_cert.specs.Stream.{IsFaultOf, After, line_of_fault}
use Rattle.fzn_cert.proofs.CallerLemmas.{some_is}
use Rattle.fzn_cert_reader.specs.Reader.{Progress, IsAtStart, IsNextFault, GivesStep, Ends, FindsFault, HasRead, lines_read, text_of, certificate_text}
use Rattle.fzn_cert_reader.proofs.ReadLaws.{Consumes-then, Consumes_nothing}

none_some : (h : Header) → None ≡ Some h → ⊥
none_some h e = cc

some_of_header : (h : Header) → IsSome (Some h)
some_of_header h = search rules

-- the lines read before, and what this call took besides the text
text_joined : (before now : Option Header) (header : Header) (steps : List Step) (text : List ℕ) → now ≡ Some header → (before ≡ None → steps ≡ []) → (IsSome before → now ≡ before)
    → text_of before steps ++ (lines_read before now ++ text) ≡ text_of now steps ++ text
text_joined None None header steps text is none same = absurd (none_some header is)
text_joined None (Some h) header steps text is none same = rw (none refl) (ap (λ (t : List ℕ). t ++ text) (sym (append-nil (header_lines h))))
text_joined (Some h) None header steps text is none same = absurd (none_some header is)
text_joined (Some h) (Some k) header steps text is none same =
    ap (λ (x : Header). (header_lines x ++ flat_map step_line steps) ++ text) (sym (some_is k h (same (some_of_header h))))

one_more : (now : Option Header) (header : Header) (steps : List Step) (step : Step) → now ≡ Some header → text_of now steps ++ step_line step ≡ text_of now (steps ++ step ∷ [])
one_more None header steps step is = absurd (none_some header is)
one_more (Some h) header steps step is =
    append_assoc (header_lines h) (flat_map step_line steps) (step_line step)
    ∙ ap (λ (t : List ℕ). header_lines h ++ (flat_map step_line steps ++ t)) (sym (append-nil (step_line step)))
    ∙ ap (λ (t : List ℕ). header_lines h ++ t) (sym (flat_map-append step_line steps (step ∷ [])))

pub HasRead-fresh : (bytes : Option (List ℕ)) (now : Progress) → IsAtStart bytes now → HasRead bytes now []
HasRead-fresh bytes now fresh = record {
  taken = rw (fresh.0, fresh.1) (Consumes_nothing bytes);
  counted = fresh.2;
  none_before = λ _. refl;
}

-- one step more
pub HasRead-step : (bytes : Option (List ℕ)) (old new : Progress) (steps : List Step) (step : Step) → HasRead bytes old steps → GivesStep old new step → (IsSome old.header → new.header ≡ old.header)
    → HasRead bytes new (steps ++ step ∷ [])
HasRead-step bytes old new steps step so_far gives same = record {
  taken = subst (λ (t : List ℕ). Consumes bytes new.left t)
      (text_joined old.header new.header gives.header steps (step_line step) gives.told so_far.none_before same ∙ one_more new.header gives.header steps step gives.told)
      (Consumes-then bytes old.left new.left (text_of old.header steps) (lines_read old.header new.header ++ step_line step) so_far.taken gives.taken);
  counted = omega (arith, gives.counted, so_far.counted, length-append steps (step ∷ []));
  none_before = λ none. absurd (none_some gives.header (sym none ∙ gives.told));
}

-- at the end the bytes are those of the certificate
pub HasRead-end : (text : List ℕ) (old new : Progress) (steps : List Step) → HasRead (Some text) old steps → (ends : Ends old new) → (IsSome old.header → new.header ≡ old.header)
    → text ≡ certificate_text ends.header steps ends.closed
HasRead-end text old new steps so_far ends same =
    whole new.left
    (subst (λ (h : Option Header). Consumes (Some text) new.left (text_of h steps ++ end_line ends.closed)) ends.told
    (subst (λ (t : List ℕ). Consumes (Some text) new.left t) (text_joined old.header new.header ends.header steps (end_line ends.closed) ends.told so_far.none_before same)
    (Consumes-then (Some text) old.left new.left (text_of old.header steps) (lines_read old.header new.header ++ end_line ends.closed) so_far.taken ends.taken)))
    ends.at_end
  where
    whole : (left : Option (List ℕ)) → Consumes (Some text) left (certificate_text ends.header steps ends.closed) → IsAtEnd left → text ≡ certificate_text ends.header steps ends.closed
    whole None taken at_end = absurd taken
    whole (Some rest) taken at_end = taken ∙ ap (λ (t : List ℕ). certificate_text ends.header steps ends.closed ++ t) at_end ∙ append-nil (certificate_text ends.header steps ends.closed)

-- a fault behind the first two lines stands after these steps
pub HasRead-fault : (bytes : Option (List ℕ)) (old new : Progress) (steps : List Step) (fault : CertFault) (header : Header) → HasRead bytes old steps → FindsFault old new fault → new.header ≡ Some header → (IsSome old.header → new.header ≡ old.header)
    → (fault.line ≡ line_of_fault fault.kind (length steps)) × After bytes (text_of (Some header) steps) (λ rest. IsFaultOf header.version (length steps) rest fault.kind)
HasRead-fault bytes old new steps fault header so_far finds is same =
    let next = subst (λ (h : Option Header). IsNextFault old h new.closing fault) is finds.is_next in
    let count = so_far.counted in
    let kept : IsSome old.header → Some header ≡ old.header = λ some. sym is ∙ same some in
    let taken = subst (λ (t : List ℕ). Consumes bytes next.1.0 t)
    (ap (λ (t : List ℕ). text_of old.header steps ++ t) (sym (append-nil (lines_read old.header (Some header))))
    ∙ text_joined old.header (Some header) header steps [] refl so_far.none_before kept ∙ append-nil (text_of (Some header) steps))
    (Consumes-then bytes old.left next.1.0 (text_of old.header steps) (lines_read old.header (Some header)) so_far.taken next.1.1) in
    (rw (← count) next.0, (next.1.0, taken, rw (← count) next.1.2.0))
