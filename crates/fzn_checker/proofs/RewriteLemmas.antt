-- What copying line by line makes of a whole certificate.
use Rattle.std.proofs.Common.{◌≡◌, ℕ, ◌+◌, Bool, true, false, List, [], ◌∷◌, ◌++◌, length, Option, Some, None, Result, Ok, Err, IfErr, refl, sym, ap, subst, ◌∙◌, arith, append_assoc}
use Rattle.std.specs.Bool.{OnTrue, OnFalse}
use Rattle.std.specs.Result.{is_err}
use Rattle.std.specs.Io.KnownBytes.{Consumes, Appends, Keeps}
use Rattle.std.proofs.KnownBytes.{Consumes-trans, Appends-trans, Consumes-whole, Appends-kept, Keeps-refl}
use Rattle.std.proofs.lemmas.List.{append-nil, length-append}
use Rattle.fzn_streams.specs.Output.{AppendsFront, Puts}
use Rattle.fzn_streams.proofs.CallerLemmas.{front-left, front-then}
use Rattle.fzn_cert.specs.declared.fault.FaultKind.{FaultKind}
use Rattle.fzn_cert.specs.declared.fault.FaultKind.TheVariants as faults
use Rattle.fzn_cert.specs.declared.refusal.Refusal.{Refusal}
use Rattle.fzn_cert.specs.declared.step.Step.{Step}
use Rattle.fzn_cert.specs.declared.step.Version.{Version}
use Rattle.fzn_cert.specs.declared.step.Version.TheVariants.{One, Two}
use Rattle.fzn_cert.specs.Spelling.{step_line, end_line, HasLine, IsSized}
use Rattle.fzn_cert.specs.Stream.{After, IsFaultOf, IsHeaderFaultOf, IsCountsText, line_of_fault}
use Rattle.fzn_head.specs.Head.{IsFirstText}
use Rattle.fzn_cert.specs.Verdict.{lines_of, AllHaveLines, BeginsWith, line_after}
use Rattle.fzn_checker.specs.declared.fault.CheckFault.{CheckFault}
use Rattle.fzn_checker.specs.declared.fault.CheckFault.TheVariants.{File, Refused, NotVersionOne, Memory, Read, WriteOutput, WriteCert}
use Rattle.fzn_checker.specs.Faults.{fault_of_kind}
use Rattle.fzn_checker.specs.Rewritten.{first_line, second_line, IsRewritten, IsCountsFault, IsStepLineFault, IsFaulty, first, second, later, IsRewriteBegun, nothing, some_of, IsRewriteFault, IsFirstLineFault, CopiesCounts, CopiesStep, CopiesEnd, IsCopyFault, IsCountsCopyFault, IsLineCopyFault}
use Rattle.fzn_checker.proofs.VersionLemmas.{same_verdict}

-- ---- the faults of one line

pub first-fault : (left : Option (List ℕ)) (kind : FaultKind) → IsHeaderFaultOf IsFirstText left kind → IsFirstLineFault left (fault_of_kind kind 1 None true)
first-fault left faults.Header f = (refl, f)
first-fault left faults.Truncated f = (refl, f)
first-fault left faults.LineTooLong f = (refl, f)
first-fault left faults.Memory f = tt
first-fault left faults.Read f = tt
first-fault left _ f = absurd f

pub counts-fault : (left before after : Option (List ℕ)) (kind : FaultKind) → Keeps before after → IsHeaderFaultOf IsCountsText left kind → IsCountsCopyFault left before after (fault_of_kind kind 2 None true)
counts-fault left before after faults.Header kept f = ((refl, f), kept)
counts-fault left before after faults.Truncated kept f = ((refl, f), kept)
counts-fault left before after faults.LineTooLong kept f = ((refl, f), kept)
counts-fault left before after faults.Memory kept f = kept
counts-fault left before after faults.Read kept f = kept
counts-fault left before after _ kept f = absurd f

pub line-fault : (count : ℕ) (left before after : Option (List ℕ)) (kind : FaultKind) → Keeps before after → IsFaultOf One count left kind → IsLineCopyFault count left before after (fault_of_kind kind (line_of_fault kind count) None true)
line-fault count left before after faults.Spelling kept f = ((refl, f), kept)
line-fault count left before after faults.Truncated kept f = ((refl, f), kept)
line-fault count left before after faults.LineTooLong kept f = ((refl, f), kept)
line-fault count left before after faults.Trailing kept f = ((refl, f), kept)
line-fault count left before after faults.Memory kept f = kept
line-fault count left before after faults.Read kept f = kept
line-fault count left before after _ kept f = absurd f

-- ---- how far it came

-- the first two lines and those of these steps stand in both
pub record IsCopied (old left before now : Option (List ℕ)) (count : ℕ) : Type 0 where
  pub variables : ℕ
  pub constraints : ℕ
  pub sized : IsSized variables × IsSized constraints
  pub steps : List Step
  pub spelled : AllHaveLines One 0 steps
  pub counted : count ≡ length steps
  pub taken : Consumes old left (first_line One ++ (second_line variables constraints ++ lines_of steps))
  pub written : Appends before now (first_line Two ++ (second_line variables constraints ++ lines_of steps))

pub copied-header : (old left next before now after : Option (List ℕ)) (count : ℕ) → count ≡ 0 → Consumes old left (first_line One) → Appends before now (first_line Two) → CopiesCounts left next now after → IsCopied old next before after count
copied-header old left next before now after count none taken written (variables, constraints, n, m, (more, copied)) = record {
  variables = variables;
  constraints = constraints;
  sized = (n, m);
  steps = [];
  spelled = tt;
  counted = none;
  taken = subst (Consumes old next) (ap (λ (t : List ℕ). first_line One ++ t) (sym (append-nil (second_line variables constraints)))) (Consumes-trans old left next (first_line One) (second_line variables constraints) taken more);
  written = subst (Appends before after) (ap (λ (t : List ℕ). first_line Two ++ t) (sym (append-nil (second_line variables constraints)))) (Appends-trans before now after (first_line Two) (second_line variables constraints) written copied);
}

pub lines_more : (steps : List Step) (step : Step) → lines_of (steps ++ step ∷ []) ≡ lines_of steps ++ step_line step
lines_more [] step = append-nil (step_line step)
lines_more (head ∷ steps) step = ap (λ (t : List ℕ). step_line head ++ t) (lines_more steps step) ∙ sym (append_assoc (step_line head) (lines_of steps) (step_line step))

pub all_more : (version : Version) (count : ℕ) (steps : List Step) (step : Step) → AllHaveLines version count steps → HasLine version (count + length steps) step → AllHaveLines version count (steps ++ step ∷ [])
all_more version count [] step h k = (subst (λ (n : ℕ). HasLine version n step) (omega arith) k, tt)
all_more version count (head ∷ steps) step h k = (h.0, all_more version (count + 1) steps step h.1 (subst (λ (n : ℕ). HasLine version n step) (omega arith) k))

-- a text behind the lines so far
behind : (a b lines text : List ℕ) → (a ++ (b ++ lines)) ++ text ≡ a ++ (b ++ (lines ++ text))
behind a b lines text = simp append_assoc

pub copied-step : (old left next before now after : Option (List ℕ)) (count : ℕ) → IsCopied old left before now count → CopiesStep count left next now after → IsCopied old next before after (count + 1)
copied-step old left next before now after count so_far (step, has, (more, copied)) =
    let counts = second_line so_far.variables so_far.constraints in
    let lines = lines_of so_far.steps in
    let joined : (version : List ℕ) → (version ++ (counts ++ lines)) ++ step_line step ≡ version ++ (counts ++ lines_of (so_far.steps ++ step ∷ [])) =
    λ version. behind version counts lines (step_line step) ∙ ap (λ (t : List ℕ). version ++ (counts ++ t)) (sym (lines_more so_far.steps step)) in
    record {
      variables = so_far.variables;
      constraints = so_far.constraints;
      sized = so_far.sized;
      steps = so_far.steps ++ step ∷ [];
      spelled = all_more One 0 so_far.steps step so_far.spelled (subst (λ (n : ℕ). HasLine One n step) (omega (arith, so_far.counted)) has);
      counted = omega (arith, so_far.counted, length-append so_far.steps (step ∷ []));
      taken = subst (Consumes old next) (joined (first_line One)) (Consumes-trans old left next (first_line One ++ (counts ++ lines)) (step_line step) so_far.taken more);
      written = subst (Appends before after) (joined (first_line Two)) (Appends-trans before now after (first_line Two ++ (counts ++ lines)) (step_line step) so_far.written copied);
    }

-- after the last line
pub rewritten : (old left next before now after : Option (List ℕ)) (count : ℕ) → IsCopied old left before now count → CopiesEnd left next now after → IsRewritten old before after count
rewritten old left next before now after count so_far (closed, (more, copied), at_end) =
    let counts = second_line so_far.variables so_far.constraints in
    let lines = lines_of so_far.steps in
    let body = counts ++ (lines ++ end_line closed) in
    let joined : (version : List ℕ) → (version ++ (counts ++ lines)) ++ end_line closed ≡ version ++ body = λ version. behind version counts lines (end_line closed) in
    record {
      rest = body;
      spelled = record { variables = so_far.variables; constraints = so_far.constraints; sized = so_far.sized; steps = so_far.steps; closed = closed; spelled = so_far.spelled; counted = so_far.counted; text = refl };
      text = Consumes-whole old next (first_line One ++ body) (λ (bytes : List ℕ). bytes ≡ first_line One ++ body)
          (subst (Consumes old next) (joined (first_line One)) (Consumes-trans old left next (first_line One ++ (counts ++ lines)) (end_line closed) so_far.taken more)) at_end refl;
      written = subst (Appends before after) (joined (first_line Two)) (Appends-trans before now after (first_line Two ++ (counts ++ lines)) (end_line closed) so_far.written copied);
      same_verdict = same_verdict so_far.variables so_far.constraints so_far.steps closed body so_far.sized.0 so_far.sized.1 so_far.spelled refl;
    }

-- ---- what stands after a fault

-- what was put on the writer for the bytes that were taken is a beginning of what stands for all of them
pub begins-front : (old left before after : Option (List ℕ)) (text : List ℕ) → Consumes old left (first_line One ++ text) → AppendsFront before after (first_line Two ++ text) → IsRewriteBegun old before after
begins-front None left before after text taken front = some_of (None, tt, tt)
begins-front (Some bytes) None before after text taken front = absurd taken
begins-front (Some bytes) (Some rest) before after text taken front =
    some_of (
      Some (text ++ rest),
      taken ∙ append_assoc (first_line One) text rest,
      subst (AppendsFront before after) (append_assoc (first_line Two) text rest) (front-left before after (first_line Two ++ text) rest front),
    )

-- a text that stands whole is a beginning of itself
whole-front : (a b : Option (List ℕ)) (x : List ℕ) → Appends a b x → AppendsFront a b x
whole-front a b x h = subst (AppendsFront a b) (append-nil x) (front-then a b b x [] h (0, omega arith, nil b))
  where
    nil : (o : Option (List ℕ)) → Appends o o []
    nil None = tt
    nil (Some p) = sym (append-nil p)

module _ (old left before now after : Option (List ℕ)) (text : List ℕ) (taken : Consumes old left (first_line One ++ text)) (written : Appends before now (first_line Two ++ text)) where
  begins-kept : Keeps now after → IsRewriteBegun old before after
  begins-kept kept = begins-front old left before after text taken (whole-front before after (first_line Two ++ text) (Appends-kept before now after (first_line Two ++ text) written kept))

  begins-more : (more : List ℕ) → After left more (λ _. Unit {0}) → AppendsFront now after more → IsRewriteBegun old before after
  begins-more more (rest, consumed, _) front =
      begins-front old rest before after (text ++ more)
      (subst (Consumes old rest) (append_assoc (first_line One) text more) (Consumes-trans old left rest (first_line One ++ text) more taken consumed))
      (subst (AppendsFront before after) (append_assoc (first_line Two) text more) (front-then before now after (first_line Two ++ text) more written front))

  -- a fault of copying a line is one of the whole
  pub copy-fault : (IsWrong : ℕ → Refusal → Type 0) (fault : CheckFault) → ((line : ℕ) (refusal : Refusal) → IsWrong line refusal → IsFaulty old line refusal) → IsCopyFault IsWrong left now after fault → IsRewriteFault old before after fault
  copy-fault IsWrong (Refused line refusal) faulty (wrong, kept) = (faulty line refusal wrong, begins-kept kept)
  copy-fault IsWrong Memory faulty kept = begins-kept kept
  copy-fault IsWrong Read faulty kept = begins-kept kept
  copy-fault IsWrong WriteCert faulty (more, begins, front) = begins-more more begins front
  copy-fault IsWrong NotVersionOne faulty f = absurd f
  copy-fault IsWrong WriteOutput faulty f = absurd f
  copy-fault IsWrong (File fault) faulty f = absurd f

-- in the first line
pub first-rewrite_fault : (old before : Option (List ℕ)) (fault : CheckFault) → IsFirstLineFault old fault → IsRewriteFault old before before fault
first-rewrite_fault old before (Refused line refusal) (at, f) = (first at f, nothing (Keeps-refl before))
first-rewrite_fault old before NotVersionOne f = (f, Keeps-refl before)
first-rewrite_fault old before Memory f = nothing (Keeps-refl before)
first-rewrite_fault old before Read f = nothing (Keeps-refl before)
first-rewrite_fault old before WriteCert f = absurd f
first-rewrite_fault old before WriteOutput f = absurd f
first-rewrite_fault old before (File fault) f = absurd f

-- in the second
pub second-rewrite_fault : (old left before now after : Option (List ℕ)) (fault : CheckFault) → Consumes old left (first_line One) → Appends before now (first_line Two) → IsCountsCopyFault left now after fault → IsRewriteFault old before after fault
second-rewrite_fault old left before now after fault taken written f =
    copy-fault old left before now after [] taken written (λ line refusal. (line ≡ 2) × IsCountsFault left refusal) fault
    (λ line refusal wrong. second wrong.0 (left, taken, wrong.1)) f

-- in a later one
pub later-rewrite_fault : (old left before now after : Option (List ℕ)) (count : ℕ) (fault : CheckFault) → IsCopied old left before now count → IsLineCopyFault count left now after fault → IsRewriteFault old before after fault
later-rewrite_fault old left before now after count fault so_far f =
    let text = second_line so_far.variables so_far.constraints ++ lines_of so_far.steps in
    copy-fault old left before now after text so_far.taken so_far.written (λ line refusal. (line ≡ line_after count refusal) × IsStepLineFault count left refusal) fault
    (λ line refusal wrong. later so_far.variables so_far.constraints so_far.steps so_far.sized.0 so_far.sized.1 so_far.spelled
    (subst (λ (n : ℕ). line ≡ line_after n refusal) so_far.counted wrong.0)
    (left, so_far.taken, subst (λ (n : ℕ). IsStepLineFault n left refusal) so_far.counted wrong.1)) f

-- ---- a line that could not be written

pub put-fault : (IsWrong : ℕ → Refusal → Type 0) (left before after : Option (List ℕ)) (text : List ℕ) (fault : CheckFault) → BeginsWith left text → (fault ≡ WriteCert) × AppendsFront before after text → IsCopyFault IsWrong left before after fault
put-fault IsWrong left before after text fault begins (is, front) = subst (IsCopyFault IsWrong left before after) (sym is) (text, begins, front)

pub put-faults : {A : Type 0} (IsWrong : ℕ → Refusal → Type 0) (left before after : Option (List ℕ)) (text : List ℕ) (result : Result A CheckFault) → BeginsWith left text → IfErr result (λ fault. (fault ≡ WriteCert) × AppendsFront before after text) → IfErr result (IsCopyFault IsWrong left before after)
put-faults IsWrong left before after text (Ok value) begins told = tt
put-faults IsWrong left before after text (Err fault) begins told = put-fault IsWrong left before after text fault begins told

-- a call that did not fail put its text
pub put-done : {A E : Type 0} (a b : Option (List ℕ)) (result : Result A E) (text : List ℕ) → is_err result ≡ false → Puts a b result text → Appends a b text
put-done a b (Ok value) text none puts = puts
put-done a b (Err e) text none puts = absurd cc

-- one that failed put a beginning of it
pub put-failed : {A E : Type 0} (a b : Option (List ℕ)) (result : Result A E) (text : List ℕ) → is_err result ≡ true → Puts a b result text → AppendsFront a b text
put-failed a b (Ok value) text some puts = absurd cc
put-failed a b (Err e) text some puts = puts

-- the first line could not be written
pub first-write_fault : (old left before after : Option (List ℕ)) (fault : CheckFault) → Consumes old left (first_line One) → (fault ≡ WriteCert) × AppendsFront before after (first_line Two) → IsRewriteFault old before after fault
first-write_fault old left before after fault taken (is, front) = subst (IsRewriteFault old before after) (sym is) (begins-front old left before after [] taken front)

-- the same of streams with the same bytes
pub rewrite_fault-same : {A : Type 0} (result : Result A CheckFault) (old left before begun after now : Option (List ℕ)) → old ≡ left → before ≡ begun → after ≡ now → IfErr result (IsRewriteFault old before after) → IfErr result (IsRewriteFault left begun now)
rewrite_fault-same result old left before begun after now same_old same_before same_after fault =
    subst (λ o. IfErr result (IsRewriteFault o begun now)) same_old (subst (λ o. IfErr result (IsRewriteFault old o now)) same_before
    (subst (λ o. IfErr result (IsRewriteFault old before o)) same_after fault))

-- ---- the last line, and a flush after it

pub rewritten-kept : (old left next before now after final : Option (List ℕ)) (count steps : ℕ) → IsCopied old left before now count → CopiesEnd left next now after → Keeps after final → steps ≡ count → IsRewritten old before final steps
rewritten-kept old left next before now after final count steps so_far end kept same =
    subst (λ (n : ℕ). IsRewritten old before final n) (sym same)
    (rewritten old left next before now final count so_far (end.0, (end.1.0, Appends-kept now after final (end_line end.0) end.1.1 kept), end.2))

pub end-begins : (old left next before now after final : Option (List ℕ)) (count : ℕ) → IsCopied old left before now count → CopiesEnd left next now after → Keeps after final → IsRewriteBegun old before final
end-begins old left next before now after final count so_far end kept =
    begins-more old left before now final (second_line so_far.variables so_far.constraints ++ lines_of so_far.steps) so_far.taken so_far.written (end_line end.0) (next, end.1.0, tt)
    (whole-front now final (end_line end.0) (Appends-kept now after final (end_line end.0) end.1.1 kept))

pub on_true : (b : Bool) (P : Type 0) → b ≡ true → OnTrue b P → P
on_true b P is h = subst (λ (x : Bool). OnTrue x P) is h

pub on_false : (b : Bool) (P : Type 0) → b ≡ false → OnFalse b P → P
on_false b P is h = subst (λ (x : Bool). OnFalse x P) is h
