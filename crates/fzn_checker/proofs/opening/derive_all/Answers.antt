use Rattle.std.proofs.Common.{◌≡◌, ℕ, ◌+◌, refl, subst, ◌∙◌, arith}
use Rattle.fzn_cert_reader.specs.Reader.{progress}
use Rattle.fzn_head.specs.Outcome.{HeadVerdict}
use Rattle.fzn_checker.specs.Checked.{IsFaultWhere}
use Rattle.fzn_checker.proofs.AnswerLaws.{error-is}
use Rattle.fzn_checker.proofs.OpeningLaws.{HasDerived, derived-more, extended-next, derived-formed, ready-next, in-head-next, few-terms, head-fault, head-sized, head-held, turned}
use Rattle.fzn_checker.proofs.opening.derive_all.Goals as goal

pub derive_next-requires-clause-model : goal.derive_next-requires-clause-model
derive_next-requires-clause-model g c =
    derived-formed c.args.model.now c.loop-place.model (progress g.C.Read.remaining c.args.cert.now).left (progress g.C.Read.remaining c.loop-place.cert).left c.loop-place.place c.args.holds c.loop-place.derivations.items c.requires.model c.loop-place.invariant.derived

pub loop-place-preserved : goal.loop-place-preserved
loop-place-preserved g c =
    let after = c.loop-place.model in
    let last = c.derive_next.new.model in
    let old = progress g.C.Read.remaining c.loop-place.cert in
    let new = progress g.C.Read.remaining c.derive_next.new.cert in
    let derivation = c.in_ok-derivation.derivation in
    let derives = c.in_ok-derivation.ensures.ok in
    record {
      inside = omega (arith, c.loop-place-test.true, c.loop-place.auto.place-end);
      derived = derived-more c.args.model.now after last (progress g.C.Read.remaining c.args.cert.now).left old new c.loop-place.place c.args.holds c.loop-place.derivations.items c.hold.new.derivations.items derivation c.loop-place.invariant.derived derives c.in_ok-hold.ensures;
      ready = ready-next after last old new derivation c.derive_next.new.extender derives c.derive_next.ensures.ready;
      most = c.derive_next.ensures.same_most ∙ c.loop-place.invariant.most;
      in_head = in-head-next after last old new derivation derives;
    }

pub turn_to_steps-requires-clause-sized : goal.turn_to_steps-requires-clause-sized
turn_to_steps-requires-clause-sized g c =
    let left = (progress g.C.Read.remaining c.args.cert.now).left in
    let rest = (progress g.C.Read.remaining c.loop-place.cert).left in
    let held = c.loop-place.derivations.items in
    let all : c.loop-place.place ≡ c.args.head.derived = omega (arith, c.loop-place.invariant.inside, c.loop-place-test.false, c.loop-place.auto.place-end) in
    head-sized c.args.model.now c.loop-place.model c.args.head left rest c.args.holds held c.len-2.result c.requires.model c.requires.fits
    (subst (λ (n : ℕ). HasDerived c.args.model.now c.loop-place.model left rest n c.args.holds held) all c.loop-place.invariant.derived) c.len-2.ensures

pub returns-clause-ok : goal.returns-clause-ok
returns-clause-ok g c =
    let old = progress g.C.Read.remaining c.args.cert.now in
    let now = progress g.C.Read.remaining c.loop-place.cert in
    let held = c.loop-place.derivations.items in
    let all : c.loop-place.place ≡ c.args.head.derived = omega (arith, c.loop-place.invariant.inside, c.loop-place-test.false, c.loop-place.auto.place-end) in
    turned c.args.model.now c.loop-place.model c.args.head old now (progress g.C.Read.remaining c.turn_to_steps.new.self) c.args.holds held c.len-2.result c.requires.model c.requires.fits
    (subst (λ (n : ℕ). HasDerived c.args.model.now c.loop-place.model old.left now.left n c.args.holds held) all c.loop-place.invariant.derived) c.len-2.ensures c.turn_to_steps.ensures
    (few-terms c.args.model.now c.loop-place.model c.loop-place.extender c.loop-place.invariant.most)

pub returns-clause-held : goal.returns-clause-held
returns-clause-held g c =
    let left = (progress g.C.Read.remaining c.args.cert.now).left in
    let rest = (progress g.C.Read.remaining c.loop-place.cert).left in
    let held = c.loop-place.derivations.items in
    let all : c.loop-place.place ≡ c.args.head.derived = omega (arith, c.loop-place.invariant.inside, c.loop-place-test.false, c.loop-place.auto.place-end) in
    head-held c.args.model.now c.loop-place.model c.args.head left rest c.args.holds held c.len-2.result c.requires.model c.requires.fits
    (subst (λ (n : ℕ). HasDerived c.args.model.now c.loop-place.model left rest n c.args.holds held) all c.loop-place.invariant.derived) c.len-2.ensures
    (few-terms c.args.model.now c.loop-place.model c.loop-place.extender c.loop-place.invariant.most)

pub returns-in_err-derivation-clause-err : goal.returns-in_err-derivation-clause-err
returns-in_err-derivation-clause-err g c =
    let model = c.args.model.now in
    let left = (progress g.C.Read.remaining c.args.cert.now).left in
    let fault = c.in_err-derivation.field-0.0 in
    error-is c.from_residual-in_err-derivation.result fault (IsFaultWhere (HeadVerdict model c.args.head.derived left)) c.from_residual-in_err-derivation.ensures.1
    (head-fault model c.loop-place.model c.loop-place.extender c.args.head.derived left (progress g.C.Read.remaining c.loop-place.cert).left c.loop-place.place (c.loop-place.place + 3) c.args.holds c.loop-place.derivations.items fault refl
    (omega (arith, c.loop-place-test.true, c.loop-place.auto.place-end)) c.loop-place.invariant.derived c.loop-place.invariant.most c.in_err-derivation.ensures.err)

pub returns-in_err-hold-clause-extended : goal.returns-in_err-hold-clause-extended
returns-in_err-hold-clause-extended g c =
    extended-next c.args.model.now c.loop-place.model c.derive_next.new.model (progress g.C.Read.remaining c.args.cert.now).left (progress g.C.Read.remaining c.loop-place.cert) (progress g.C.Read.remaining c.derive_next.new.cert) c.loop-place.place c.args.holds c.loop-place.derivations.items
    c.in_ok-derivation.derivation c.loop-place.invariant.derived c.in_ok-derivation.ensures.ok
