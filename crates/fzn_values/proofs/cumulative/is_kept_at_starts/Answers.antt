use Rattle.std.proofs.Common.{◌≡◌, ◌+◌, ◌*◌, ℕ, List, take, drop, ap, sym, subst, subst₂, ◌≤ℤ◌, ℤ, ◌∙◌, rules, arith}
use Rattle.std.specs.List.{All}
use Rattle.std.proofs.lemmas.Int.{to_z-of_z}
use Rattle.std.proofs.lemmas.List.{take_all, length-take}
use Rattle.std.proofs.lemmas.List.Elements.{All-append, All-take, All-drop}
use Rattle.std.proofs.Math.Seq.{take-add}
use Rattle.fzn_values.specs.Cumulative.{Task, tasks, load_at}
use Rattle.fzn_values.proofs.cumulative.is_kept_at_starts.Goals as goal
use mir.Syntax.{w64}
use mir.Val.{to_z, of_z}

-- the load is within b at each of these times
abbrev AreKept : List Task → ℤ → List ℤ → Type 0
AreKept chosen b times = All (λ t. load_at t chosen ≤ℤ b) times

AreKept-take-add : (chosen : List Task) (b : ℤ) (m n k : ℕ) (xs : List ℤ) → m + n ≡ k → AreKept chosen b (take m xs) → AreKept chosen b (take n (drop m xs)) → AreKept chosen b (take k xs)
AreKept-take-add chosen b m n k xs e front block =
    subst (λ i. AreKept chosen b (take i xs)) e
    (subst (AreKept chosen b) (sym (take-add m n xs)) (All-append (λ t. load_at t chosen ≤ℤ b) (take m xs) (take n (drop m xs)) front block))

AreKept-block : (chosen : List Task) (b : ℤ) (m n : ℕ) (xs : List ℤ) → AreKept chosen b xs → AreKept chosen b (take n (drop m xs))
AreKept-block chosen b m n xs h = All-take (λ t. load_at t chosen ≤ℤ b) n (drop m xs) (All-drop (λ t. load_at t chosen ≤ℤ b) m xs h)

pub is_kept_by_profile-requires-clause-block : goal.is_kept_by_profile-requires-clause-block
is_kept_by_profile-requires-clause-block c = rw c.first_block-times.ensures (simp length-take (omega arith))

-- a start of this block at which the load is too great is a start of all
pub returns-then-not-is_kept_by_profile : goal.returns-then-not-is_kept_by_profile
returns-then-not-is_kept_by_profile c =
    let chosen : List Task = tasks c.args.starts.now c.args.durations.now c.args.uses.now in
    let same = to_z-of_z w64 c.args.capacity c.ranges.capacity in
    let is = c.first_block-times.ensures ∙ ap (take 8192) c.from.ensures in (
      (λ y. absurd (cc y)),
      (λ h. absurd (cc (c.is_kept_by_profile.ensures.1 (subst₂ (AreKept chosen) (sym same) (sym is) (AreKept-block chosen c.args.capacity (c.loop-block.block * 8192) 8192 c.args.starts.now h)), c.if-not-is_kept_by_profile.true))),
    )

-- one more block
pub loop-block-preserved : goal.loop-block-preserved
loop-block-preserved c =
    let chosen : List Task = tasks c.args.starts.now c.args.durations.now c.args.uses.now in
    let is = c.first_block-times.ensures ∙ ap (take 8192) c.from.ensures in
    AreKept-take-add chosen (to_z w64 (of_z w64 c.args.capacity)) (c.loop-block.block * 8192) 8192 ((c.loop-block.block + 1) * 8192) c.args.starts.now (omega arith) c.loop-block.invariant
    (subst (AreKept chosen (to_z w64 (of_z w64 c.args.capacity))) is (c.is_kept_by_profile.ensures.0 c.if-not-is_kept_by_profile.false))

-- the blocks are all the starts
pub returns : goal.returns
returns c =
    let same = to_z-of_z w64 c.args.capacity c.ranges.capacity in (
      (λ y. subst₂ (AreKept (tasks c.args.starts.now c.args.durations.now c.args.uses.now)) same (take_all (c.loop-block.block * 8192) c.args.starts.now (omega arith)) c.loop-block.invariant),
      (λ h. search rules),
    )
