use Rattle.std.proofs.Common.{arith, ◌≡◌, ℕ, Some, None, true, false, decimal, sym, ap, ◌∙◌}
use Rattle.std.proofs.lemmas.Slice.Eq.{bytes_eq-Decides}
use Rattle.commands.proofs.TrialSizes.{spelled_size}
use Rattle.commands.proofs.trial.size_of.Goals as goal
use Rattle.commands.proofs.trial.size_of.Goals.{else-size-ge1-via-then-size-ge1+then-size-le500+else-eq}
use Rattle.commands.proofs.trial.size_of.Goals.{else-size-ge1-via-then-size-ge1+else-size-le500}
use Rattle.commands.proofs.trial.size_of.Goals.{else-size-ge1-via-else-size-ge1}

pub returns-in_err-size-clause-none : goal.returns-in_err-size-clause-none
returns-in_err-size-clause-none c =
    rw c.from_residual.ensures (λ (n : ℕ) h.
    let e : None ≡ Some n = sym c.in_err-size.was
    ∙ spelled_size c.args.word.now n c.parse.result c.ok.result c.parse.ensures.value.0
    c.ok.ensures.value h in
    cc)

pub returns-else-size-ge1-clause-none : goal.returns-else-size-ge1-clause-none
returns-else-size-ge1-clause-none c n h =
    let e : Some c.in_ok-size.size ≡ Some n = sym c.in_ok-size.was
    ∙ spelled_size c.args.word.now n c.parse.result c.ok.result c.parse.ensures.value.0
    c.ok.ensures.value h in
    let s : c.in_ok-size.size ≡ n = cc in
    elim c.else-size-ge1.branch [
      | else-size-ge1-via-then-size-ge1+then-size-le500+else-eq w ↦
          let a : w.format.result.now ≡ c.args.word.now = w.format.ensures.text ∙ ap decimal s
          ∙ sym h.spelled in
          let t : true ≡ false = sym ((bytes_eq-Decides w.format.result.now c.args.word.now).1 a)
          ∙ sym w.eq.ensures ∙ w.if-eq.false in
          cc
      | else-size-ge1-via-then-size-ge1+else-size-le500 w ↦ absurd
          (omega (arith, s, h.most, w.if-size-le500.false))
      | else-size-ge1-via-else-size-ge1 w ↦ absurd (omega (arith, s, h.least, w.if-size-ge1.false))
    ]
