use Rattle.std.proofs.Common.{◌≡◌, ℕ, ◌<◌, List, length, map, arith, sym, subst, ap, ◌∙◌}
use Rattle.std.proofs.lemmas.List.{length-map}
use Rattle.certificate.specs.Spelling.{view, views}
use Rattle.certificate.specs.declared.notes.Certificate.{Certificate}
use Rattle.certificate_checker.specs.Verdicts.{IsVerdictBy}
use Rattle.plane.specs.Rule.Plans.{plan}
use Rattle.table_layout.specs.Values.{layout_view}
use Rattle.reports.specs.AreaKinds.{plans}
use Rattle.delivery.specs.AreaCertificates.{claims_of}
use Rattle.delivery.specs.Verifying.{IsProvedAt}
use Rattle.delivery.proofs.VerifyingLemmas.{broken_here, levels_more, levels_view, one_further}
use Rattle.delivery.proofs.VerifyingLemmas.{proved_here, small_at, whole_take}
use Rattle.delivery.proofs.verifying.check_all.Goals as goal

pub check_one-requires-clause-small : goal.check_one-requires-clause-small
check_one-requires-clause-small c =
    small_at c.args.drawings.now c.loop-number.number c.index-drawings-number.result
    c.requires.small
    (subst (λ (n : ℕ). c.loop-number.number < n) (sym c.requires.count) c.loop-number-test.true)
    c.index-drawings-number.is

pub returns-in-NotProved : goal.returns-in-NotProved
returns-in-NotProved c =
    let d = c.index-drawings-number.result in
    let x = c.index-certificates-number.result in
    broken_here (layout_view c.args.layout.now) c.args.drawings.now c.args.certificates.now
    c.loop-number.number d x c.requires.tolerances
    (subst (λ (n : ℕ). c.loop-number.number < n) (sym c.requires.count) c.loop-number-test.true)
    c.index-drawings-number.is c.loop-number-test.true c.index-certificates-number.is
    c.in-NotProved.rule c.in-NotProved.place c.loop-number.invariant.proved
    (subst (IsVerdictBy d.tolerance (plan d) x.bent (claims_of (view x))) c.in-NotProved.is
    c.in_ok-check_one.ensures)

pub loop-number-preserved : goal.loop-number-preserved
loop-number-preserved c =
    let l = layout_view c.args.layout.now in
    let d = c.index-drawings-number.result in
    let x = c.index-certificates-number.result in
    record {
      levels =
          levels_more c.args.certificates.now c.loop-number.number
          c.index-certificates-number-in-Proved.result c.loop-number.levels.items
          c.push.new.self.items c.loop-number-test.true c.in_ok-push-in-Proved.ensures.items
          c.loop-number.invariant.levels;
      proved =
          one_further (IsProvedAt l (plans c.args.drawings.now) (views c.args.certificates.now))
          c.loop-number.number c.loop-number.invariant.proved
          (proved_here l c.args.drawings.now c.args.certificates.now c.loop-number.number d x
          c.requires.tolerances
          (subst (λ (n : ℕ). c.loop-number.number < n) (sym c.requires.count)
          c.loop-number-test.true) c.index-drawings-number.is c.loop-number-test.true
          c.index-certificates-number.is
          (subst (IsVerdictBy d.tolerance (plan d) x.bent (claims_of (view x))) c.in-Proved.is
          c.in_ok-check_one.ensures));
    }

pub returns : goal.returns
returns c =
    let f = c.loop-number-test.false in
    let g = c.loop-number.auto.number-end in
    let e : c.loop-number.number ≡ length c.args.certificates.now = omega (arith, f, g) in
    let m = length-map c.args.certificates.now view in (
      c.loop-number.invariant.levels
          ∙ ap (λ (cs : List Certificate). map (λ x. x.level) cs)
          (whole_take c.args.certificates.now c.loop-number.number e)
          ∙ levels_view c.args.certificates.now,
      λ k w. c.loop-number.invariant.proved k (omega (arith, w, e, m)),
    )
