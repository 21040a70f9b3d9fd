use Rattle.std.proofs.Common.{rules, arith, ◌∙◌, ◌≡◌, IsTrue, false, sym, subst, ℕ}
use Rattle.plane.specs.Faces.Halves.{half_of}
use Rattle.tubes.specs.TubedEdges.{owner_as}
use Rattle.certificate_checker.specs.Cases.{judged}
use Rattle.certificate_checker.specs.Subjects.{owned_of}
use Rattle.certificate_checker.proofs.ChainSides.{across_is, facing_half, half_there, on_chain}
use Rattle.certificate_checker.proofs.ListParts.{refused, unfit}
use Rattle.certificate_checker.proofs.chains.lies_outside.Goals as goal

pub owner_of-requires-clause-edge : goal.owner_of-requires-clause-edge
owner_of-requires-clause-edge c =
    let a = half_there c.args.case.now c.requires.fit c.args.h c.requires.half in
    let e = c.edge_of-edge.ensures in
    omega (arith, a, e)

pub returns-then-not-is_on_chain : goal.returns-then-not-is_on_chain
returns-then-not-is_on_chain c =
    let s = judged c.args.case.now in
    let h : c.is_on_chain.result ≡ false = search rules in
    let o = subst (λ (e : ℕ). c.owner_of.result ≡ owner_as (owned_of s e)) c.edge_of-edge.ensures
    c.owner_of.ensures in
    let x = on_chain (owned_of s _) c.owner_of.result c.args.curve c.args.inside o in
    refused (λ y. unfit c.is_on_chain.result c.is_on_chain.ensures h (x.1 (y.of_curve, y.part)))

pub returns : goal.returns
returns c =
    let s = judged c.args.case.now in
    let h : IsTrue c.is_on_chain.result = search rules in
    let o = subst (λ (e : ℕ). c.owner_of.result ≡ owner_as (owned_of s e)) c.edge_of-edge.ensures
    c.owner_of.ensures in
    let q = (on_chain (owned_of s _) c.owner_of.result c.args.curve c.args.inside o).0
    (c.is_on_chain.ensures.0 h) in
    let x = across_is c.args.case.now c.requires.fit (half_of c.args.h) _
    (facing_half c.args.case.now c.requires.fit c.args.h c.edge_of-edge.result _ c.requires.half
    c.edge_of-edge.ensures) c.args.curve c.args.inside q.0 q.1 in (
      (λ t. x.0 (c.are_same.ensures.0 t ∙ c.side_across.ensures)),
      (λ y. c.are_same.ensures.1 (x.1 y ∙ sym c.side_across.ensures)),
    )
