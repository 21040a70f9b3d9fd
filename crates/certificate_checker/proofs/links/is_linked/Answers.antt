use Rattle.std.proofs.Common.{rules, IsTrue, false, ◌≡◌, ◌↔◌, ◌∙◌, sym, subst, ℕ}
use Rattle.plane.specs.Faces.Halves.{half_of}
use Rattle.certificate.specs.declared.notes.Link.TheVariants as link
use Rattle.certificate_checker.specs.Cases.{judged}
use Rattle.certificate_checker.specs.Rules.{FallsTo}
use Rattle.certificate_checker.proofs.Linking.{linked_by, next_leads, not_across, prev_leads}
use Rattle.certificate_checker.proofs.Linking.{root_leads}
use Rattle.certificate_checker.proofs.ListParts.{refused, unfit}
use Rattle.certificate_checker.proofs.links.is_linked.Goals as goal

pub returns-in-Root : goal.returns-in-Root
returns-in-Root c =
    linked_by (judged c.args.case.now) c.args.h link.Root c.is_root.result (sym c.link_at.ensures
    ∙ c.in-Root.is)
    (root_leads (judged c.args.case.now) c.args.mesh.now c.args.border.now c.args.across.now
    c.args.point.now c.requires.ended c.args.h c.requires.half c.is_root.result
    c.is_root.ensures)

pub returns-in-Next : goal.returns-in-Next
returns-in-Next c =
    linked_by (judged c.args.case.now) c.args.h link.Next c.falls-in-Next.result
    (sym c.link_at.ensures ∙ c.in-Next.is)
    (next_leads (judged c.args.case.now) c.args.mesh.now c.args.border.now c.args.across.now
    c.args.point.now c.requires.ended c.args.h c.requires.half c.falls-in-Next.result
    (subst (λ (g : ℕ). IsTrue c.falls-in-Next.result
    ↔ FallsTo (judged c.args.case.now) (half_of c.args.h) (half_of g)) (c.falls.view_is
    ∙ c.next.ensures) c.falls-in-Next.ensures))

pub returns-in-Prev : goal.returns-in-Prev
returns-in-Prev c =
    linked_by (judged c.args.case.now) c.args.h link.Prev c.falls-in-Prev-2.result
    (sym c.link_at.ensures ∙ c.in-Prev.is)
    (prev_leads (judged c.args.case.now) c.args.mesh.now c.args.border.now c.args.across.now
    c.args.point.now c.requires.ended c.args.h c.requires.half c.requires.mesh
    c.falls-in-Prev-2.result
    (subst (λ (g : ℕ). IsTrue c.falls-in-Prev-2.result
    ↔ FallsTo (judged c.args.case.now) (half_of c.args.h) (half_of g)) (c.falls-in-Prev.view_is
    ∙ c.prev.ensures) c.falls-in-Prev-2.ensures))

pub returns-then-not-is_marked : goal.returns-then-not-is_marked
returns-then-not-is_marked c =
    let m : c.is_marked.result ≡ false = search rules in
    linked_by (judged c.args.case.now) c.args.h (link.Across c.in-Across.g) false
    (sym c.link_at.ensures ∙ c.in-Across.is)
    (refused (not_across (judged c.args.case.now) c.args.mesh.now c.args.border.now
    c.args.across.now c.args.point.now c.requires.ended c.args.h c.requires.half c.in-Across.g
    (sym c.link_at.ensures ∙ c.in-Across.is) (unfit c.is_marked.result c.is_marked.ensures m)))
