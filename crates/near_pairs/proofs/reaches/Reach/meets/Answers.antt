use Rattle.std.proofs.Common.{rules, IsTrue, FitsSigned, w64, to_z-of_z, refl, sym, ◌∙◌}
use Rattle.near_pairs.specs.Boxes.{box_of}
use Rattle.near_pairs.proofs.Meeting.{clash, shared_numbers, shared_place}
use Rattle.near_pairs.proofs.reaches.Reach.meets.Goals as goal

pub returns-then-share_a_number : goal.returns-then-share_a_number
returns-then-share_a_number c =
    let a : FitsSigned w64 c.args.self.now.low.x = search rules in
    let b : FitsSigned w64 c.args.self.now.high.x = search rules in
    let d : FitsSigned w64 c.args.other.now.low.x = search rules in
    let e : FitsSigned w64 c.args.other.now.high.x = search rules in
    let x = simp to_z-of_z at c.if-share_a_number.ensures in
    let f : FitsSigned w64 c.args.self.now.low.y = search rules in
    let g : FitsSigned w64 c.args.self.now.high.y = search rules in
    let h : FitsSigned w64 c.args.other.now.low.y = search rules in
    let i : FitsSigned w64 c.args.other.now.high.y = search rules in
    let y = simp to_z-of_z at c.share_a_number-then-share_a_number.ensures in (
      λ t. shared_place (box_of c.args.self.now) (box_of c.args.other.now) (x.0 refl) (y.0 t),
      λ s. y.1 (shared_numbers (box_of c.args.self.now) (box_of c.args.other.now) s).1,
    )

pub returns-else-share_a_number : goal.returns-else-share_a_number
returns-else-share_a_number c =
    let a : FitsSigned w64 c.args.self.now.low.x = search rules in
    let b : FitsSigned w64 c.args.self.now.high.x = search rules in
    let d : FitsSigned w64 c.args.other.now.low.x = search rules in
    let e : FitsSigned w64 c.args.other.now.high.x = search rules in
    let x = simp to_z-of_z at c.share_a_number.ensures in
    let no : IsTrue c.share_a_number.result → ⊥ = λ t. clash (sym c.if-share_a_number.false ∙ t) in (
      λ t. absurd (no t),
      λ s. x.1 (shared_numbers (box_of c.args.self.now) (box_of c.args.other.now) s).0,
    )
