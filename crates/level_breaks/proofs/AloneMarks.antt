-- Curves that are marked as alone break a level with no other one.
use Rattle.std.proofs.Common.{◌≡◌, ◌⊎◌, inl, inr, ◌↔◌, ℕ, ◌<◌, Bool, true, false, IsTrue, List, []}
use Rattle.std.proofs.Common.{length, ap, sym, ◌∙◌}
use Rattle.near_pairs.specs.Boxes.{IsOneMarked, mark_of}
use Rattle.plane.specs.Rule.Plans.{Plan}
use Rattle.tubes.specs.Settled.{Breaks}
use Rattle.level_breaks.specs.LevelLists.{AreAlone}

not_both : false ≡ true → ⊥
not_both e = cc

no_truth : IsTrue false → ⊥
no_truth t = cc

pub none_are_alone : (d : Plan) (level : ℕ → ℕ) (marks : List Bool) → marks ≡ []
    → AreAlone d level marks
none_are_alone d level marks e i j l m b =
    (ap (λ (ms : List Bool). mark_of ms i) e, ap (λ (ms : List Bool). mark_of ms j) e)

-- the test of a pair with such a curve says no
module _ (d : Plan) (level : ℕ → ℕ) (i j : ℕ) (marks : List Bool) (l : i < j) (m : j < length d.curves)
    (a : AreAlone d level marks) where
  alone_breaks_none : IsOneMarked marks i j → Breaks d level i j → ⊥
  alone_breaks_none (inl e) b = not_both (sym (a i j l m b).0 ∙ e)
  alone_breaks_none (inr e) b = not_both (sym (a i j l m b).1 ∙ e)

  pub alone_is_sought : IsOneMarked marks i j → IsTrue false ↔ Breaks d level i j
  alone_is_sought o = ((λ f. absurd (no_truth f)), (λ b. absurd (alone_breaks_none o b)))
