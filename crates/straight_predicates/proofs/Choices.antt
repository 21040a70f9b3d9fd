-- A test after another one that failed.
use Rattle.std.proofs.Common.{◌≡◌, ◌↔◌, ◌⊎◌, inl, inr, Bool, true, false, IsTrue, sym, ◌∙◌}
use Rattle.std.specs.Bool.{Decides}

pub differ : {P : Type 0} → true ≡ false → P
differ e = cc

pub or_else : (A B : Type 0) (r s : Bool) → Decides r A → r ≡ false → Decides s B
    → Decides s (A ⊎ B)
or_else A B r s d f e = (
  (λ h. inr (e.0 h)),
  (λ h. elim h [ inl a ↦ differ (sym (d.1 a) ∙ f) | inr b ↦ e.1 b ]),
)

pub refuted : (A : Type 0) (r : Bool) → Decides r A → r ≡ false → A → ⊥
refuted A r d f a = differ (sym (d.1 a) ∙ f)

-- ---- both
pub both_of : (A B : Type 0) (r : Bool) → (IsTrue r ↔ B) → A → IsTrue r ↔ (A × B)
both_of A B r h a = (λ t. (a, h.0 t), λ p. h.1 p.1)

pub none_of : (A B : Type 0) (r : Bool) → (IsTrue r ↔ A) → r ≡ false → IsTrue r ↔ (A × B)
none_of A B r h f = (λ t. differ (sym t ∙ f), λ p. h.1 p.0)
