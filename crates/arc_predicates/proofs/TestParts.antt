-- What a test that is cut short says of both its parts.
use Rattle.std.proofs.Common.{◌≡◌, ◌↔◌, Bool, true, false, IsTrue}

pub both_of : (A B N : Type 0) (b : Bool) → (IsTrue b ↔ B) → A → ((A × B) ↔ N) → IsTrue b ↔ N
both_of A B N b h a n = ((λ t. n.0 (a, h.0 t)), (λ k. h.1 (n.1 k).1))

pub none_of : (A B N : Type 0) (b : Bool) → (IsTrue b ↔ A) → b ≡ false → ((A × B) ↔ N)
    → IsTrue b ↔ N
none_of A B N true h e n = cc
none_of A B N false h e n = ((λ t. cc), (λ k. h.1 (n.1 k).0))

pub refuted : (A : Type 0) (b : Bool) → (IsTrue b ↔ A) → b ≡ false → A → ⊥
refuted A true h e a = cc
refuted A false h e a = cc_of (h.1 a)
  where
    cc_of : IsTrue false → ⊥
    cc_of t = cc
