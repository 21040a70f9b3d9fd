-- Areas of one kind.
use Rattle.std.proofs.Common.{◌≡◌, ◌<◌, ◌≤◌, ◌+◌, ℕ, zero, suc, Bool, true, false, ◌||◌, List, []}
use Rattle.std.proofs.Common.{◌∷◌, length, get_or, drop, add-one, refl, sym, ap, ◌∙◌, arith}
use Rattle.std.specs.List.{list_any}
use Rattle.itffaults.specs.FaultText.Text.{Telling, telling_of, tellings}
use Rattle.itffaults.specs.declared.fault_text.kinds.AreaTelling.{AreaTelling}

or_true : (b c : Bool) → c ≡ true → (b || c) ≡ true
or_true true c h = refl
or_true false c h = h

-- an area that passes the test is found
pub some_area : (p : Telling → Bool) (ts : List AreaTelling) (i : ℕ) (x y : AreaTelling)
    → i < length ts → x ≡ get_or ts i y → p (telling_of x) ≡ true → list_any p (tellings ts) ≡ true
some_area p [] i x y l e h = absurd (omega arith)
some_area p (z ∷ ts) zero x y l e h =
    ap (λ (b : Bool). b || list_any p (tellings ts))
    (ap (λ (w : AreaTelling). p (telling_of w)) (sym e) ∙ h)
some_area p (z ∷ ts) (suc i) x y l e h =
    or_true (p (telling_of z)) (list_any p (tellings ts)) (some_area p ts i x y (omega arith) e h)

-- no area is left
pub none_left : (p : Telling → Bool) (ts : List AreaTelling) (i : ℕ) → length ts ≤ i
    → false ≡ list_any p (tellings (drop i ts))
none_left p [] zero l = refl
none_left p [] (suc i) l = refl
none_left p (z ∷ ts) zero l = absurd (omega arith)
none_left p (z ∷ ts) (suc i) l = none_left p ts i (omega arith)

-- an area that does not pass the test is passed over
pub pass_over : (p : Telling → Bool) (ts : List AreaTelling) (i : ℕ) (x y : AreaTelling)
    → i < length ts → x ≡ get_or ts i y → p (telling_of x) ≡ false
    → list_any p (tellings (drop (i + 1) ts)) ≡ list_any p (tellings (drop i ts))
pass_over p [] i x y l e h = absurd (omega arith)
pass_over p (z ∷ ts) zero x y l e h =
    ap (λ (b : Bool). b || list_any p (tellings ts))
    (sym (ap (λ (w : AreaTelling). p (telling_of w)) (sym e) ∙ h))
pass_over p (z ∷ ts) (suc i) x y l e h =
    ap (λ (n : ℕ). list_any p (tellings (drop n (z ∷ ts)))) (add-one (suc i))
    ∙ ap (λ (n : ℕ). list_any p (tellings (drop n ts))) (sym (add-one i))
    ∙ pass_over p ts i x y (omega arith) e h
