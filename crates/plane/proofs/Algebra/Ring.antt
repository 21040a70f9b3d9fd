-- Polynomial identities over the whole numbers, decided by computing: an expression is brought to
-- Horner form, and one
-- whose form has no coefficient but 0 is 0 at every value of its variables.
use Rattle.std.proofs.Common.{◌≡◌, ℕ, zero, suc, ℤ, pos, negsuc, ◌+ℤ◌, ◌*ℤ◌, ◌-ℤ◌, ap, sym, ◌∙◌}
use Rattle.std.proofs.Common.{arith, refl, Bool, true, false, ◌&&◌, IsTrue, List, [], ◌∷◌}
use Rattle.std.proofs.lemmas.Int.{ints}
use Rattle.plane.proofs.Algebra.Laws.{product_assoc, product_comm, product-sum, sum-product}
use Rattle.plane.proofs.Algebra.Laws.{minus_one-product, zero-product}

-- ---- expressions
pub data Expr : Type 0 where
  at : ℕ → Expr
  num : ℤ → Expr
  plus : Expr → Expr → Expr
  minus : Expr → Expr → Expr
  times : Expr → Expr → Expr

-- the values of the variables, by number
abbrev pub vars : List ℤ → ℕ → ℤ
vars [] n = pos 0
vars (x ∷ xs) zero = x
vars (x ∷ xs) (suc n) = vars xs n

abbrev pub value : Expr → (ℕ → ℤ) → ℤ
value (at i) e = e i
value (num c) e = c
value (plus a b) e = value a e +ℤ value b e
value (minus a b) e = value a e -ℤ value b e
value (times a b) e = value a e *ℤ value b e

-- ---- Horner form: a number, or p * x + q with x the first variable and q over the others
pub data Form : Type 0 where
  con : ℤ → Form
  hor : Form → Form → Form

abbrev pub at_form : Form → (ℕ → ℤ) → ℤ
at_form (con c) e = c
at_form (hor p q) e = (at_form p e *ℤ e 0) +ℤ at_form q (λ n. e (suc n))

abbrev pub add_con : ℤ → Form → Form
add_con c (con d) = con (c +ℤ d)
add_con c (hor p q) = hor p (add_con c q)

abbrev pub add : Form → Form → Form
add (con c) t = add_con c t
add (hor p q) (con d) = hor p (add_con d q)
add (hor p q) (hor r s) = hor (add p r) (add q s)

abbrev pub scaled : ℤ → Form → Form
scaled c (con d) = con (c *ℤ d)
scaled c (hor p q) = hor (scaled c p) (scaled c q)

-- 0 times a form is a number, so that no coefficients that are 0 pile up
abbrev pub scale : ℤ → Form → Form
scale (pos zero) t = con (pos 0)
scale (pos (suc n)) t = scaled (pos (suc n)) t
scale (negsuc n) t = scaled (negsuc n) t

-- a form times the first variable
abbrev pub shift : Form → Form
shift (con (pos zero)) = con (pos 0)
shift (con (pos (suc n))) = hor (con (pos (suc n))) (con (pos 0))
shift (con (negsuc n)) = hor (con (negsuc n)) (con (pos 0))
shift (hor p q) = hor (hor p q) (con (pos 0))

-- f of the coefficients that hold no first variable
abbrev pub lift : (Form → Form) → Form → Form
lift f (con d) = hor (con (pos 0)) (f (con d))
lift f (hor r s) = hor (lift f r) (f s)

abbrev pub mul : Form → Form → Form
mul (con c) t = scale c t
mul (hor p q) (con d) = scale d (hor p q)
mul (hor p q) (hor r s) = add (shift (mul p (hor r s))) (lift (mul q) (hor r s))

abbrev pub variable : ℕ → Form
variable zero = hor (con (pos 1)) (con (pos 0))
variable (suc i) = hor (con (pos 0)) (variable i)

abbrev pub form : Expr → Form
form (at i) = variable i
form (num c) = con c
form (plus a b) = add (form a) (form b)
form (minus a b) = add (form a) (scale (negsuc 0) (form b))
form (times a b) = mul (form a) (form b)

abbrev pub is_zero : ℤ → Bool
is_zero (pos zero) = true
is_zero (pos (suc n)) = false
is_zero (negsuc n) = false

abbrev pub vanishes : Form → Bool
vanishes (con c) = is_zero c
vanishes (hor p q) = vanishes p && vanishes q

-- ---- it is sound
add_con-value : (c : ℤ) (t : Form) (e : ℕ → ℤ) → at_form (add_con c t) e ≡ c +ℤ at_form t e
add_con-value c (con d) e = refl
add_con-value c (hor p q) e = let h = add_con-value c q (λ n. e (suc n)) in omega (arith, ints, h)

add-value : (s t : Form) (e : ℕ → ℤ) → at_form (add s t) e ≡ at_form s e +ℤ at_form t e
add-value (con c) t e = add_con-value c t e
add-value (hor p q) (con d) e = let h = add_con-value d q (λ n. e (suc n)) in omega (arith, ints, h)
add-value (hor p q) (hor r s) e =
    let x = e 0 in
    let h = ap (λ v. v *ℤ x) (add-value p r e) ∙ sum-product (at_form p e) (at_form r e) x in
    let k = add-value q s (λ n. e (suc n)) in
    omega (arith, ints, h, k)

scaled-value : (c : ℤ) (t : Form) (e : ℕ → ℤ) → at_form (scaled c t) e ≡ c *ℤ at_form t e
scaled-value c (con d) e = refl
scaled-value c (hor p q) e =
    let x = e 0 in
    let h = ap (λ v. v *ℤ x) (scaled-value c p e) ∙ product_assoc c (at_form p e) x in
    let k = scaled-value c q (λ n. e (suc n)) in
    let d = product-sum c (at_form p e *ℤ x) (at_form q (λ n. e (suc n))) in
    omega (arith, ints, h, k, d)

scale-value : (c : ℤ) (t : Form) (e : ℕ → ℤ) → at_form (scale c t) e ≡ c *ℤ at_form t e
scale-value (pos zero) t e = sym (zero-product (at_form t e))
scale-value (pos (suc n)) t e = scaled-value (pos (suc n)) t e
scale-value (negsuc n) t e = scaled-value (negsuc n) t e

shift-value : (t : Form) (e : ℕ → ℤ) → at_form (shift t) e ≡ at_form t e *ℤ e 0
shift-value (con (pos zero)) e = sym (zero-product (e 0))
shift-value (con (pos (suc n))) e = omega (arith, ints)
shift-value (con (negsuc n)) e = omega (arith, ints)
shift-value (hor p q) e = omega (arith, ints)

-- the product of a form over the later variables and t
lift-value : (f : Form → Form) (c : ℤ) (e : ℕ → ℤ) (t : Form)
    → ((u : Form) → at_form (f u) (λ n. e (suc n)) ≡ c *ℤ at_form u (λ n. e (suc n)))
    → at_form (lift f t) e ≡ c *ℤ at_form t e
lift-value f c e (con d) h = let k = h (con d) in omega (arith, ints, k)
lift-value f c e (hor r s) h =
    let x = e 0 in
    let k = ap (λ v. v *ℤ x) (lift-value f c e r h) ∙ product_assoc c (at_form r e) x in
    let m = h s in
    let d = product-sum c (at_form r e *ℤ x) (at_form s (λ n. e (suc n))) in
    omega (arith, ints, k, m, d)

mul-value : (s t : Form) (e : ℕ → ℤ) → at_form (mul s t) e ≡ at_form s e *ℤ at_form t e
mul-value (con c) t e = scale-value c t e
mul-value (hor p q) (con d) e = scale-value d (hor p q) e ∙ product_comm d (at_form (hor p q) e)
mul-value (hor p q) (hor r s) e =
    let t = hor r s in
    let x = e 0 in
    let rest : ℕ → ℤ = λ n. e (suc n) in
    let y = at_form t e in
    let a = add-value (shift (mul p t)) (lift (mul q) t) e in
    let b = lift-value (mul q) (at_form q rest) e t (λ u. mul-value q u rest) in
    let k = shift-value (mul p t) e ∙ ap (λ v. v *ℤ x) (mul-value p t e)
    ∙ product_assoc (at_form p e) y x ∙ ap (λ v. at_form p e *ℤ v) (product_comm y x)
    ∙ sym (product_assoc (at_form p e) x y) in
    let d = sum-product (at_form p e *ℤ x) (at_form q rest) y in
    omega (arith, ints, a, b, k, d)

variable-value : (i : ℕ) (e : ℕ → ℤ) → at_form (variable i) e ≡ e i
variable-value zero e = omega (arith, ints)
variable-value (suc i) e = let h = variable-value i (λ n. e (suc n)) in omega (arith, ints, h)

form-value : (a : Expr) (e : ℕ → ℤ) → at_form (form a) e ≡ value a e
form-value (at i) e = variable-value i e
form-value (num c) e = refl
form-value (plus a b) e =
    let h = form-value a e in
    let k = form-value b e in omega (arith, ints, h, k, add-value (form a) (form b) e)
form-value (minus a b) e =
    let h = form-value a e in
    let k = form-value b e in
    omega (
      arith,
      ints,
      h,
      k,
      add-value (form a) (scale (negsuc 0) (form b)) e,
      scale-value (negsuc 0) (form b) e,
      minus_one-product (at_form (form b) e),
    )
form-value (times a b) e = mul-value (form a) (form b) e
    ∙ ap (λ v. v *ℤ at_form (form b) e) (form-value a e) ∙ ap (λ v. value a e *ℤ v) (form-value b e)

zero-is : (c : ℤ) → IsTrue (is_zero c) → c ≡ pos 0
zero-is (pos zero) h = refl
zero-is (pos (suc n)) h = cc
zero-is (negsuc n) h = cc

both-true : (a b : Bool) → IsTrue (a && b) → IsTrue a × IsTrue b
both-true true b h = (refl, h)
both-true false b h = cc

vanishes-value : (t : Form) (e : ℕ → ℤ) → IsTrue (vanishes t) → at_form t e ≡ pos 0
vanishes-value (con c) e h = zero-is c h
vanishes-value (hor p q) e h =
    let both = both-true (vanishes p) (vanishes q) h in
    let x = e 0 in
    let a = ap (λ v. v *ℤ x) (vanishes-value p e both.0) ∙ zero-product x in
    let b = vanishes-value q (λ n. e (suc n)) both.1 in
    omega (arith, ints, a, b)

-- a polynomial whose form vanishes is 0 at every value of its variables
pub ring_zero : (a : Expr) (e : ℕ → ℤ) → IsTrue (vanishes (form a)) → value a e ≡ pos 0
ring_zero a e h = sym (form-value a e) ∙ vanishes-value (form a) e h

-- two polynomials whose difference vanishes are equal
pub ring : (a b : Expr) (e : ℕ → ℤ) → IsTrue (vanishes (form (minus a b))) → value a e ≡ value b e
ring a b e h = let z = ring_zero (minus a b) e h in omega (arith, ints, z)
