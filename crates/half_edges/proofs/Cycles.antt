use Rattle.std.proofs.Common.{◌≡◌, ℕ, zero, suc, ◌<◌, ◌+◌, ◌-◌, arith, ap, sym, ◌∙◌, refl}
use Rattle.half_edges.specs.Cycles.{steps, Leads, Parts}
use Rattle.half_edges.proofs.Pigeons.{pigeons}

steps_first : (f : ℕ → ℕ) (n h : ℕ) → steps f (suc n) h ≡ steps f n (f h)
steps_first f zero h = refl
steps_first f (suc n) h = ap f (steps_first f n h)

steps-add : (f : ℕ → ℕ) (m n h : ℕ) → steps f (m + n) h ≡ steps f m (steps f n h)
steps-add f zero n h = ap (λ k. steps f k h) (omega arith)
steps-add f (suc m) n h =
    let e : suc m + n ≡ suc (m + n) = omega arith in
    ap (λ k. steps f k h) e ∙ ap f (steps-add f m n h)

pub leads_onward : (f : ℕ → ℕ) (g h k : ℕ) → Leads f g h → Leads f h k → Leads f g k
leads_onward f g h k a b = record {
  count = b.count + a.count;
  there = steps-add f b.count a.count g ∙ (ap (steps f b.count) a.there ∙ b.there);
}

steps_within : (f : ℕ → ℕ) (n : ℕ) → ((h : ℕ) → h < n → f h < n) → (c h : ℕ) → h < n
    → steps f c h < n
steps_within f n inside zero h l = l
steps_within f n inside (suc c) h l = inside _ (steps_within f n inside c h l)

-- what c and c + d steps lead to is the same only where d steps lead back
cancel : (f back : ℕ → ℕ) (n : ℕ) → ((h : ℕ) → h < n → f h < n) → ((h : ℕ) → h < n → back (f h) ≡ h)
    → (c d h : ℕ) → h < n → steps f c h ≡ steps f (d + c) h → steps f d h ≡ h
cancel f back n inside undo zero d h l e =
    let z : d + 0 ≡ d = omega arith in sym (e ∙ ap (λ k. steps f k h) z)
cancel f back n inside undo (suc c) d h l e =
    let z : d + suc c ≡ suc (d + c) = omega arith in
    let w = steps_within f n inside in
    cancel f back n inside undo c d h l (sym (undo _ (w c h l))
    ∙ (ap back (e ∙ ap (λ k. steps f k h) z) ∙ undo _ (w (d + c) h l)))

-- some steps, one at least, lead back
record Returns (f : ℕ → ℕ) (h : ℕ) : Type 0 where
  pub fewer : ℕ
  pub there : steps f (suc fewer) h ≡ h

returns : (f back : ℕ → ℕ) (n : ℕ) → ((h : ℕ) → h < n → f h < n)
    → ((h : ℕ) → h < n → back (f h) ≡ h) → (h : ℕ) → h < n → Returns f h
returns f back n inside undo h l =
    let t = pigeons n (λ k. steps f k h) (λ k _. steps_within f n inside k h l) in
    let d = t.other - t.one in
    let ordered = t.ordered in
    let e : t.other ≡ d + t.one = omega arith in
    let p : d ≡ suc (d - 1) = omega arith in
    record {
      fewer = d - 1;
      there = ap (λ k. steps f k h) (sym p)
          ∙ cancel f back n inside undo t.one d h l (t.same ∙ ap (λ k. steps f k h) e);
    }

-- from f h, where some steps lead from h to g
step_off : (f : ℕ → ℕ) (g h : ℕ) → Returns f g → (c : ℕ) → steps f c h ≡ g → Leads f (f h) g
step_off f g h r zero e = record {
  count = r.fewer;
  there = ap (λ k. steps f r.fewer (f k)) e ∙ (sym (steps_first f r.fewer g) ∙ r.there);
}
step_off f g h r (suc c) e = record { count = c; there = sym (steps_first f c h) ∙ e }

way_back : (f : ℕ → ℕ) (g : ℕ) → Returns f g → (c : ℕ) → Leads f (steps f c g) g
way_back f g r zero = record { count = 0; there = refl }
way_back f g r (suc c) = let w = way_back f g r c in step_off f g (steps f c g) r w.count w.there

pub cycles_part : (f back : ℕ → ℕ) (n : ℕ) → ((h : ℕ) → h < n → f h < n)
    → ((h : ℕ) → h < n → back (f h) ≡ h) → Parts f n
cycles_part f back n inside undo = record {
  within = λ g h l a. rw (← a.there) (steps_within f n inside a.count g l);
  itself = λ h l. record { count = 0; there = refl };
  back = λ g h l a. rw (← a.there) (way_back f g (returns f back n inside undo g l) a.count);
  onward = leads_onward f;
}

-- a number that f keeps is the same all along
pub kept_along : (f number : ℕ → ℕ) (n : ℕ) → ((h : ℕ) → h < n → f h < n)
    → ((h : ℕ) → h < n → number (f h) ≡ number h)
    → (c h : ℕ) → h < n → number (steps f c h) ≡ number h
kept_along f number n inside same zero h l = refl
kept_along f number n inside same (suc c) h l =
    same _ (steps_within f n inside c h l) ∙ kept_along f number n inside same c h l
