use Rattle.std.specs.Prelude.{ℕ, zero, suc, ◌≡◌, ◌<◌}

-- where n steps of f lead
abbrev pub steps : (ℕ → ℕ) → ℕ → ℕ → ℕ
steps f zero h = h
steps f (suc n) h = f (steps f n h)

-- some steps of f lead from g to h
pub record Leads (f : ℕ → ℕ) (g h : ℕ) : Type 0 where
  pub count : ℕ
  pub there : steps f count g ≡ h

-- the cycles of f part the numbers below n: to lead to each other is an equivalence among them
pub record Parts (f : ℕ → ℕ) (n : ℕ) : Type 0 where
  pub within : (g h : ℕ) → g < n → Leads f g h → h < n
  pub itself : (h : ℕ) → h < n → Leads f h h
  pub back : (g h : ℕ) → g < n → Leads f g h → Leads f h g
  pub onward : (g h k : ℕ) → Leads f g h → Leads f h k → Leads f g k
