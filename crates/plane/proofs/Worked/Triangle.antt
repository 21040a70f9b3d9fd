-- A triangle with the corners (0, 0), (2, 3) and (4, 0): it has a swept run, and the cells of
-- places compute.
-- The place (2, 1) is in the cell (1, 1).
use Rattle.std.proofs.Common.{◌<◌, ◌<ℤ◌, ◌⊎◌, inl, inr, ap, sym, subst, arith, ◌≡◌, ℕ, zero, suc}
use Rattle.std.proofs.Common.{List, [], ◌∷◌, ℤ, pos, negsuc, refl}
use Rattle.plane.specs.declared.kinds.Point.{Point}
use Rattle.plane.specs.Forms.Vectors.{Edge, side, sweep, rise, point}
use Rattle.std.proofs.lemmas.Int.{ints}
use Rattle.plane.specs.Lists.{Has}
use Rattle.plane.specs.Runs.Steps.{Step, GoodStep, WeighedRun, AtSome}
use Rattle.plane.specs.Faces.Replays.{replay}
use Rattle.plane.specs.Faces.Cells.{sector}

abbrev pub at_point : ℤ → ℤ → Point
at_point x y = record { x = x; y = y }

abbrev pub edge : ℕ → Edge
edge zero = record { low = at_point (pos 0) (pos 0); high = at_point (pos 4) (pos 0) }
edge (suc zero) = record { low = at_point (pos 0) (pos 0); high = at_point (pos 2) (pos 3) }
edge (suc (suc n)) = record { low = at_point (pos 2) (pos 3); high = at_point (pos 4) (pos 0) }

abbrev pub left : Step
left = record {
  at = at_point (pos 0) (pos 0);
  below = [];
  ending = [];
  starting = 0 ∷ 1 ∷ [];
  above = [];
}

abbrev pub top : Step
top = record {
  at = at_point (pos 2) (pos 3);
  below = 0 ∷ [];
  ending = 1 ∷ [];
  starting = 2 ∷ [];
  above = [];
}

abbrev pub right : Step
right = record {
  at = at_point (pos 4) (pos 0);
  below = [];
  ending = 0 ∷ 2 ∷ [];
  starting = [];
  above = [];
}

abbrev pub steps : List Step
steps = left ∷ top ∷ right ∷ []

pub inside : sector (replay (pos 4) 3 edge steps) (point (at_point (pos 2) (pos 1)))
    ≡ record { strip = 1; index = 1 }
unfolding side sweep
inside = refl

over : sector (replay (pos 4) 3 edge steps) (point (at_point (pos 1) (pos 2))) ≡ record {
  strip = 1;
  index = 2;
}
unfolding side sweep
over = refl

later : sector (replay (pos 4) 3 edge steps) (point (at_point (pos 3) (pos 1)))
    ≡ record { strip = 2; index = 1 }
unfolding side sweep
later = refl

before : sector (replay (pos 4) 3 edge steps) (point (at_point (negsuc 5) (pos 1)))
    ≡ record { strip = 0; index = 0 }
unfolding side sweep
before = refl

-- ---- it has a swept run
unlike : (p q : Point) → p ≡ q → (p.x ≡ q.x → ⊥) → ⊥
unlike p q e f = f (ap (λ (r : Point). r.x) e)

-- what holds of the three edges holds of all
pub each_edge : (P : ℕ → Type 0) → P 0 → P 1 → P 2 → (e : ℕ) → e < 3 → P e
each_edge P a b c zero l = a
each_edge P a b c (suc zero) l = b
each_edge P a b c (suc (suc zero)) l = c
each_edge P a b c (suc (suc (suc n))) l = absurd (omega arith)

one_of : (P : ℕ → Type 0) (a : ℕ) → P a → (e : ℕ) → Has e (a ∷ []) → P e
one_of P a p e (inl h) = subst P (sym h) p
one_of P a p e (inr h) = absurd h

two_of : (P : ℕ → Type 0) (a b : ℕ) → P a → P b → (e : ℕ) → Has e (a ∷ b ∷ []) → P e
two_of P a b p q e (inl h) = subst P (sym h) p
two_of P a b p q e (inr h) = one_of P b q e h

left_good : GoodStep 3 edge left
unfolding side
left_good = record {
  ending_only = λ e n. absurd n;
  ending_all =
      each_edge (λ e. (edge e).high ≡ left.at → Has e [])
      (λ h. unlike _ _ h (λ (k : pos 4 ≡ pos 0). cc))
      (λ h. unlike _ _ h (λ (k : pos 2 ≡ pos 0). cc))
      (λ h. unlike _ _ h (λ (k : pos 4 ≡ pos 0). cc));
  ending_once = tt;
  starting_only =
      two_of (λ e. (e < 3) × ((edge e).low ≡ left.at)) 0 1 (omega arith, refl) (omega arith, refl);
  starting_all =
      each_edge (λ e. (edge e).low ≡ left.at → Has e (0 ∷ 1 ∷ [])) (λ h. inl refl)
      (λ h. inr (inl refl)) (λ h. absurd (unlike _ _ h (λ (k : pos 2 ≡ pos 0). cc)));
  turns = (omega (arith, ints), (tt, tt));
  nearest_below = tt;
  nearest_above = tt;
}

top_good : GoodStep 3 edge top
unfolding side
top_good = record {
  ending_only = one_of (λ e. (e < 3) × ((edge e).high ≡ top.at)) 1 (omega arith, refl);
  ending_all =
      each_edge (λ e. (edge e).high ≡ top.at → Has e (1 ∷ []))
      (λ h. absurd (unlike _ _ h (λ (k : pos 4 ≡ pos 2). cc))) (λ h. inl refl)
      (λ h. absurd (unlike _ _ h (λ (k : pos 4 ≡ pos 2). cc)));
  ending_once = ((λ n. n), tt);
  starting_only = one_of (λ e. (e < 3) × ((edge e).low ≡ top.at)) 2 (omega arith, refl);
  starting_all =
      each_edge (λ e. (edge e).low ≡ top.at → Has e (2 ∷ []))
      (λ h. absurd (unlike _ _ h (λ (k : pos 0 ≡ pos 2). cc)))
      (λ h. absurd (unlike _ _ h (λ (k : pos 0 ≡ pos 2). cc))) (λ h. inl refl);
  turns = (tt, tt);
  nearest_below = omega (arith, ints);
  nearest_above = tt;
}

right_good : GoodStep 3 edge right
right_good = record {
  ending_only =
      two_of (λ e. (e < 3) × ((edge e).high ≡ right.at)) 0 2 (omega arith, refl)
      (omega arith, refl);
  ending_all =
      each_edge (λ e. (edge e).high ≡ right.at → Has e (0 ∷ 2 ∷ [])) (λ h. inl refl)
      (λ h. absurd (unlike _ _ h (λ (k : pos 2 ≡ pos 4). cc))) (λ h. inr (inl refl));
  ending_once = (apart, ((λ n. n), tt));
  starting_only = λ e n. absurd n;
  starting_all =
      each_edge (λ e. (edge e).low ≡ right.at → Has e [])
      (λ h. unlike _ _ h (λ (k : pos 0 ≡ pos 4). cc))
      (λ h. unlike _ _ h (λ (k : pos 0 ≡ pos 4). cc))
      (λ h. unlike _ _ h (λ (k : pos 2 ≡ pos 4). cc));
  turns = tt;
  nearest_below = tt;
  nearest_above = tt;
}
  where
    apart : Has {X = ℕ} 0 (2 ∷ []) → ⊥
    apart (inl h) = absurd (omega arith)
    apart (inr h) = h

pub triangle_swept : WeighedRun (pos 4) 3 edge steps
unfolding sweep rise
triangle_swept = record {
  replays = (refl, left_good, (refl, top_good, (refl, right_good, refl)));
  rising = (
    (omega (arith, ints), (omega (arith, ints), tt)),
    ((omega (arith, ints), tt), (tt, tt)),
  );
  ends = each_edge (λ e. AtSome (edge e).low steps × AtSome (edge e).high steps)
      ((left, inl refl, refl), (right, inr (inr (inl refl)), refl))
      ((left, inl refl, refl), (top, inr (inl refl), refl))
      ((top, inr (inl refl), refl), (right, inr (inr (inl refl)), refl));
  events = met;
  rises = each_edge (λ e. pos 0 <ℤ rise (pos 4) (edge e)) (omega (arith, ints))
      (omega (arith, ints)) (omega (arith, ints));
}
  where
    met : (s : Step) → Has s steps
        → (e : ℕ) × (e < 3) × (((edge e).low ≡ s.at) ⊎ ((edge e).high ≡ s.at))
    met s (inl h) = (0, omega arith, inl (sym (ap (λ (t : Step). t.at) h)))
    met s (inr (inl h)) = (1, omega arith, inr (sym (ap (λ (t : Step). t.at) h)))
    met s (inr (inr (inl h))) = (0, omega arith, inr (sym (ap (λ (t : Step). t.at) h)))
    met s (inr (inr (inr h))) = absurd h
