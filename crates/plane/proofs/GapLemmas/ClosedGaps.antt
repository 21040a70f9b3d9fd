-- Where nothing is live at the end each gap with an edge beside it is closed: those that are closed
-- are those that were opened, and
-- their sides are the neighbours of the live lists. No gap is closed twice.
use Rattle.std.proofs.Common.{◌≡◌, ℕ, zero, suc, ◌+◌, ◌<◌, ◌≤◌, ◌⊎◌, Bool, true, false, cond, None}
use Rattle.std.proofs.Common.{inl, inr, List, [], ◌∷◌, ◌++◌, length, map, take, drop, get_or, refl}
use Rattle.std.proofs.Common.{arith, ap, sym, ◌∙◌, subst}
use Rattle.std.proofs.lemmas.List.{take-append-drop}
use Rattle.std.specs.List.{filter}
use Rattle.plane.specs.Lists.{Has, Once}
use Rattle.plane.specs.Runs.Steps.{after}
use Rattle.plane.specs.Runs.Moves.{Move, step_of, steps_from, live_from, Fit}
use Rattle.plane.specs.Faces.Replays.{no_step}
use Rattle.plane.specs.Runs.Gaps.{Gap, opened, has_side, is_real, next_gaps, closed_at, closed_from}
use Rattle.plane.proofs.ListLemmas.Lists.{has_front, has_back, has_append, has_three}
use Rattle.plane.proofs.GapLemmas.GapSides.{Sides, sides, beside, next_beside}

-- ---- lists
filter_on : {X : Type 0} (p : X → Bool) (y : X) (ys : List X) (x : X) (b : Bool) → p y ≡ b
    → (Has x (filter p ys) → Has x ys × (p x ≡ true))
    → Has x (cond b (y ∷ filter p ys) (filter p ys)) → Has x (y ∷ ys) × (p x ≡ true)
filter_on p y ys x true e f (inl q) = (inl q, ap p q ∙ e)
filter_on p y ys x true e f (inr k) = let r = f k in (inr r.0, r.1)
filter_on p y ys x false e f k = let r = f k in (inr r.0, r.1)

pub has_filter : {X : Type 0} (p : X → Bool) (xs : List X) (x : X) → Has x (filter p xs)
    → Has x xs × (p x ≡ true)
has_filter p [] x h = absurd h
has_filter p (y ∷ ys) x h = filter_on p y ys x (p y) refl (has_filter p ys x) h

kept_on : {X : Type 0} (y x : X) (zs : List X) (b : Bool) → Has x zs → Has x (cond b (y ∷ zs) zs)
kept_on y x zs true h = inr h
kept_on y x zs false h = h

pub filter_has : {X : Type 0} (p : X → Bool) (xs : List X) (x : X) → Has x xs → p x ≡ true
    → Has x (filter p xs)
filter_has p [] x h e = absurd h
filter_has p (y ∷ ys) x (inl q) e =
    subst (λ b. Has x (cond b (y ∷ filter p ys) (filter p ys))) (sym e ∙ ap p q) (inl q)
filter_has p (y ∷ ys) x (inr k) e = kept_on y x (filter p ys) (p y) (filter_has p ys x k e)

once_on : {X : Type 0} (y : X) (zs : List X) (b : Bool) → (Has y zs → ⊥) → Once zs
    → Once (cond b (y ∷ zs) zs)
once_on y zs true n h = (n, h)
once_on y zs false n h = h

pub filter_once : {X : Type 0} (p : X → Bool) (xs : List X) → Once xs → Once (filter p xs)
filter_once p [] h = tt
filter_once p (y ∷ ys) h =
    once_on y (filter p ys) (p y) (λ k. h.0 (has_filter p ys y k).0) (filter_once p ys h.1)

has_map : (gs : List Gap) (x : Sides) → Has x (map sides gs) → (g : Gap) × Has g gs × (sides g ≡ x)
has_map [] x h = absurd h
has_map (g ∷ gs) x (inl e) = (g, inl refl, sym e)
has_map (g ∷ gs) x (inr h) = let (f, k, e) = has_map gs x h in (f, inr k, e)

pub map_has : (gs : List Gap) (g : Gap) → Has g gs → Has (sides g) (map sides gs)
map_has [] g h = absurd h
map_has (f ∷ gs) g (inl e) = inl (ap sides e)
map_has (f ∷ gs) g (inr h) = inr (map_has gs g h)

-- a list cut in three
drop_none : {X : Type 0} (n : ℕ) → drop {A = X} n [] ≡ []
drop_none zero = refl
drop_none (suc n) = refl

drops : {X : Type 0} (p n : ℕ) (xs : List X) → drop n (drop p xs) ≡ drop (p + n) xs
drops zero n xs = let e : n ≡ 0 + n = omega arith in ap (λ (k : ℕ). drop k xs) e
drops {X = X} (suc p) n [] = drop_none {X = X} n ∙ sym (drop_none {X = X} (suc p + n))
drops (suc p) n (x ∷ xs) =
    let e : suc (p + n) ≡ suc p + n = omega arith in
    drops p n xs ∙ ap (λ (k : ℕ). drop k (x ∷ xs)) e

pub whole_three : {X : Type 0} (p n : ℕ) (xs : List X)
    → take p xs ++ (take (suc n) (drop p xs) ++ drop (suc (p + n)) xs) ≡ xs
whole_three p n xs =
    let e : suc (p + n) ≡ p + suc n = omega arith in
    ap (λ ys. take p xs ++ (take (suc n) (drop p xs) ++ ys)) (ap (λ (k : ℕ). drop k xs) e
    ∙ sym (drops p (suc n) xs))
    ∙ ap (λ ys. take p xs ++ ys) (take-append-drop (suc n) (drop p xs))
    ∙ take-append-drop p xs

-- ---- one move: a gap before it is closed or stays, one after it stayed or is new
before_move : (k : ℕ) (now : List ℕ) (gaps : List Gap) (v : Move) (g : Gap) → Has g gaps
    → is_real g ≡ true → Has g (closed_at gaps v) ⊎ Has g (next_gaps k now gaps v)
before_move k now gaps v g h e =
    let top = drop (suc (v.position + v.ending)) gaps in
    elim (has_three g (take v.position gaps) (take (suc v.ending) (drop v.position gaps)) top
    (subst (λ xs. Has g xs) (sym (whole_three v.position v.ending gaps)) h)) [
      | inl a ↦ inr (has_front g (take v.position gaps) (opened k (step_of now v) ++ top) a)
      | inr b ↦ elim b [
        | inl m ↦ inl (filter_has is_real (take (suc v.ending) (drop v.position gaps)) g m e)
        | inr t ↦ inr
            (has_back g (take v.position gaps) (opened k (step_of now v) ++ top)
            (has_back g (opened k (step_of now v)) top t))
      ]
    ]

pub closed_was : (gaps : List Gap) (v : Move) (g : Gap) → Has g (closed_at gaps v)
    → Has g gaps × (is_real g ≡ true)
closed_was gaps v g h =
    let top = drop (suc (v.position + v.ending)) gaps in
    let f = has_filter is_real (take (suc v.ending) (drop v.position gaps)) g h in (
      subst (λ xs. Has g xs) (whole_three v.position v.ending gaps)
          (has_back g (take v.position gaps) (take (suc v.ending) (drop v.position gaps) ++ top)
          (has_front g (take (suc v.ending) (drop v.position gaps)) top f.0)),
      f.1,
    )

pub after_move : (k : ℕ) (now : List ℕ) (gaps : List Gap) (v : Move) (g : Gap)
    → Has g (next_gaps k now gaps v) → Has g gaps ⊎ Has g (opened k (step_of now v))
after_move k now gaps v g h =
    let mid = take (suc v.ending) (drop v.position gaps) in
    let top = drop (suc (v.position + v.ending)) gaps in
    let back : Has g (take v.position gaps ++ (mid ++ top))
    → Has g gaps = λ m. subst (λ xs. Has g xs) (whole_three v.position v.ending gaps) m in
    elim (has_three g (take v.position gaps) (opened k (step_of now v)) top h) [
      | inl a ↦ inl (back (has_front g (take v.position gaps) (mid ++ top) a))
      | inr b ↦ elim b [
        | inl m ↦ inr m
        | inr t ↦ inl (back (has_back g (take v.position gaps) (mid ++ top) (has_back g mid top t)))
      ]
    ]

new_after : (k : ℕ) (now : List ℕ) (gaps : List Gap) (v : Move) (g : Gap)
    → Has g (opened k (step_of now v)) → Has g (next_gaps k now gaps v)
new_after k now gaps v g h =
    has_back g (take v.position gaps) (opened k (step_of now v)
    ++ drop (suc (v.position + v.ending)) gaps)
    (has_front g (opened k (step_of now v)) (drop (suc (v.position + v.ending)) gaps) h)

-- the gap of an empty list has no side
nothing_real : (gaps : List Gap) (g : Gap) → map sides gaps ≡ beside None [] None → Has g gaps
    → is_real g ≡ true → ⊥
nothing_real gaps g e h r = elim (subst (λ xs. Has (sides g) xs) e (map_has gaps g h)) [
  | inl q ↦ wrong (sym (ap (λ (x : Sides). has_side x.0 x.1) q) ∙ r)
  | inr n ↦ n
]
  where
    wrong : false ≡ true → ⊥
    wrong w = subst (λ (b : Bool). cond b ⊥ (Unit {0})) w tt

-- ---- moves that leave nothing
-- what is closed was there at the beginning or opened at some move, and the other way round
module _ (g : Gap) where
  pub closed_new : (k : ℕ) (now : List ℕ) (gaps : List Gap) (vs : List Move)
      → Has g (closed_from k now gaps vs)
      → (is_real g ≡ true)
      × (Has g gaps
      ⊎ ((j : ℕ) × (j < length vs) × Has g
      (opened (k + j) (get_or (steps_from now vs) j no_step))))
  closed_new k now gaps [] h = absurd h
  closed_new k now gaps (v ∷ vs) h =
      elim (has_append g (closed_at gaps v)
      (closed_from (suc k) (after (step_of now v)) (next_gaps k now gaps v) vs) h) [
        | inl a ↦ (let w = closed_was gaps v g a in (w.1, inl w.0))
        | inr b ↦ (
            let r = closed_new (suc k) (after (step_of now v)) (next_gaps k now gaps v) vs b in (
              r.0,
              elim r.1 [
                | inl a ↦ elim (after_move k now gaps v g a) [
                  | inl c ↦ inl c
                  | inr o ↦ inr (
                    0,
                    omega arith,
                    subst (λ (i : ℕ). Has g (opened i (step_of now v)))
                        (omega arith) o,
                  )
                ]
                | inr o ↦ (let j = o.0 in let l = o.1 in
                    inr (
                      suc j,
                      omega (arith, l),
                      subst
                          (λ (i : ℕ). Has g
                          (opened i (get_or (steps_from (after (step_of now v)) vs) j no_step)))
                          (omega arith) o.2,
                    ))
              ],
            ))
      ]

  pub new_closed : (k : ℕ) (now : List ℕ) (gaps : List Gap) (vs : List Move) → Fit now vs
      → live_from now vs ≡ [] → map sides gaps ≡ beside None now None → is_real g ≡ true
      → (Has g gaps
      ⊎ ((j : ℕ) × (j < length vs) × Has g
      (opened (k + j) (get_or (steps_from now vs) j no_step))))
      → Has g (closed_from k now gaps vs)
  new_closed k now gaps [] f e b r (inl h) =
      absurd (nothing_real gaps g (b ∙ ap (λ (xs : List ℕ). beside None xs None) e) h r)
  new_closed k now gaps [] f e b r (inr h) = let l = h.1 in absurd (omega (arith, l))
  new_closed k now gaps (v ∷ vs) f e b r h =
      let rest = closed_from (suc k) (after (step_of now v)) (next_gaps k now gaps v) vs in
      let later : (Has g (next_gaps k now gaps v)
      ⊎ ((j : ℕ) × (j < length vs) × Has g
      (opened (suc k + j) (get_or (steps_from (after (step_of now v)) vs) j no_step))))
      → Has g (closed_at gaps v ++ rest) =
      λ c. has_back g (closed_at gaps v) rest
      (new_closed (suc k) (after (step_of now v)) (next_gaps k now gaps v) vs f.1 e
      (next_beside now v f.0 k gaps b) r c) in
      elim h [
        | inl a ↦ elim (before_move k now gaps v g a r) [
          | inl c ↦ has_front g (closed_at gaps v) rest c
          | inr c ↦ later (inl c)
        ]
        | inr o ↦ at_move o.0 o.1 o.2 later
      ]
    where
      at_move : (j : ℕ) → j < length (v ∷ vs)
          → Has g (opened (k + j) (get_or (steps_from now (v ∷ vs)) j no_step))
          → ((Has g (next_gaps k now gaps v)
          ⊎ ((j : ℕ) × (j < length vs) × Has g
          (opened (suc k + j) (get_or (steps_from (after (step_of now v)) vs) j no_step))))
          → Has g (closed_at gaps v ++ closed_from (suc k) (after (step_of now v))
          (next_gaps k now gaps v) vs))
          → Has g (closed_at gaps v ++ closed_from (suc k) (after (step_of now v))
          (next_gaps k now gaps v) vs)
      at_move zero l o later =
          later (inl (new_after k now gaps v g
          (subst (λ (i : ℕ). Has g (opened i (step_of now v))) (omega arith) o)))
      at_move (suc j) l o later =
          later (inr (
            j,
            omega (arith, l),
            subst (λ (i : ℕ). Has g
                (opened i (get_or (steps_from (after (step_of now v)) vs) j no_step))) (omega arith) o,
          ))

-- the sides of closed gaps are the neighbours of live lists, and the other way round
module _ (x : Sides) where
  pub closed_sides : (k : ℕ) (now : List ℕ) (gaps : List Gap) (vs : List Move) → Fit now vs
      → map sides gaps ≡ beside None now None → (g : Gap) → Has g (closed_from k now gaps vs)
      → sides g ≡ x
      → (j : ℕ) × (j ≤ length vs) × Has x (beside None (live_from now (take j vs)) None)
  closed_sides k now gaps [] f b g h q = absurd h
  closed_sides k now gaps (v ∷ vs) f b g h q =
      elim (has_append g (closed_at gaps v)
      (closed_from (suc k) (after (step_of now v)) (next_gaps k now gaps v) vs) h) [
        | inl a ↦ (
          0,
          omega arith,
          subst (λ y. Has y (beside None now None)) q
              (subst (λ xs. Has (sides g) xs) b (map_has gaps g (closed_was gaps v g a).0)),
        )
        | inr c ↦ (let (j, l, r) = closed_sides (suc k) (after (step_of now v))
            (next_gaps k now gaps v) vs f.1 (next_beside now v f.0 k gaps b) g c q in
            (suc j, omega (arith, l), r))
      ]

  pub sides_closed : (k : ℕ) (now : List ℕ) (gaps : List Gap) (vs : List Move) → Fit now vs
      → live_from now vs ≡ [] → map sides gaps ≡ beside None now None → has_side x.0 x.1 ≡ true
      → (j : ℕ) → j ≤ length vs → Has x (beside None (live_from now (take j vs)) None)
      → (g : Gap) × Has g (closed_from k now gaps vs) × (sides g ≡ x)
  sides_closed k now gaps vs f e b r zero l h =
      let (g, i, q) = has_map gaps x (subst (λ xs. Has x xs) (sym b) (first vs h)) in
      (g, new_closed g k now gaps vs f e b (ap (λ (y : Sides). has_side y.0 y.1) q ∙ r) (inl i), q)
    where
      first : (us : List Move) → Has x (beside None (live_from now (take 0 us)) None)
          → Has x (beside None now None)
      first [] i = i
      first (u ∷ us) i = i
  sides_closed k now gaps [] f e b r (suc j) l h = absurd (omega (arith, l))
  sides_closed k now gaps (v ∷ vs) f e b r (suc j) l h =
      let (g, i, q) = sides_closed (suc k) (after (step_of now v)) (next_gaps k now gaps v) vs f.1 e
      (next_beside now v f.0 k gaps b) r j (omega (arith, l)) h in (
        g,
        has_back g (closed_at gaps v)
            (closed_from (suc k) (after (step_of now v)) (next_gaps k now gaps v) vs) i,
        q,
      )
