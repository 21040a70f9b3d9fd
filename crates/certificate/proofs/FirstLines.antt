-- Lines at the front of a text.
use Rattle.std.proofs.Common.{◌≡◌, ℕ, zero, suc, ◌+◌, ◌≤◌, Bool, true, false, cond, nat_eq, List}
use Rattle.std.proofs.Common.{[], ◌∷◌, ◌++◌, refl, sym, ap, ◌∙◌, append_assoc, arith}
use Rattle.std.specs.List.{AllByRecursion}
use Rattle.std.proofs.lemmas.List.{append-nil}
use Rattle.certificate.specs.FirstBad.{lf_count, first_lines}

-- what stands after the first lines
pub behind_lines : (n : ℕ) (bytes : List ℕ)
    → (rest : List ℕ) × (bytes ≡ first_lines n bytes ++ rest)
behind_lines zero bytes = (bytes, refl)
behind_lines (suc n) [] = ([], refl)
behind_lines (suc n) (c ∷ bytes) =
    by_end (nat_eq c 10) (behind_lines n bytes) (behind_lines (suc n) bytes)
  where
    by_end : (b : Bool) → ((rest : List ℕ) × (bytes ≡ first_lines n bytes ++ rest))
        → ((rest : List ℕ) × (bytes ≡ first_lines (suc n) bytes ++ rest))
        → (rest : List ℕ)
        × (c ∷ bytes ≡ (c ∷ cond b (first_lines n bytes) (first_lines (suc n) bytes)) ++ rest)
    by_end true r q = (r.0, ap (λ (x : List ℕ). c ∷ x) r.1)
    by_end false r q = (q.0, ap (λ (x : List ℕ). c ∷ x) q.1)

-- the first lines of the first lines are the same, where there are as many
pub first_of_first : (n : ℕ) (bytes more : List ℕ) → n ≤ lf_count bytes
    → first_lines n (first_lines n bytes ++ more) ≡ first_lines n bytes
first_of_first zero bytes more h = refl
first_of_first (suc n) [] more h = absurd (omega (arith, h))
first_of_first (suc n) (c ∷ bytes) more h =
    by_end (nat_eq c 10) refl h (first_of_first n bytes more) (first_of_first (suc n) bytes more)
  where
    by_end : (b : Bool) → nat_eq c 10 ≡ b → suc n ≤ cond b (suc (lf_count bytes)) (lf_count bytes)
        → (n ≤ lf_count bytes → first_lines n (first_lines n bytes ++ more) ≡ first_lines n bytes)
        → (suc n ≤ lf_count bytes → first_lines (suc n) (first_lines (suc n) bytes ++ more)
        ≡ first_lines (suc n) bytes)
        → (c ∷ cond (nat_eq c 10)
        (first_lines n (cond b (first_lines n bytes) (first_lines (suc n) bytes) ++ more))
        (first_lines (suc n) (cond b (first_lines n bytes) (first_lines (suc n) bytes)
        ++ more)))
        ≡ (c ∷ cond b (first_lines n bytes) (first_lines (suc n) bytes))
    by_end true e l here later = rw e (ap (λ (x : List ℕ). c ∷ x) (here (omega (arith, l))))
    by_end false e l here later = rw e (ap (λ (x : List ℕ). c ∷ x) (later l))

-- The bytes are so many whole lines.
pub record AreLines (n : ℕ) (lines : List ℕ) : Type 0 where
  pub front : (k m : ℕ) (rest : List ℕ) → m ≡ n + k
      → first_lines m (lines ++ rest) ≡ lines ++ first_lines k rest
  pub count : (rest : List ℕ) → lf_count (lines ++ rest) ≡ n + lf_count rest

pub no_lines : AreLines zero []
no_lines = record {
  front = λ k m rest e. let same : m ≡ k = omega (arith, e) in
      ap (λ (i : ℕ). first_lines i rest) same;
  count = λ rest. omega arith;
}

pub more_lines : (n m : ℕ) (a b : List ℕ) → AreLines n a → AreLines m b → AreLines (n + m) (a ++ b)
more_lines n m a b f g = record {
  front = λ k i rest e.
      ap (first_lines i) (append_assoc a b rest)
      ∙ f.front (m + k) i (b ++ rest) (omega (arith, e))
      ∙ ap (λ (x : List ℕ). a ++ x) (g.front k (m + k) rest refl)
      ∙ sym (append_assoc a b (first_lines k rest));
  count = λ rest. omega (
    arith,
    ap lf_count (append_assoc a b rest),
    f.count (b ++ rest),
    g.count rest,
  );
}

-- a byte that is no LF
abbrev pub IsInner : ℕ → Type 0
IsInner c = nat_eq c 10 ≡ false

inner_front : (c n : ℕ) (bytes : List ℕ) → IsInner c → AreLines (suc n) bytes
    → (k m : ℕ) (rest : List ℕ) → m ≡ suc n + k
    → first_lines m ((c ∷ bytes) ++ rest) ≡ (c ∷ bytes) ++ first_lines k rest
inner_front c n bytes h l k zero rest e = absurd (omega (arith, e))
inner_front c n bytes h l k (suc m) rest e =
    rw h (ap (λ (x : List ℕ). c ∷ x) (l.front k (suc m) rest e))

pub inner_lines : (n : ℕ) (word bytes : List ℕ) → AllByRecursion IsInner word
    → AreLines (suc n) bytes → AreLines (suc n) (word ++ bytes)
inner_lines n [] bytes h l = l
inner_lines n (c ∷ word) bytes h l =
    let r = inner_lines n word bytes h.1 l in
    record {
      front = inner_front c n (word ++ bytes) h.0 r;
      count = λ rest. rw h.0 (r.count rest);
    }

last_front : (k m : ℕ) (rest : List ℕ) → m ≡ 1 + k
    → first_lines m ((10 ∷ []) ++ rest) ≡ (10 ∷ []) ++ first_lines k rest
last_front k zero rest e = absurd (omega (arith, e))
last_front k (suc m) rest e =
    let same : m ≡ k = omega (arith, e) in ap (λ (i : ℕ). 10 ∷ first_lines i rest) same

pub last_line : AreLines 1 (10 ∷ [])
last_line = record { front = last_front; count = λ rest. omega arith }

pub own_lines : (n : ℕ) (lines : List ℕ) → AreLines n lines → first_lines n lines ≡ lines
own_lines n lines l = ap (first_lines n) (sym (append-nil lines)) ∙ l.front zero n [] (omega arith)
    ∙ append-nil lines
