use Rattle.std.proofs.Common.{◌≡◌, ◌≢◌, ℕ, zero, suc, ◌<◌, ◌+◌, ◌%◌, List, length, get_or, set}
use Rattle.std.proofs.Common.{arith, ap, ◌∙◌, refl, below_more, get_or-set_same, get_or-set_other}
use Rattle.std.proofs.Common.{inl, inr}
use Rattle.std.proofs.lemmas.Bool.{cases_lt}
use Rattle.std.proofs.lemmas.List.{length-set}
use Rattle.half_edges.specs.HalfEdges.{twin_of}
use Rattle.half_edges.specs.Stars.{IsOnce, Links, before}
use Rattle.half_edges.proofs.Twins.{twin_same, twin_within}

-- the first i places of the list are linked with the places before them
pub record LinksUpTo (around next prev new_next new_prev : List ℕ) (i : ℕ) : Type 0 where
  pub next_length : length new_next ≡ length next
  pub prev_length : length new_prev ≡ length prev
  pub next_is : (k : ℕ) → k < i
      → get_or new_next (twin_of (get_or around k 0)) 0 ≡ get_or around (before (length around) k) 0
  pub prev_is : (k : ℕ) → k < i
      → get_or new_prev (get_or around (before (length around) k) 0) 0 ≡ twin_of (get_or around k 0)
  pub next_stays : (h : ℕ) → ((k : ℕ) → k < i → h ≢ twin_of (get_or around k 0))
      → get_or new_next h 0 ≡ get_or next h 0
  pub prev_stays : (h : ℕ) → ((k : ℕ) → k < i → h ≢ get_or around (before (length around) k) 0)
      → get_or new_prev h 0 ≡ get_or prev h 0

pub before_within : (n k : ℕ) → k < n → before n k < n
before_within n zero l = omega arith
before_within n (suc k) l = omega arith

pub before_same : (n j k : ℕ) → j < n → k < n → before n j ≡ before n k → j ≡ k
before_same n zero zero l m e = refl
before_same n zero (suc k) l m e = absurd (omega arith)
before_same n (suc j) zero l m e = absurd (omega arith)
before_same n (suc j) (suc k) l m e = omega arith

-- the place k is before some place
pub before_some : (n k : ℕ) → k < n → (j : ℕ) × ((j < n) × (before n j ≡ k))
before_some n k l =
    elim (cases_lt (suc k) n) [
      | inl m ↦ (suc k, (m, refl))
      | inr m ↦ (zero, (omega arith, omega arith))
    ]

pub links_none : (around next prev : List ℕ) → LinksUpTo around next prev next prev 0
links_none around next prev = record {
  next_length = refl;
  prev_length = refl;
  next_is = λ k l. absurd (omega arith);
  prev_is = λ k l. absurd (omega arith);
  next_stays = λ h far. refl;
  prev_stays = λ h far. refl;
}

pub links_more : (around next prev new_next new_prev : List ℕ) (i x a back : ℕ)
    → length next % 2 ≡ 0 → length prev ≡ length next
    → ((k : ℕ) → k < length around → get_or around k 0 < length next) → IsOnce around
    → i < length around → x ≡ get_or around i 0 → a ≡ get_or around (before (length around) i) 0
    → back ≡ twin_of x
    → LinksUpTo around next prev new_next new_prev i
    → LinksUpTo around next prev (set new_next back a) (set new_prev a back) (i + 1)
links_more around next prev new_next new_prev i x a back even lengths within once l xe ae be links =
    let n = length around in
    let back_is : back ≡ twin_of (get_or around i 0) = be ∙ ap twin_of xe in
    let back_in : back < length new_next = rw (back_is, links.next_length)
    (twin_within (length next) (get_or around i 0) even (within i l)) in
    let a_in : a < length new_prev = rw (ae, links.prev_length, lengths)
    (within (before n i) (before_within n i l)) in
    record {
      next_length = length-set new_next back a ∙ links.next_length;
      prev_length = length-set new_prev a back ∙ links.prev_length;
      next_is = below_more (λ (k : ℕ). get_or (set new_next back a) (twin_of (get_or around k 0)) 0
          ≡ get_or around (before n k) 0) i
          (λ k m. let ne : twin_of (get_or around k 0) ≢ back = λ e. omega
          (arith, once.apart k i (omega arith) l (twin_same _ _ (e ∙ back_is))) in
          get_or-set_other new_next back _ a 0 ne ∙ links.next_is k m)
          (rw (← back_is) (get_or-set_same new_next back a 0 back_in ∙ ae));
      prev_is = below_more (λ (k : ℕ). get_or (set new_prev a back) (get_or around (before n k) 0) 0
          ≡ twin_of (get_or around k 0)) i
          (λ k m. let ne : get_or around (before n k) 0 ≢ a = λ e. omega (
            arith,
            before_same n k i (omega arith) l
                (once.apart _ _ (before_within n k (omega arith)) (before_within n i l) (e ∙ ae)),
          ) in
          get_or-set_other new_prev a _ back 0 ne ∙ links.prev_is k m)
          (rw (← ae) (get_or-set_same new_prev a back 0 a_in ∙ back_is));
      next_stays = λ h far. let ne : h ≢ back = λ e. far i (omega arith) (e ∙ back_is) in
          get_or-set_other new_next back h a 0 ne ∙ links.next_stays h (λ k m. far k (omega arith));
      prev_stays = λ h far. let ne : h ≢ a = λ e. far i (omega arith) (e ∙ ae) in
          get_or-set_other new_prev a h back 0 ne ∙ links.prev_stays h (λ k m. far k (omega arith));
    }

pub links_all : (around next prev new_next new_prev : List ℕ) (n : ℕ) → n ≡ length around
    → LinksUpTo around next prev new_next new_prev n → Links around next prev new_next new_prev
links_all around next prev new_next new_prev n e links = record {
  next_length = links.next_length;
  prev_length = links.prev_length;
  next_is = λ k l. links.next_is k (omega arith);
  prev_is = λ k l. links.prev_is k (omega arith);
  next_stays = λ h far. links.next_stays h (λ k l. far k (omega arith));
  prev_stays =
      λ h far. links.prev_stays h
      (λ k l. far (before (length around) k) (before_within (length around) k (omega arith)));
}

pub links_step : (around next prev new_next new_prev : List ℕ) (i x a back place front : ℕ)
    → length next % 2 ≡ 0 → length prev ≡ length next
    → ((k : ℕ) → k < length around → get_or around k 0 < length next) → IsOnce around
    → i < length around → x ≡ get_or around i 0 → a ≡ get_or around (before (length around) i) 0
    → back ≡ twin_of x
    → place ≡ back → front ≡ a
    → LinksUpTo around next prev new_next new_prev i
    → LinksUpTo around next prev (set new_next place a) (set new_prev front back) (i + 1)
links_step around next prev new_next new_prev i x a back place front even lengths within once l xe
    ae be pe fe links =
    rw (pe, fe) (links_more around next prev new_next new_prev i x a back even lengths within once l
    xe ae be links)
