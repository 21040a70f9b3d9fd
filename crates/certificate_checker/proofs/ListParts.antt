-- Elements of lists by their places, and parts of the live list.
use Rattle.std.proofs.Common.{◌≡◌, ◌↔◌, ℕ, zero, suc, ◌+◌, ◌-◌, ◌<◌, ◌≤◌, ◌≢◌, ◌*◌, inl, inr, Bool}
use Rattle.std.proofs.Common.{true, false, IsTrue, Option, Some, None, List, [], ◌∷◌, length, take}
use Rattle.std.proofs.Common.{drop, get_or, refl, arith, ap, sym, ◌∙◌, subst, add-one, drop-cons}
use Rattle.std.proofs.Common.{drop_of_length-le}
use Rattle.std.proofs.Math.Seq.{drop-nil}
use Rattle.plane.specs.Faces.Halves.{At}
use Rattle.plane.specs.Faces.Labels.{Labels, Match, first_label, last_label}
use Rattle.plane.specs.declared.kinds.Point.{Point}
use Rattle.plane.specs.Lists.{Has}
use Rattle.plane.specs.Runs.Gaps.{edge_at, edge_before, first_or, last_or, over_label, under_label}
use Rattle.certificate_checker.proofs.Entries.{by_lt}
use Rattle.certificate.specs.declared.notes.HalfNote.{HalfNote}
use Rattle.straight_predicates.specs.EdgeLists.{AreBelow}
use Rattle.certificate_checker.specs.Rules.{LabelsAt, SlopesAt, TurnLeft}
use Rattle.certificate_checker.specs.Subjects.{Subject, edge, event, labels, labels_in, live_list}
use Rattle.certificate_checker.specs.Subjects.{position_at}
use Rattle.certificate_checker.specs.Marked.{AreNotes, HasNote}
use Rattle.certificate_checker.proofs.PlaneLaws.{has_at}

pub index : (x : ℕ) (xs : List ℕ) → Has x xs → (k : ℕ) × (k < length xs) × (get_or xs k 0 ≡ x)
index x [] h = absurd h
index x (y ∷ ys) (inl e) = (0, omega arith, sym e)
index x (y ∷ ys) (inr h) = let (k, l, e) = index x ys h in (suc k, omega (arith, l), e)

pub by_index : (P : ℕ → Type 0) (xs : List ℕ) → ((k : ℕ) → k < length xs → P (get_or xs k 0))
    → (x : ℕ) → Has x xs → P x
by_index P xs f x h = let (k, l, e) = index x xs h in subst P e (f k l)

pub from_index : (P : ℕ → Type 0) (xs : List ℕ) → ((x : ℕ) → Has x xs → P x) → (k : ℕ)
    → k < length xs → P (get_or xs k 0)
from_index P xs f k l = f (get_or xs k 0) (has_at xs k 0 l)

pub drop_twice : {X : Type 0} (i n : ℕ) (xs : List X) → drop n (drop i xs) ≡ drop (i + n) xs
drop_twice zero n xs = ap (λ (k : ℕ). drop k xs) (none n)
  where
    none : (n : ℕ) → n ≡ 0 + n
    none n = omega arith
drop_twice (suc i) n [] = drop-nil n ∙ sym (drop-nil (suc i + n))
drop_twice (suc i) n (x ∷ xs) = drop_twice i n xs ∙ ap (λ (k : ℕ). drop k (x ∷ xs)) (shift i n)
  where
    shift : (i n : ℕ) → suc (i + n) ≡ suc i + n
    shift i n = omega arith

-- ---- the edges beside a place
pub at_place : (es : List ℕ) (i : ℕ) → i < length es → edge_at es i ≡ Some (get_or es i 0)
at_place [] i l = absurd (omega (arith, l))
at_place (e ∷ es) zero l = refl
at_place (e ∷ es) (suc i) l = at_place es i (omega (arith, l))

pub past_end : (es : List ℕ) (i : ℕ) → length es ≤ i → edge_at es i ≡ None
past_end [] i l = refl
past_end (e ∷ es) zero l = absurd (omega (arith, l))
past_end (e ∷ es) (suc i) l = past_end es i (omega (arith, l))

pub before_place : (es : List ℕ) (i : ℕ) → (i ≡ 0 → ⊥) → i ≤ length es
    → edge_before es i ≡ Some (get_or es (i - 1) 0)
before_place es zero n l = absurd (n refl)
before_place es (suc i) n l = at_place es i (omega (arith, l))
    ∙ ap (λ (k : ℕ). Some (get_or es k 0)) (back i)
  where
    back : (i : ℕ) → i ≡ suc i - 1
    back i = omega arith

last_is : (es : List ℕ) (p : ℕ) (l : Option ℕ) → 0 < p → p ≤ length es
    → last_or l (take p es) ≡ edge_before es p
last_is [] p l a b = absurd (omega (arith, a, b))
last_is (e ∷ es) zero l a b = absurd (omega (arith, a))
last_is (e ∷ es) (suc zero) l a b = refl
last_is (e ∷ es) (suc (suc p)) l a b = last_is es (suc p) (Some e) (omega arith) (omega (arith, b))

pub last_before : (es : List ℕ) (p : ℕ) → p ≤ length es
    → last_or None (take p es) ≡ edge_before es p
last_before es zero l = refl
last_before es (suc p) l = last_is es (suc p) None (omega arith) l

pub first_after : (es : List ℕ) (p : ℕ) → first_or None (drop p es) ≡ edge_at es p
first_after [] zero = refl
first_after [] (suc p) = refl
first_after (e ∷ es) zero = refl
first_after (e ∷ es) (suc p) = first_after es p

-- ---- the labels beside a place
last_of : (a : Labels) (es : List ℕ) (l : Option ℕ)
    → last_label a (over_label a l) es ≡ over_label a (last_or l es)
last_of a [] l = refl
last_of a (e ∷ es) l = last_of a es (Some e)

first_of : (a : Labels) (es : List ℕ) → first_label a es 0 ≡ under_label a (first_or None es)
first_of a [] = refl
first_of a (e ∷ es) = refl

pub label_before : (a : Labels) (es : List ℕ) (p : ℕ) → p ≤ length es
    → over_label a (edge_before es p) ≡ last_label a 0 (take p es)
label_before a es p l = ap (over_label a) (sym (last_before es p l))
    ∙ sym (last_of a (take p es) None)

pub label_after : (a : Labels) (es : List ℕ) (p : ℕ)
    → under_label a (edge_at es p) ≡ first_label a (drop p es) 0
label_after a es p = ap (under_label a) (sym (first_after es p)) ∙ sym (first_of a (drop p es))

-- ---- places of the list
pub at_of : (es : List ℕ) (i e : ℕ) → i < length es → get_or es i 0 ≡ e → At es i e
at_of [] i e l q = absurd (omega (arith, l))
at_of (d ∷ es) zero e l q = sym q
at_of (d ∷ es) (suc i) e l q = at_of es i e (omega (arith, l)) q

pub of_at : (es : List ℕ) (i e : ℕ) → At es i e → (i < length es) × (get_or es i 0 ≡ e)
of_at [] i e h = absurd h
of_at (d ∷ es) zero e h = (omega arith, sym h)
of_at (d ∷ es) (suc i) e h = let (l, q) = of_at es i e h in (omega (arith, l), q)

-- ---- tests
pub refused : {P : Type 0} → (P → ⊥) → IsTrue false ↔ P
refused f = ((λ q. absurd (clash q)), (λ p. absurd (f p)))
  where
    clash : IsTrue false → ⊥
    clash q = cc

pub granted : {P : Type 0} → P → IsTrue true ↔ P
granted p = ((λ q. p), (λ p. refl))

pub unfit : {P : Type 0} (b : Bool) → IsTrue b ↔ P → b ≡ false → P → ⊥
unfit b f e p = clash b (f.1 p) e
  where
    clash : (b : Bool) → IsTrue b → b ≡ false → ⊥
    clash b t e = cc

pub over_place : (P : ℕ → Type 0) (place : ℕ) → (place ≡ 0 → ⊥) → (b : Bool)
    → IsTrue b ↔ P (place - 1) → IsTrue b ↔ ((i : ℕ) → place ≡ suc i → P i)
over_place P zero n b f = absurd (n refl)
over_place P (suc i) n b f = (
  (λ t k e. subst P (back i k e) (f.0 t)),
  (λ g. f.1 (subst P (same i) (g i refl))),
)
  where
    back : (i k : ℕ) → suc i ≡ suc k → suc i - 1 ≡ k
    back i k e = omega (arith, e)

    same : (i : ℕ) → i ≡ suc i - 1
    same i = omega arith

-- ---- neighbours by their places
pub at_pair : (P : ℕ → ℕ → Type 0) (i n : ℕ) → 0 < i → i < n → ((k : ℕ) → suc k < n → P k (suc k))
    → P (i - 1) i
at_pair P zero n l m f = absurd (omega (arith, l))
at_pair P (suc k) n l m f = subst (λ (j : ℕ). P j (suc k)) (same k) (f k m)
  where
    same : (k : ℕ) → k ≡ suc k - 1
    same k = omega arith

pub pair_more : (P : ℕ → ℕ → Type 0) (i : ℕ) → 0 < i → ((k : ℕ) → suc k < i → P k (suc k))
    → P (i - 1) i → (k : ℕ) → suc k < i + 1 → P k (suc k)
pair_more P i l f p k m =
    by_lt (suc k) i (λ (h : suc k < i). f k h) (λ (h : i ≤ suc k). pair k (last i k m h))
  where
    last : (i k : ℕ) → suc k < i + 1 → i ≤ suc k → i ≡ suc k
    last i k m h = omega (arith, m, h)

    back : (k : ℕ) → suc k - 1 ≡ k
    back k = omega arith

    pair : (k : ℕ) → i ≡ suc k → P k (suc k)
    pair k e = subst (λ (j : ℕ). P j (suc k)) (back k) (subst (λ (j : ℕ). P (j - 1) j) e p)

-- ---- notes of the edges beside a place
some_one : (d e : ℕ) → Some d ≡ Some e → d ≡ e
some_one d e q = cc

none_some : (e : ℕ) → None ≡ Some e → ⊥
none_some e q = cc

pub at_note : (notes : List HalfNote) (live : List ℕ) (i : ℕ) (r : Option ℕ) → r ≡ edge_at live i
    → AreNotes notes live → HasNote notes r
at_note notes live i r q a e h =
    by_lt i (length live)
    (λ (l : i < length live). subst (λ (x : ℕ). 2 * x + 1 < length notes)
    (some_one (get_or live i 0) e (sym (at_place live i l) ∙ sym q ∙ h)) (a i l))
    (λ (l : length live ≤ i). absurd (none_some e (sym (past_end live i l) ∙ sym q ∙ h)))

pub before_note : (notes : List HalfNote) (live : List ℕ) (p : ℕ) (r : Option ℕ)
    → r ≡ edge_before live p → AreNotes notes live → HasNote notes r
before_note notes live zero r q a e h = absurd (none_some e (sym q ∙ h))
before_note notes live (suc i) r q a e h = at_note notes live i r q a e h

-- ---- labels that match so far
pub match_more : (Q : Type 0) (a : Labels) (l m : ℕ) (starting : List ℕ) (i r : ℕ)
    → i < length starting → l ≡ a.below (get_or starting i 0) → m ≡ a.above (get_or starting i 0)
    → Q ↔ Match a l (drop i starting) r → Q ↔ Match a m (drop (i + 1) starting) r
match_more Q a l m starting i r k e f q =
    subst (λ (n : ℕ). Q ↔ Match a m (drop n starting) r) (sym (add-one i))
    (let g = subst (λ (ns : List ℕ). Q ↔ Match a l ns r) (drop-cons starting i 0 k) q in
    subst (λ (n : ℕ). Q ↔ Match a n (drop (suc i) starting) r) (sym f)
    ((λ x. (g.0 x).1), (λ y. g.1 (e, y))))

pub match_no : (Q : Type 0) (a : Labels) (l : ℕ) (starting : List ℕ) (i r : ℕ) → i < length starting
    → (l ≡ a.below (get_or starting i 0) → ⊥) → Q ↔ Match a l (drop i starting) r → Q → ⊥
match_no Q a l starting i r k n q x =
    n ((subst (λ (ns : List ℕ). Q ↔ Match a l ns r) (drop-cons starting i 0 k) q).0 x).0

pub match_end : (Q : Type 0) (a : Labels) (l : ℕ) (starting : List ℕ) (i r : ℕ)
    → length starting ≤ i → Q ↔ Match a l (drop i starting) r → Q ↔ (l ≡ r)
match_end Q a l starting i r k q =
    subst (λ (ns : List ℕ). Q ↔ Match a l ns r) (drop_of_length-le starting k) q

pub by_eq : {P : Type 0} (i j : ℕ) → (i ≡ j → P) → (i ≢ j → P) → P
by_eq i j f g =
    by_lt i j (λ (l : i < j). g (λ e. omega (arith, l, e)))
    (λ (l : j ≤ i). by_lt j i (λ (k : j < i). g (λ e. omega (arith, k, e)))
    (λ (k : i ≤ j). f (omega (arith, l, k))))

-- ---- the notes of edges, and the labels of an event
pub notes_of : (notes : List HalfNote) (m : ℕ) (edges : List ℕ) → length notes ≡ 2 * m
    → AreBelow m edges → AreNotes notes edges
notes_of notes m edges e b i l = let k = b i l in omega (arith, e, k)

pub one_note : (notes : List HalfNote) (x : ℕ) → 2 * x + 1 < length notes → HasNote notes (Some x)
one_note notes x l e q = subst (λ (y : ℕ). 2 * y + 1 < length notes) (some_one x e q) l

pub labels_at : (s : Subject) (k : ℕ) (b : Bool) (notes : List HalfNote) (live starting : List ℕ)
    (p n : ℕ)
    → notes ≡ s.claims.notes → live ≡ live_list s k → starting ≡ (event s k).starting
    → p ≡ position_at s k → n ≡ length (event s k).ending → p ≤ length live
    → IsTrue b ↔ Match (labels_in notes)
    (over_label (labels_in notes) (edge_before live p)) starting
    (under_label (labels_in notes) (edge_at live (p + n))) → IsTrue b ↔ LabelsAt s k
labels_at s k b notes live starting p n c e f g h l m' =
    let m = subst (λ (ns : List HalfNote). IsTrue b
    ↔ Match (labels_in ns) (over_label (labels_in ns) (edge_before live p)) starting
    (under_label (labels_in ns) (edge_at live (p + n)))) c m' in
    subst (λ (i : ℕ). IsTrue b ↔ Match (labels s)
    (last_label (labels s) 0 (take (position_at s k) (live_list s k))) (event s k).starting
    (first_label (labels s) (drop i (drop (position_at s k) (live_list s k))) 0)) h
    (subst (λ (i : ℕ). IsTrue b ↔ Match (labels s)
    (last_label (labels s) 0 (take i (live_list s k))) (event s k).starting
    (first_label (labels s) (drop n (drop i (live_list s k))) 0)) g
    (subst (λ (ns : List ℕ). IsTrue b ↔ Match (labels s)
    (last_label (labels s) 0 (take p (live_list s k))) ns
    (first_label (labels s) (drop n (drop p (live_list s k))) 0)) f
    (subst (λ (ns : List ℕ). IsTrue b ↔ Match (labels s)
    (last_label (labels s) 0 (take p ns)) starting
    (first_label (labels s) (drop n (drop p ns)) 0)) e
    (subst (λ (ns : List ℕ). IsTrue b ↔ Match (labels s)
    (last_label (labels s) 0 (take p live)) starting (first_label (labels s) ns 0))
    (sym (drop_twice p n live))
    (subst (λ (i : ℕ). IsTrue b ↔ Match (labels s)
    (last_label (labels s) 0 (take p live)) starting i) (label_after (labels s) live (p + n))
    (subst (λ (i : ℕ). IsTrue b ↔ Match (labels s) i starting
    (under_label (labels s) (edge_at live (p + n)))) (label_before (labels s) live p l) m))))))

-- ---- the rules of an event from what a program looked up
pub event_rule : (P : List ℕ → Point → ℕ → ℕ → Type 0) (s : Subject) (k : ℕ) (b : Bool)
    (live : List ℕ) (at : Point) (p n : ℕ)
    → live ≡ live_list s k → at ≡ (event s k).at → p ≡ position_at s k
    → n ≡ length (event s k).ending
    → IsTrue b ↔ P live at p n → IsTrue b
    ↔ P (live_list s k) (event s k).at (position_at s k) (length (event s k).ending)
event_rule P s k b live at p n e f g h x =
    subst (λ (n : ℕ). IsTrue b ↔ P (live_list s k) (event s k).at (position_at s k) n) h
    (subst (λ (p : ℕ). IsTrue b ↔ P (live_list s k) (event s k).at p n) g
    (subst (λ (v : Point). IsTrue b ↔ P (live_list s k) v p n) f
    (subst (λ (ns : List ℕ). IsTrue b ↔ P ns at p n) e x)))

pub slopes_rule : (s : Subject) (k : ℕ) (b : Bool) (starting : List ℕ)
    → starting ≡ (event s k).starting → IsTrue b ↔ TurnLeft (edge s) starting
    → IsTrue b ↔ SlopesAt s k
slopes_rule s k b starting e x = subst (λ (ns : List ℕ). IsTrue b ↔ TurnLeft (edge s) ns) e x
