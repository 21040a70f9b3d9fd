-- Where reading stops: the lines before the bad one begin some text, and those up to it begin none.
use Rattle.std.proofs.Common.{◌≡◌, ℕ, zero, suc, ◌+◌, ◌<◌, ◌≤◌, Bool, true, false, cond, nat_eq}
use Rattle.std.proofs.Common.{List, [], ◌∷◌, ◌++◌, length, replicate, Some, None, Result, Ok, Err}
use Rattle.std.proofs.Common.{refl, sym, ap, subst, ◌∙◌, append_assoc, arith}
use Rattle.std.specs.List.{flat_map, AllByRecursion}
use Rattle.std.proofs.lemmas.List.{append-nil, nil_from_length, length-append, length-replicate}
use Rattle.std.proofs.lemmas.List.Concat.{flat_map-cons}
use Rattle.std.proofs.lemmas.Bool.{eqb-true}
use Rattle.certificate.specs.declared.fault.CertFault.{CertFault}
use Rattle.certificate.specs.declared.fault.CertFault.TheVariants as faults
use Rattle.certificate.specs.Parts.{Line}
use Rattle.certificate.specs.Reading.{Text, ◌>>=◌, Lines, if_formed, line_at, many_at}
use Rattle.certificate.specs.FirstBad.{lf_count, first_lines}
use Rattle.certificate.proofs.FirstLines.{behind_lines, first_of_first, AreLines, no_lines}
use Rattle.certificate.proofs.FirstLines.{more_lines}
use Rattle.certificate.proofs.PartLaws.{pair_is}
use Rattle.certificate.proofs.TextLaws.{then_ok, ok_is, from, line_is, line_gave, not_short, IsRead}

pub record Stops {A : Type 0} (text : A → List ℕ) (P : A → Type 0) (bytes : List ℕ)
    (k : ℕ) : Type 0 where
  pub some : A
  pub good : P some
  pub rest : List ℕ
  pub begins : text some ≡ first_lines k bytes ++ rest
  pub whole : k ≤ lf_count bytes
  pub none : k < lf_count bytes → (y : A) → P y → (more z : List ℕ)
      → text y ++ more ≡ first_lines (suc k) bytes ++ z → ⊥

-- what is reported of the line after the first k ones, where the first has the number n
pub data IsReported (bytes : List ℕ) (k n : ℕ) : CertFault → Type 0 where
  reported_line : (m : ℕ) → m ≡ n + k → length (first_lines k bytes) < length bytes
      → IsReported bytes k n (faults.Line m)
  reported_number : (m : ℕ) → m ≡ n + k → length (first_lines k bytes) < length bytes
      → IsReported bytes k n (faults.Number m)
  reported_short : (m : ℕ) → m ≡ n + k → first_lines k bytes ≡ bytes
      → IsReported bytes k n (faults.Short m)

abbrev pub Stopped : {A : Type 0} → (A → List ℕ) → (A → Type 0) → Text → CertFault → Type 0
Stopped text P t e = (k : ℕ) × Stops text P t.rest k × IsReported t.rest k t.line e

-- what was read, and where the reading stands after it
pub record Went {A : Type 0} (text : A → List ℕ) (P : A → Type 0) (t : Text) (x : A)
    (u : Text) : Type 0 where
  pub parts : t.rest ≡ text x ++ u.rest
  pub good : P x
  pub lines : ℕ
  pub are : AreLines lines (text x)
  pub next : u.line ≡ t.line + lines

-- one text, one value
abbrev pub Det : {A : Type 0} → (A → List ℕ) → (A → Type 0) → Type 0
Det {A = A} text P = (x y : A) (a b : List ℕ) → P x → P y → text x ++ a ≡ text y ++ b
    → (x ≡ y) × (a ≡ b)

pub det_of_read : {A : Type 0} (one : Text → Lines A) (text : A → List ℕ) (P : A → Type 0)
    → ((x : A) (n : ℕ) (rest : List ℕ) → P x → IsRead one (text x ++ rest) n x rest) → Det text P
det_of_read {A = A} one text P is x y a b p q e =
    let f = is x 1 a p in
    let g = is y 1 b q in
    let o : (x, from a f.0) ≡ (y, from b g.0) = ok_is (x, from a f.0) (y, from b g.0) (sym f.1
    ∙ ap (λ (bytes : List ℕ). one (from bytes 1)) e ∙ g.1) in
    (ap (λ (z : A × Text). z.0) o, ap (λ (z : A × Text). z.1.rest) o)

abbrev failed : (A : Type 0) → CertFault → Result A CertFault
failed A e = Err e

pub err_is : (A : Type 0) (d e : CertFault) → failed A d ≡ Err e → d ≡ e
err_is A d e h = cc

pub then_err : {A B : Type 0} (r : Result A CertFault) (f : A → Result B CertFault) (e : CertFault)
    (P : Type 0)
    → (r >>= f) ≡ Err e → (r ≡ Err e → P) → ((x : A) → r ≡ Ok x → f x ≡ Err e → P) → P
then_err (Ok x) f e P h bad good = good x refl h
then_err {A = A} {B = B} (Err d) f e P h bad good =
    bad (ap (λ (x : CertFault). failed A x) (err_is B d e h))

pub ok_no_err : {A : Type 0} (x : A) (e : CertFault) (P : Type 0)
    → (let r : Result A CertFault = Ok x in r) ≡ Err e → P
ok_no_err x e P h = absurd (cc)

-- ---- one line

some_byte : (bytes : List ℕ) → 0 < lf_count bytes → 0 < length bytes
some_byte [] h = absurd (omega (arith, h))
some_byte (c ∷ bytes) h = omega arith

reported_at_front : {A : Type 0} (form : List ℕ → Line A) (t : Text) (e : CertFault)
    → line_at form t ≡ Err e → IsReported t.rest zero t.line e
reported_at_front {A = A} form t e h = by_length (nat_eq (length t.rest) 0) refl h
  where
    here : t.line ≡ t.line + zero
    here = omega arith

    formed : (o : Line A) → 0 < length t.rest → if_formed t.line o ≡ Err e
        → IsReported t.rest zero t.line e
    formed None l k =
        subst (IsReported t.rest zero t.line) (err_is (A × Text) (faults.Line t.line) e k)
        (reported_line t.line here l)
    formed (Some (None, rest)) l k =
        subst (IsReported t.rest zero t.line) (err_is (A × Text) (faults.Number t.line) e k)
        (reported_number t.line here l)
    formed (Some (Some x, rest)) l k = ok_no_err (x, from rest (t.line + 1)) e _ k

    by_length : (b : Bool) → nat_eq (length t.rest) 0 ≡ b
        → cond b (Err (faults.Short t.line)) (if_formed t.line (form t.rest)) ≡ Err e
        → IsReported t.rest zero t.line e
    by_length true l k =
        subst (IsReported t.rest zero t.line) (err_is (A × Text) (faults.Short t.line) e k)
        (reported_short t.line here (sym (nil_from_length t.rest (eqb-true (length t.rest) 0 l))))
    by_length false l k = formed (form t.rest) (positive (length t.rest) l) k
      where
        positive : (n : ℕ) → nat_eq n 0 ≡ false → 0 < n
        positive zero z = absurd (cc)
        positive (suc n) z = omega arith

pub line_stops : {A : Type 0} (form : List ℕ → Line A) (text : A → List ℕ) (P : A → Type 0) (x : A)
    → P x
    → ((y : A) (rest : List ℕ) → P y → form (text y ++ rest) ≡ Some (Some y, rest))
    → ((y : A) → P y → AreLines 1 (text y))
    → (t : Text) (e : CertFault) → line_at form t ≡ Err e → Stopped text P t e
line_stops {A = A} form text P x p is are t e h = (
  zero,
  record { some = x; good = p; rest = text x; begins = refl; whole = omega arith; none = none },
  reported_at_front form t e h,
)
  where
    none : zero < lf_count t.rest → (y : A) → P y → (more z : List ℕ)
        → text y ++ more ≡ first_lines 1 t.rest ++ z → ⊥
    none l y q more z g =
        let same : text y ≡ first_lines 1 t.rest =
        sym ((are y q).front zero 1 more refl ∙ append-nil (text y)) ∙ ap (first_lines 1) g
        ∙ first_of_first 1 t.rest z (omega (arith, l)) in
        let r = behind_lines 1 t.rest in
        let whole : t.rest ≡ text y ++ r.0 = r.1 ∙ ap (λ (w : List ℕ). w ++ r.0) (sym same) in
        let formed : form t.rest ≡ Some (Some y, r.0) = ap form whole ∙ is y r.0 q in
        ok_no_err (y, from r.0 (t.line + 1)) e ⊥
        (sym (line_is form t.rest t.line y r.0 (some_byte t.rest l) formed) ∙ h)

line_next : {A : Type 0} (form : List ℕ → Line A) (t : Text) (x : A) (u : Text)
    → line_at form t ≡ Ok (x, u) → u.line ≡ t.line + 1
line_next {A = A} form t x u h =
    formed (form t.rest)
    (not_short (nat_eq (length t.rest) 0) (faults.Short t.line) (if_formed t.line (form t.rest))
    (x, u) h).1
  where
    formed : (o : Line A) → if_formed t.line o ≡ Ok (x, u) → u.line ≡ t.line + 1
    formed None k = absurd (cc)
    formed (Some (None, rest)) k = absurd (cc)
    formed (Some (Some y, rest)) k =
        sym (ap (λ (z : A × Text). z.1.line) (ok_is (y, from rest (t.line + 1)) (x, u) k))

pub line_went : {A : Type 0} (form : List ℕ → Line A) (text : A → List ℕ) (P : A → Type 0)
    → ((bytes : List ℕ) (y : A) (rest : List ℕ) → form bytes ≡ Some (Some y, rest)
    → (bytes ≡ text y ++ rest) × P y) → ((y : A) → P y → AreLines 1 (text y))
    → (t : Text) (x : A) (u : Text) → line_at form t ≡ Ok (x, u) → Went text P t x u
line_went form text P gave are t x u h =
    let g = gave t.rest x u.rest (line_gave form t x u h) in
    record { parts = g.0; good = g.1; lines = 1; are = are x g.1; next = line_next form t x u h }

-- ---- one part, and then another one

-- the second text may depend on the first part
abbrev pub both_texts : {A B : Type 0} → (A → List ℕ) → (A → B → List ℕ) → A × B → List ℕ
both_texts a b x = a x.0 ++ b x.0 x.1

abbrev pub Both : {A B : Type 0} → (A → Type 0) → (A → B → Type 0) → A × B → Type 0
Both P Q x = P x.0 × Q x.0 x.1

pub first_stops : {A B : Type 0} (a : A → List ℕ) (b : A → B → List ℕ) (P : A → Type 0) (Q : A → B
    → Type 0)
    → ((x : A) → P x → (y : B) × Q x y) → (t : Text) (e : CertFault)
    → Stopped a P t e → Stopped (both_texts a b) (Both P Q) t e
first_stops {A = A} {B = B} a b P Q others t e s =
    let k = s.0 in
    let o = others s.1.some s.1.good in (
      k,
      record {
        some = (s.1.some, o.0);
        good = (s.1.good, o.1);
        rest = s.1.rest ++ b s.1.some o.0;
        begins = ap (λ (w : List ℕ). w ++ b s.1.some o.0) s.1.begins
            ∙ append_assoc (first_lines k t.rest) s.1.rest (b s.1.some o.0);
        whole = s.1.whole;
        none = λ l y p more z g. s.1.none l y.0 p.0 (b y.0 y.1 ++ more) z
            (sym (append_assoc (a y.0) (b y.0 y.1) more) ∙ g);
      },
      s.2,
    )

reported_later : (rest : List ℕ) (text lines : List ℕ) (a k n m : ℕ) (e : CertFault)
    → AreLines a lines → text ≡ lines ++ rest → m ≡ n + a → IsReported rest k m e
    → IsReported text (a + k) n e
reported_later rest text lines a k n m e l h i (reported_line j f g) =
    reported_line j (omega (arith, f, i))
    (subst (λ (x : List ℕ). length (first_lines (a + k) x) < length x) (sym h)
    (omega (
      arith,
      g,
      ap length (l.front k (a + k) rest refl),
      length-append lines (first_lines k rest),
      length-append lines rest,
    )))
reported_later rest text lines a k n m e l h i (reported_number j f g) =
    reported_number j (omega (arith, f, i))
    (subst (λ (x : List ℕ). length (first_lines (a + k) x) < length x) (sym h)
    (omega (
      arith,
      g,
      ap length (l.front k (a + k) rest refl),
      length-append lines (first_lines k rest),
      length-append lines rest,
    )))
reported_later rest text lines a k n m e l h i (reported_short j f g) =
    reported_short j (omega (arith, f, i)) (ap (first_lines (a + k)) h ∙ l.front k (a + k) rest refl
    ∙ ap (λ (x : List ℕ). lines ++ x) g ∙ sym h)

pub second_stops : {A B : Type 0} (a : A → List ℕ) (b : A → B → List ℕ) (P : A → Type 0) (Q : A → B
    → Type 0)
    → Det a P → (t : Text) (x : A) (u : Text) (e : CertFault)
    → Went a P t x u → Stopped (b x) (Q x) u e → Stopped (both_texts a b) (Both P Q) t e
second_stops {A = A} {B = B} a b P Q det t x u e w s =
    let n = w.lines in
    let k = s.0 in
    let front : (i : ℕ) → first_lines (n + i) t.rest
    ≡ a x ++ first_lines i u.rest = λ i. ap (first_lines (n + i)) w.parts
    ∙ w.are.front i (n + i) u.rest refl in
    let count : lf_count t.rest ≡ n + lf_count u.rest = ap lf_count w.parts ∙ w.are.count u.rest in (
      n + k,
      record {
        some = (x, s.1.some);
        good = (w.good, s.1.good);
        rest = s.1.rest;
        begins = ap (λ (y : List ℕ). a x ++ y) s.1.begins
            ∙ sym (append_assoc (a x) (first_lines k u.rest) s.1.rest)
            ∙ ap (λ (y : List ℕ). y ++ s.1.rest) (sym (front k));
        whole = omega (arith, count, s.1.whole);
        none = λ l y p more z g.
            let step : suc (n + k) ≡ n + suc k = omega arith in
            let first : first_lines (suc (n + k)) t.rest
            ≡ a x ++ first_lines (suc k) u.rest =
            ap (λ (i : ℕ). first_lines i t.rest) step ∙ front (suc k) in
            let d = det y.0 x (b y.0 y.1 ++ more) (first_lines (suc k) u.rest ++ z) p.0 w.good
            (sym (append_assoc (a y.0) (b y.0 y.1) more) ∙ g ∙ ap (λ (v : List ℕ). v ++ z) first
            ∙ append_assoc (a x) (first_lines (suc k) u.rest) z) in
            s.1.none (omega (arith, l, count)) y.1 (subst (λ (v : A). Q v y.1) d.0 p.1) more z
            (ap (λ (v : A). b v y.1 ++ more) (sym d.0) ∙ d.1);
      },
      reported_later u.rest t.rest (a x) n k t.line u.line e w.are w.parts w.next s.2,
    )

-- the same, of other values with the same texts
pub map_stops : {A B : Type 0} (a : A → List ℕ) (b : B → List ℕ) (P : A → Type 0) (Q : B → Type 0)
    → ((x : A) → P x → (y : B) × Q y × (b y ≡ a x)) → ((y : B) → Q y → (x : A) × P x × (a x ≡ b y))
    → (t : Text) (e : CertFault) → Stopped a P t e → Stopped b Q t e
map_stops a b P Q there back t e s =
    let m = there s.1.some s.1.good in (
      s.0,
      record {
        some = m.0;
        good = m.1;
        rest = s.1.rest;
        begins = m.2 ∙ s.1.begins;
        whole = s.1.whole;
        none = λ l y q more z g. let n = back y q in
            s.1.none l n.0 n.1 more z (ap (λ (w : List ℕ). w ++ more) n.2 ∙ g);
      },
      s.2,
    )

pub both_went : {A B : Type 0} (a : A → List ℕ) (b : A → B → List ℕ) (P : A → Type 0) (Q : A → B
    → Type 0) (t : Text) (x : A) (u : Text) (y : B) (v : Text)
    → Went a P t x u → Went (b x) (Q x) u y v → Went (both_texts a b) (Both P Q) t (x, y) v
both_went a b P Q t x u y v f g = record {
  parts = f.parts ∙ ap (λ (z : List ℕ). a x ++ z) g.parts ∙ sym (append_assoc (a x) (b x y) v.rest);
  good = (f.good, g.good);
  lines = f.lines + g.lines;
  are = more_lines f.lines g.lines (a x) (b x y) f.are g.are;
  next = omega (arith, f.next, g.next);
}

pub map_went : {A B : Type 0} (a : A → List ℕ) (b : B → List ℕ) (P : A → Type 0) (Q : B → Type 0)
    (t : Text) (x : A) (y : B) (u : Text)
    → Q y → b y ≡ a x → Went a P t x u → Went b Q t y u
map_went a b P Q t x y u q e w = record {
  parts = w.parts ∙ ap (λ (z : List ℕ). z ++ u.rest) (sym e);
  good = q;
  lines = w.lines;
  are = subst (AreLines w.lines) (sym e) w.are;
  next = w.next;
}

pub both_det : {A B : Type 0} (a : A → List ℕ) (b : A → B → List ℕ) (P : A → Type 0) (Q : A → B
    → Type 0)
    → Det a P → ((x : A) → Det (b x) (Q x)) → Det (both_texts a b) (Both P Q)
both_det {A = A} a b P Q first second (x, y) (v, w) m n p q e =
    let d = first x v (b x y ++ m) (b v w ++ n) p.0 q.0 (sym (append_assoc (a x) (b x y) m) ∙ e
    ∙ append_assoc (a v) (b v w) n) in
    let f = second v y w m n (subst (λ (z : A). Q z y) d.0 p.1) q.1
    (ap (λ (z : A). b z y ++ m) (sym d.0) ∙ d.1) in
    (pair_is (x, y) v w d.0 f.0, f.1)

-- ---- so many, one after the other

abbrev pub AreSo : {A : Type 0} → (A → Type 0) → ℕ → List A → Type 0
AreSo P n xs = (length xs ≡ n) × AllByRecursion P xs

pub all_same : {A : Type 0} (P : A → Type 0) (n : ℕ) (x : A) → P x → AreSo P n (replicate n x)
all_same P n x p = (length-replicate n x, each n)
  where
    each : (m : ℕ) → AllByRecursion P (replicate m x)
    each zero = tt
    each (suc m) = (p, each m)

to_list : {A : Type 0} (text : A → List ℕ) (P : A → Type 0) (n : ℕ) (t : Text) (e : CertFault)
    → Stopped (both_texts text (λ x. flat_map text)) (Both P (λ x xs. AreSo P n xs)) t e
    → Stopped (flat_map text) (AreSo P (suc n)) t e
to_list {A = A} text P n t e s =
    map_stops (both_texts text (λ x. flat_map text)) (flat_map text) (Both P (λ x xs. AreSo P n xs))
    (AreSo P (suc n))
    (λ x p. (x.0 ∷ x.1, (ap suc p.1.0, (p.0, p.1.1)), flat_map-cons text x.0 x.1)) back t e s
  where
    back : (ys : List A) → AreSo P (suc n) ys
        → (x : A × List A) × Both P (λ x xs. AreSo P n xs) x
        × (both_texts text (λ z. flat_map text) x ≡ flat_map text ys)
    back [] q = absurd (omega (arith, q.0))
    back (y ∷ ys) q = ((y, ys), (q.1.0, (omega (arith, q.0), q.1.1)), sym (flat_map-cons text y ys))

pub many_stops : {A : Type 0} (one : Text → Lines A) (text : A → List ℕ) (P : A → Type 0) (x : A)
    → P x → Det text P
    → ((t : Text) (e : CertFault) → one t ≡ Err e → Stopped text P t e)
    → ((t : Text) (y : A) (u : Text) → one t ≡ Ok (y, u) → Went text P t y u)
    → (n : ℕ) (t : Text) (e : CertFault) → many_at one n t ≡ Err e
    → Stopped (flat_map text) (AreSo P n) t e
unfolding many_at
many_stops one text P x p det stops went zero t e h = ok_no_err ([], t) e _ h
many_stops {A = A} one text P x p det stops went (suc n) t e h =
    then_err (one t) _ e _ h
    (λ i. to_list text P n t e
    (first_stops text (λ y. flat_map text) P (λ y ys. AreSo P n ys)
    (λ y q. (replicate n x, all_same P n x p)) t e (stops t e i)))
    (λ first i k.
    then_err (many_at one n first.1) _ e _ k
    (λ j. to_list text P n t e
    (second_stops text (λ y. flat_map text) P (λ y ys. AreSo P n ys) det t first.0 first.1 e
    (went t first.0 first.1 i) (many_stops one text P x p det stops went n first.1 e j)))
    (λ others j m. ok_no_err (first.0 ∷ others.0, others.1) e _ m))

pub many_went : {A : Type 0} (one : Text → Lines A) (text : A → List ℕ) (P : A → Type 0)
    → ((t : Text) (y : A) (u : Text) → one t ≡ Ok (y, u) → Went text P t y u)
    → (n : ℕ) (t : Text) (xs : List A) (u : Text) → many_at one n t ≡ Ok (xs, u)
    → Went (flat_map text) (AreSo P n) t xs u
unfolding many_at
many_went {A = A} one text P went zero t xs u h =
    let p = ok_is ([], t) (xs, u) h in
    subst (λ (y : List A × Text). Went (flat_map text) (AreSo P zero) t y.0 y.1) p
    (record {
      parts = refl;
      good = (refl, tt);
      lines = zero;
      are = no_lines;
      next = omega arith;
    })
many_went {A = A} one text P went (suc n) t xs u h =
    then_ok (one t) _ (xs, u) _ h (λ first i k.
    then_ok (many_at one n first.1) _ (xs, u) _ k (λ others j m.
    let p = ok_is (first.0 ∷ others.0, others.1) (xs, u) m in
    let f = went t first.0 first.1 i in
    let g = many_went one text P went n first.1 others.0 others.1 j in
    let cons : flat_map text (first.0 ∷ others.0)
    ≡ text first.0 ++ flat_map text others.0 = flat_map-cons text first.0 others.0 in
    let parts : t.rest ≡ flat_map text (first.0 ∷ others.0) ++ others.1.rest =
    f.parts ∙ ap (λ (x : List ℕ). text first.0 ++ x) g.parts
    ∙ sym (append_assoc (text first.0) (flat_map text others.0) others.1.rest)
    ∙ ap (λ (x : List ℕ). x ++ others.1.rest) (sym cons) in
    subst (λ (y : List A × Text). Went (flat_map text) (AreSo P (suc n)) t y.0 y.1) p (record {
      parts = parts;
      good = (ap suc g.good.0, (f.good, g.good.1));
      lines = f.lines + g.lines;
      are = subst (AreLines (f.lines + g.lines)) (sym cons)
          (more_lines f.lines g.lines (text first.0) (flat_map text others.0) f.are g.are);
      next = omega (arith, f.next, g.next);
    })))
