-- Reading on, whatever follows.
use Rattle.std.proofs.Common.{◌≡◌, ℕ, ◌-◌, ◌+◌, ◌≤◌, ◌<◌, List, [], ◌∷◌, ◌++◌, length}
use Rattle.std.proofs.Common.{Option, Some, None, Result, Ok, Err, refl, sym, ap, ◌∙◌, arith}
use Rattle.std.proofs.Common.{true, false, Bool, nat_eq}
use Rattle.std.specs.Prelude.{⊤}
use Rattle.std.proofs.lemmas.List.{append-nil, nil_from_length, length-append}
use Rattle.std.proofs.lemmas.Bool.{eqb-true}
use Rattle.std.proofs.lemmas.Bool.Decides.{nat_tests}
use Rattle.certificate.specs.declared.fault.CertFault.{CertFault}
use Rattle.certificate.specs.declared.fault.CertFault.TheVariants as faults
use Rattle.certificate.specs.Parts.{Line}
use Rattle.certificate.specs.Reading.{Text, Lines, ◌>>=◌, Fails, line_at, if_formed}
use Rattle.certificate.specs.Feeding.{MayFollow, EndsLine, onto, LeadsTo, FailsOn, more_at}
use Rattle.certificate.specs.Feeding.{IsLeft}
use Rattle.certificate.proofs.Local.{IsLines, grown, Left, IsGrown, IsLocal}
use Rattle.certificate.proofs.Loop.{goes_on, ends}

-- ---- one line

grown_none : {A : Type 0} (o : Option (A × List ℕ)) → o ≡ grown [] o
grown_none None = refl
grown_none {A = A} (Some x) = ap (λ (r : List ℕ). Some (x.0, r)) (sym (append-nil x.1))

left_free : {A : Type 0} (o : Option (A × List ℕ)) → Left (λ r. MayFollow r []) o
left_free None = tt
left_free (Some x) = tt

are_lines : (bytes : List ℕ) → 0 < length bytes → EndsLine bytes → IsLines bytes
are_lines [] h l = absurd (omega (arith, h))
are_lines (c ∷ []) h l = l
are_lines (c ∷ d ∷ bytes) h l = are_lines (d ∷ bytes) (omega arith) l

-- what a form finds, whatever follows
form_grown : {A : Type 0} (form : List ℕ → Line A) → IsLocal form → (bytes rest : List ℕ)
    → 0 < length bytes
    → MayFollow bytes rest
    → IsGrown (λ r. MayFollow r rest) rest (form bytes) (form (bytes ++ rest))
form_grown form local bytes [] h m =
    (ap form (append-nil bytes) ∙ grown_none (form bytes), left_free (form bytes))
form_grown form local bytes (c ∷ rest) h m = local (c ∷ rest) bytes (are_lines bytes h m)

pub not_zero : (n : ℕ) → 0 < n → nat_eq n 0 ≡ false
not_zero n h = grind (arith, nat_tests)

-- a test for bytes that found some
pub some_bytes : (bytes : List ℕ) (b : Bool) → b ≡ nat_eq (length bytes) 0 → b ≡ false
    → 0 < length bytes
some_bytes [] b e f = absurd (cc)
some_bytes (c ∷ bytes) b e f = omega arith

pub no_bytes : (bytes : List ℕ) (b : Bool) → b ≡ nat_eq (length bytes) 0 → b ≡ true → bytes ≡ []
no_bytes bytes b e f = nil_from_length bytes (eqb-true (length bytes) 0 (sym e ∙ f))

-- what is left of what is left
pub left_on : (t u v : Text) → IsLeft t u → IsLeft u v → IsLeft t v
left_on t u v h k = record {
  lines = omega (arith, h.lines, k.lines);
  bytes = omega (arith, h.bytes, k.bytes);
}

pub left_same : (t : Text) → IsLeft t t
left_same t = record { lines = omega arith; bytes = omega arith }

abbrev grown_lines : {A : Type 0} → List ℕ → Lines A → Lines A
grown_lines rest (Ok x) = Ok (x.0, onto x.1 rest)
grown_lines rest (Err e) = Err e

abbrev FollowLines : {A : Type 0} → List ℕ → Lines A → Type 0
FollowLines rest (Ok x) = MayFollow x.1.rest rest
FollowLines rest (Err e) = ⊤

formed_grown : {A : Type 0} (line : ℕ) (rest : List ℕ) (o p : Line A)
    → IsGrown (λ r. MayFollow r rest) rest o p
    → (if_formed line p ≡ grown_lines rest (if_formed line o)) × FollowLines rest (if_formed line o)
formed_grown line rest None p h = rw h.0 (refl, tt)
formed_grown line rest (Some (None, r)) p h = rw h.0 (refl, tt)
formed_grown line rest (Some (Some x, r)) p h = rw h.0 (refl, h.1)

-- a line, whatever follows
line_grown : {A : Type 0} (form : List ℕ → Line A) → IsLocal form → (t : Text) (rest : List ℕ)
    → 0 < length t.rest
    → MayFollow t.rest rest → (line_at form (onto t rest) ≡ grown_lines rest (line_at form t))
    × FollowLines rest (line_at form t)
line_grown {A = A} form local t rest h m =
    let g = formed_grown t.line rest (form t.rest) (form (t.rest ++ rest))
    (form_grown form local t.rest rest h m) in
    rw (
      not_zero (length t.rest) h,
      not_zero (length (t.rest ++ rest))
          (omega (arith, h, length-append t.rest rest)),
    ) g

-- a line that was read, and what is read after it
pub line_leads : {A B : Type 0} (form : List ℕ → Line A) → IsLocal form
    → (t : Text) (x : A) (u : Text)
    (k : A × Text → Result B CertFault) → 0 < length t.rest → line_at form t ≡ Ok (x, u)
    → LeadsTo (λ y. line_at form y >>= k) (λ y. k (x, y)) t u
line_leads {A = A} form local t x u k h e rest m =
    let g = line_grown form local t rest h m in
    let f : (line_at form (onto t rest) ≡ Ok (x, onto u rest))
    × MayFollow u.rest rest = rw e at g in
    (ap (λ (r : Lines A). r >>= k) f.0, f.1)

fails_grown : {A : Type 0} (e : CertFault) (rest : List ℕ) (r p : Lines A) → p ≡ grown_lines rest r
    → Fails e r → Fails e p
fails_grown faults.Memory rest r p g h = tt
fails_grown (faults.Line n) rest r p g h = rw (g, h) refl
fails_grown (faults.Number n) rest r p g h = rw (g, h) refl
fails_grown (faults.Short n) rest r p g h = rw (g, h) refl

pub fails_then : {A B : Type 0} (e : CertFault) (r : Result A CertFault) (k : A
    → Result B CertFault) → Fails e r → Fails e (r >>= k)
fails_then faults.Memory r k h = tt
fails_then (faults.Line n) r k h = rw h refl
fails_then (faults.Number n) r k h = rw h refl
fails_then (faults.Short n) r k h = rw h refl

-- a bad line
pub line_fails : {A B : Type 0} (form : List ℕ → Line A) → IsLocal form → (t : Text) (e : CertFault)
    (k : A × Text → Result B CertFault) → 0 < length t.rest → Fails e (line_at form t)
    → FailsOn e (λ y. line_at form y >>= k) t
line_fails form local t e k h f rest m =
    fails_then e (line_at form (onto t rest)) k
    (fails_grown e rest (line_at form t) _ (line_grown form local t rest h m).0 f)

-- ---- one after the other

pub leads_same : {A : Type 0} (reads : Text → Result A CertFault) (t : Text)
    → LeadsTo reads reads t t
leads_same reads t rest m = (refl, m)

pub leads_then : {A B : Type 0} (f g : Text → Result A CertFault) (k : A → Result B CertFault)
    (t u : Text)
    → LeadsTo f g t u → LeadsTo (λ y. f y >>= k) (λ y. g y >>= k) t u
leads_then {A = A} f g k t u h rest m =
    (ap (λ (r : Result A CertFault). r >>= k) (h rest m).0, (h rest m).1)

pub leads_on : {A : Type 0} (f g h : Text → Result A CertFault) (t u v : Text)
    → LeadsTo f g t u → LeadsTo g h u v → LeadsTo f h t v
leads_on f g h t u v a b rest m =
    let x = a rest m in
    let y = b rest x.1 in
    (x.0 ∙ y.0, y.1)

pub leads_by : {A : Type 0} (f g h : Text → Result A CertFault) (t u : Text)
    → ((y : Text) → f y ≡ g y)
    → LeadsTo g h t u → LeadsTo f h t u
leads_by f g h t u e a rest m = let x = a rest m in (e (onto t rest) ∙ x.0, x.1)

pub leads_to : {A : Type 0} (f g h : Text → Result A CertFault) (t u : Text)
    → ((y : Text) → g y ≡ h y)
    → LeadsTo f g t u → LeadsTo f h t u
leads_to f g h t u e a rest m = let x = a rest m in (x.0 ∙ e (onto u rest), x.1)

pub fails_on : {A B : Type 0} (e : CertFault) (f : Text → Result A CertFault) (k : A
    → Result B CertFault) (t : Text)
    → FailsOn e f t → FailsOn e (λ y. f y >>= k) t
fails_on e f k t h rest m = fails_then e (f (onto t rest)) k (h rest m)

fails_by_one : {A : Type 0} (e : CertFault) (r p : Result A CertFault) → r ≡ p → Fails e p
    → Fails e r
fails_by_one faults.Memory r p g h = tt
fails_by_one (faults.Line n) r p g h = g ∙ h
fails_by_one (faults.Number n) r p g h = g ∙ h
fails_by_one (faults.Short n) r p g h = g ∙ h

pub fails_later : {A : Type 0} (e : CertFault) (f g : Text → Result A CertFault) (t u : Text)
    → LeadsTo f g t u → FailsOn e g u → FailsOn e f t
fails_later e f g t u a h rest m =
    let x = a rest m in
    fails_by_one e (f (onto t rest)) (g (onto u rest)) x.0 (h rest x.1)

pub fails_by : {A : Type 0} (e : CertFault) (f g : Text → Result A CertFault) (t : Text)
    → ((y : Text) → f y ≡ g y)
    → FailsOn e g t → FailsOn e f t
fails_by e f g t s h rest m =
    fails_by_one e (f (onto t rest)) (g (onto t rest)) (s (onto t rest)) (h rest m)

-- ---- so many lines

pub more_first : {A : Type 0} (one : Text → Lines A) (front : List A) (count : ℕ) (t : Text)
    → LeadsTo (more_at one front count) (more_at one front (count - 0)) t t
more_first {A = A} one front count t rest m =
    let e : count ≡ count - 0 = omega arith in
    (ap (λ (n : ℕ). more_at one front n (onto t rest)) e, m)

pub more_next : {A : Type 0} (form : List ℕ → Line A) → IsLocal form
    → (first front : List A) (count i : ℕ) (t u v : Text) (x : A)
    → i < count → 0 < length u.rest → line_at form u ≡ Ok (x, v)
    → LeadsTo (more_at (line_at form) first count) (more_at (line_at form) front (count - i)) t u
    → LeadsTo (more_at (line_at form) first count)
    (more_at (line_at form) (front ++ x ∷ []) (count - (i + 1))) t v
more_next {A = A} form local first front count i t u v x l h e a rest m =
    let y = a rest m in
    let g = line_leads form local u x v (λ z. Ok z) h e rest y.1 in (
      sym (goes_on (line_at form) front count i (onto u rest) x (onto v rest) _ l
          (ok_line (line_at form (onto u rest)) ∙ g.0) (sym y.0)),
      g.1,
    )
  where
    ok_line : (r : Lines A) → r ≡ (r >>= λ z. Ok z)
    ok_line (Ok z) = refl
    ok_line (Err d) = refl

pub more_fails : {A : Type 0} (form : List ℕ → Line A) → IsLocal form
    → (first front : List A) (count i : ℕ) (t u : Text) (e : CertFault)
    → i < count → 0 < length u.rest → Fails e (line_at form u)
    → LeadsTo (more_at (line_at form) first count) (more_at (line_at form) front (count - i)) t u
    → FailsOn e (more_at (line_at form) first count) t
more_fails {A = A} form local first front count i t u e l h f a rest m =
    let y = a rest m in
    let g = fails_grown e rest (line_at form u) _ (line_grown form local u rest h y.1).0 f in
    ends e (line_at form) front count i (onto u rest) _ l g (sym y.0)

pub more_ends : {A : Type 0} (one : Text → Lines A) (first front : List A) (count i : ℕ)
    (t u : Text) → count ≤ i
    → LeadsTo (more_at one first count) (more_at one front (count - i)) t u
    → LeadsTo (more_at one first count) (more_at one front 0) t u
more_ends one first front count i t u l a rest m =
    let e : count - i ≡ 0 = omega arith in
    let y = a rest m in
    rw e at y
