-- The fault that a run of the machine gives is the first fault, and there is only one.
use Rattle.std.proofs.Common.{◌≡◌, ℕ, suc, ◌+◌, ◌<◌, ◌≤◌, List, [], ◌∷◌, ◌++◌, length, take, drop}
use Rattle.std.proofs.Common.{Some, None, refl, sym, ap, ◌∙◌, subst, arith, append_assoc}
use Rattle.std.proofs.Common.{append-nil, Bool, true, false, nat_lt, ◌-◌, length-take-le, take-add}
use Rattle.std.proofs.lemmas.Bool.{ltb-true, ltb-false}
use Rattle.std.proofs.lemmas.List.{drop_all, take-append-drop, append_cancel_right}
use Rattle.ili_grammar.specs.declared.syntax.SyntaxCode as code
use Rattle.ili_grammar.specs.declared.syntax.SyntaxCode.TheVariants as codes
use Rattle.ili_grammar.specs.declared.syntax.SyntaxFault as fault
use Rattle.ili_grammar.specs.declared.syntax.SyntaxFault.TheVariants as faults
use Rattle.ili_grammar.specs.Tokens.{Tok, tok}
use Rattle.ili_grammar.specs.Syntax.{ModelSyntax}
use Rattle.ili_grammar.specs.Codes.{Code, Expected, EndName, FixFormat, Views, LineForm, Scaling}
use Rattle.ili_grammar.specs.Codes.{Codes, Deep, code_of}
use Rattle.ili_grammar.specs.Models.{Spells, Begins, IsTransfer}
use Rattle.ili_grammar.specs.Faults.{IsFault, IsFirst, this_one, later_one, IsCode, IsFaultCode}
use Rattle.ili_grammar.specs.Faults.{IsFirstFault}
use Rattle.ili_grammar.specs.Machine.{start}
use Rattle.ili_grammar.specs.Run.{Outcome, whole, short, stopped, run, StopsAt}
use Rattle.ili_grammar.specs.Steps.{IsReportedBy, IsFaultAt}
use Rattle.ili_grammar.specs.declared.source.Wanted.TheVariants as wants
use Rattle.ili_grammar.proofs.FaultStands.{stop_of}
use Rattle.ili_grammar.proofs.CodeStands.{fault_stands}
use Rattle.ili_grammar.proofs.ModelsDrive.{transfer_drives}

by_lt : {P : Type 0} (a b : ℕ) → (a < b → P) → (b ≤ a → P) → P
by_lt {P} a b f g = of (nat_lt a b) refl
  where
    of : (t : Bool) → nat_lt a b ≡ t → P
    of true e = f (ltb-true a b e)
    of false e = g (ltb-false a b e)

-- ---- what the machine gives is the first fault
front_is : (all p : List Tok) (k : ℕ) → all ≡ p ++ drop k all → p ≡ take k all
front_is all p k e =
    append_cancel_right p (take k all) (drop k all) (sym e ∙ sym (take-append-drop k all))

not_all : (all : List Tok) (k : ℕ) (t : Tok) (r : List Tok) → drop k all ≡ t ∷ r → k < length all
not_all all k t r e =
    by_lt k (length all) (λ (h : k < length all). h)
    (λ (h : length all ≤ k). let f = drop_all k all h in absurd (cc))

pub first_fault : (all : List Tok) (f : fault.SyntaxFault)
    → IsReportedBy all (run all (start 32 ∷ [])) f → IsFirstFault all f
first_fault all faults.Memory h = tt
first_fault all (faults.At c None) h = of (run all (start 32 ∷ [])) refl h
  where
    of : (o : Outcome) → run all (start 32 ∷ []) ≡ o → IsReportedBy all o (faults.At c None)
        → IsFirstFault all (faults.At c None)
    of whole e h = absurd h
    of (stopped d v) e h = absurd h
    of short e h =
        let s = fault_stands all (code_of c) []
        (subst (λ (o : Outcome). StopsAt o (code_of c) []) (sym e) (h, refl)) in
        let q : s.0 ≡ all = sym (s.1 ∙ append-nil s.0) in
        subst (λ (p : List Tok). IsFault p [] × IsFaultCode p [] (code_of c)) q (s.2, s.3)
first_fault all (faults.At c (Some k)) h = of (run all (start 32 ∷ [])) refl h
  where
    of : (o : Outcome) → run all (start 32 ∷ []) ≡ o → IsReportedBy all o (faults.At c (Some k))
        → IsFirstFault all (faults.At c (Some k))
    of whole e h = absurd h
    of short e h = absurd h
    of (stopped d v) e h =
        let s = fault_stands all (code_of c) (drop k all)
        (subst (λ (o : Outcome). StopsAt o (code_of c) (drop k all)) (sym e) (sym h.0, h.1)) in
        let b = stop_of all (start 32 ∷ []) d v e in
        let q = front_is all s.0 k s.1 in
        let n = not_all all k b.at b.behind (sym h.1 ∙ b.is) in (
          n,
          subst (λ (p : List Tok). IsFault p (drop k all)) q s.2,
          subst (λ (p : List Tok). IsFaultCode p (drop k all) (code_of c)) q s.3,
        )

-- a token behind a whole model
pub trailing : (all v : List Tok) (t : Tok) (r : List Tok) (m : ModelSyntax) (f : fault.SyntaxFault)
    → v ≡ t ∷ r → IsTransfer 32 m all v → IsFaultAt all v wants.Other f → IsFirstFault all f
trailing all v t r m f e x h =
    first_fault all f
    (subst (λ (o : Outcome). IsReportedBy all o f) (sym (transfer_drives 32 m all v x []))
    (subst (λ (w : List Tok). IsFaultAt all w wants.Other f → IsReportedBy all (run w []) f)
    (sym e) (told t f) h))
  where
    told : (t : Tok) (f : fault.SyntaxFault) → IsFaultAt all (t ∷ r) wants.Other f
        → IsReportedBy all (run (t ∷ r) []) f
    told (tok k i) faults.Memory h = absurd h
    told (tok k i) (faults.At c None) h = absurd h
    told (tok k i) (faults.At c (Some n)) h = h

-- ---- a model has no fault
pub begins_before : (p q : List Tok) → Begins (p ++ q) → Begins p
begins_before p q (more, m, x) =
    (q ++ more, m, subst (λ (w : List Tok). Spells m w) (append_assoc p q more) x)

abbrev At : List Tok → ℕ → Type 0
At all k = (t : Tok) × (r : List Tok) × (all ≡ take k all ++ (t ∷ r)) × (drop k all ≡ t ∷ r)

shorter : (all : List Tok) (k : ℕ) → k < length all → take k all ≡ all → ⊥
shorter all k h e = let f = ap length e in omega (arith, length-take-le k all (omega (arith, h)), f)

at : (all : List Tok) (k : ℕ) → k < length all → At all k
at all k h = of (drop k all) refl
  where
    of : (d : List Tok) → drop k all ≡ d → At all k
    of [] e =
        let f = take-append-drop k all in
        let g : take k all ≡ all = sym (append-nil (take k all))
        ∙ sym (ap (λ (z : List Tok). take k all ++ z) e) ∙ f in
        absurd (shorter all k h g)
    of (t ∷ r) e =
        (t, r, sym (take-append-drop k all) ∙ ap (λ (z : List Tok). take k all ++ z) e, e)

at_fault : (p d : List Tok) (t : Tok) (r : List Tok) → d ≡ t ∷ r → IsFault p d
    → Begins (p ++ (t ∷ [])) → ⊥
at_fault p d t r e h = (subst (λ (d : List Tok). IsFault p d) e h).1

begun : (p d : List Tok) (t : Tok) (r : List Tok) → d ≡ t ∷ r → IsFault p d → Begins p
begun p d t r e h = (subst (λ (d : List Tok). IsFault p d) e h).0

one_more : (p r : List Tok) (t : Tok) → p ++ (t ∷ r) ≡ (p ++ (t ∷ [])) ++ r
one_more p r t = sym (append_assoc p (t ∷ []) r)

-- all tokens begin no model where a token is at fault
never_all : (all : List Tok) (k : ℕ) → k < length all → IsFault (take k all) (drop k all)
    → Begins all → ⊥
never_all all k h f b =
    let a = at all k h in
    at_fault (take k all) (drop k all) a.0 a.1 a.3 f
    (begins_before (take k all ++ (a.0 ∷ [])) a.1
    (subst Begins (a.2 ∙ one_more (take k all) a.1 a.0) b))

pub no_model : (all : List Tok) (f : fault.SyntaxFault) (m : ModelSyntax) → IsFirstFault all f
    → Spells m all → f ≡ faults.Memory
no_model all faults.Memory m h x = refl
no_model all (faults.At c None) m h x = absurd (h.0.1 m x)
no_model all (faults.At c (Some k)) m h x =
    absurd (never_all all k h.0 h.1 (
      [],
      m,
      subst (λ (w : List Tok). Spells m w) (sym (append-nil all)) x,
    ))

-- ---- only one
unique : (P : Code → Type 0) (cs : List Code) (c d : Code) → IsFirst P cs c → IsFirst P cs d → c ≡ d
unique _ _ _ _ (this_one c cs p) (this_one _ _ q) = refl
unique _ _ _ _ (this_one c cs p) (later_one _ d _ n q) = absurd (n p)
unique _ _ _ _ (later_one c d cs n q) (this_one _ _ p) = absurd (n p)
unique _ _ _ _ (later_one c d cs n q) (later_one _ e _ m r) = unique _ cs d e q r

code_unique : (p d : List Tok) (c e : Code) → IsFaultCode p d c → IsFaultCode p d e → c ≡ e
code_unique p [] c e g h = g ∙ sym h
code_unique p (t ∷ r) c e g h = of t g h
  where
    of : (t : Tok) → IsCode p t c → IsCode p t e → c ≡ e
    of (tok k i) g h = unique _ _ c e g h

abbrev code_back : Code → code.SyntaxCode
code_back Expected = codes.Expected
code_back EndName = codes.EndName
code_back FixFormat = codes.FixFormat
code_back Views = codes.Views
code_back LineForm = codes.LineForm
code_back Scaling = codes.Scaling
code_back Codes = codes.Codes
code_back Deep = codes.Deep

back : (c : code.SyntaxCode) → code_back (code_of c) ≡ c
back codes.Expected = refl
back codes.EndName = refl
back codes.FixFormat = refl
back codes.Views = refl
back codes.LineForm = refl
back codes.Scaling = refl
back codes.Codes = refl
back codes.Deep = refl

same_code : (c d : code.SyntaxCode) → code_of c ≡ code_of d → c ≡ d
same_code c d e = sym (back c) ∙ ap code_back e ∙ back d

-- a token at fault is not before another
not_before : (all : List Tok) (k l : ℕ) → k < l → k < length all → IsFault (take k all) (drop k all)
    → Begins (take l all) → ⊥
not_before all k l h g f b =
    let a = at all k g in
    let n = l - suc k in
    let q : l ≡ k + suc n = omega arith in
    let e = ap (λ (l : ℕ). take l all) q ∙ take-add k (suc n) all
    ∙ ap (λ (d : List Tok). take k all ++ take (suc n) d) a.3
    ∙ one_more (take k all) (take n a.1) a.0 in
    at_fault (take k all) (drop k all) a.0 a.1 a.3 f
    (begins_before (take k all ++ (a.0 ∷ [])) (take (l - suc k) a.1) (subst Begins e b))

pub same_fault : (all : List Tok) (f g : fault.SyntaxFault) → (f ≡ faults.Memory → ⊥)
    → (g ≡ faults.Memory → ⊥) → IsFirstFault all f → IsFirstFault all g → f ≡ g
same_fault all faults.Memory g m n h k = absurd (m refl)
same_fault all (faults.At c a) faults.Memory m n h k = absurd (n refl)
same_fault all (faults.At c None) (faults.At d None) m n h k =
    ap (λ (c : code.SyntaxCode). faults.At c None) (same_code c d (h.1 ∙ sym k.1))
same_fault all (faults.At c None) (faults.At d (Some l)) m n h k =
    absurd (never_all all l k.0 k.1 h.0.0)
same_fault all (faults.At c (Some i)) (faults.At d None) m n h k =
    absurd (never_all all i h.0 h.1 k.0.0)
same_fault all (faults.At c (Some i)) (faults.At d (Some l)) m n h k = of (h.0) (k.0)
  where
    begins_at : (j : ℕ) → j < length all → IsFault (take j all) (drop j all) → Begins (take j all)
    begins_at j g f = let a = at all j g in begun (take j all) (drop j all) a.0 a.1 a.3 f

    at_one : (i l : ℕ) → i ≡ l → IsFaultCode (take i all) (drop i all) (code_of c)
        → IsFaultCode (take l all) (drop l all) (code_of d)
        → faults.At c (Some i) ≡ faults.At d (Some l)
    at_one i l e g h =
        let q = same_code c d
        (code_unique (take l all) (drop l all) (code_of c) (code_of d)
        (subst (λ (i : ℕ). IsFaultCode (take i all) (drop i all) (code_of c)) e g) h) in
        ap (λ (i : ℕ). faults.At c (Some i)) e
        ∙ ap (λ (c : code.SyntaxCode). faults.At c (Some l)) q

    of : i < length all → l < length all → faults.At c (Some i) ≡ faults.At d (Some l)
    of p q = by_lt i l (λ (x : i < l). absurd (not_before all i l x p h.1 (begins_at l q k.1)))
        (λ (x : l ≤ i). by_lt l i
        (λ (y : l < i). absurd (not_before all l i y q k.1 (begins_at i p h.1)))
        (λ (y : i ≤ l). at_one i l (omega arith) h.2 k.2))
