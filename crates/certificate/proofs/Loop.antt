-- Reading one line or one certificate after the other, as a loop does.
use Rattle.std.proofs.Common.{◌≡◌, ℕ, suc, ◌-◌, ◌+◌, ◌≤◌, ◌<◌, List, [], ◌∷◌, ◌++◌, Ok, Err, refl}
use Rattle.std.proofs.Common.{sym, ap, ◌∙◌, append_assoc, arith}
use Rattle.std.proofs.lemmas.List.{append-nil}
use Rattle.certificate.specs.declared.fault.CertFault.{CertFault}
use Rattle.certificate.specs.declared.fault.CertFault.TheVariants as faults
use Rattle.std.specs.Prelude.{Option, Some, None}
use Rattle.std.specs.Option.{option_map}
use Rattle.std.specs.Borrow.{Bor}
use Rattle.certificate.specs.Parts.{Line}
use Rattle.certificate.specs.Reading.{Text, Lines, ◌>>=◌, Fails, Finds, line_of, line_at, many_at}
use Rattle.certificate.specs.Views.{found_view}
use Rattle.certificate.specs.Feeding.{with_front}

pub regroup : {A : Type 0} (front : List A) (x : A) (read : Lines (List A))
    → with_front front (read >>= λ y. Ok (x ∷ y.0, y.1)) ≡ with_front (front ++ x ∷ []) read
regroup {A = A} front x (Ok y) = ap (λ (xs : List A). Ok (xs, y.1)) (simp append_assoc)
regroup front x (Err f) = refl

pub goes_on : {A : Type 0} (one : Text → Lines A) (front : List A) (count i : ℕ) (text : Text)
    (x : A) (after : Text) (total : Lines (List A))
    → i < count → one text ≡ Ok (x, after)
    → with_front front (many_at one (count - i) text) ≡ total
    → with_front (front ++ x ∷ []) (many_at one (count - (i + 1)) after) ≡ total
unfolding many_at
goes_on one front count i text x after total lt h so_far =
    let k : count - i ≡ suc (count - (i + 1)) = omega arith in
    let step : with_front front (many_at one (count - i) text)
    ≡ with_front (front ++ x ∷ []) (many_at one (count - (i + 1)) after) =
    rw (k, h) (regroup front x (many_at one (count - (i + 1)) after)) in
    sym step ∙ so_far

fails : {A : Type 0} (e : CertFault) (one : Text → Lines A) (front : List A) (count i : ℕ)
    (text : Text) (total : Lines (List A))
    → i < count → one text ≡ Err e
    → with_front front (many_at one (count - i) text) ≡ total → total ≡ Err e
unfolding many_at
fails e one front count i text total lt h so_far =
    let k : count - i ≡ suc (count - (i + 1)) = omega arith in
    let step : with_front front (many_at one (count - i) text) ≡ Err e = rw (k, h) refl in
    sym so_far ∙ step

pub ends : {A : Type 0} (e : CertFault) (one : Text → Lines A) (front : List A) (count i : ℕ)
    (text : Text) (total : Lines (List A))
    → i < count → Fails e (one text)
    → with_front front (many_at one (count - i) text) ≡ total → Fails e total
ends faults.Memory one front count i text total lt h so_far = tt
ends (faults.Line n) one front count i text total lt h so_far =
    fails (faults.Line n) one front count i text total lt h so_far
ends (faults.Number n) one front count i text total lt h so_far =
    fails (faults.Number n) one front count i text total lt h so_far
ends (faults.Short n) one front count i text total lt h so_far =
    fails (faults.Short n) one front count i text total lt h so_far

pub is_done : {A : Type 0} (one : Text → Lines A) (front : List A) (count i : ℕ) (text : Text)
    (total : Lines (List A))
    → count ≤ i → with_front front (many_at one (count - i) text) ≡ total → total ≡ Ok (front, text)
unfolding many_at
is_done {A = A} one front count i text total le so_far =
    let k : count - i ≡ 0 = omega arith in
    let step : with_front front (many_at one (count - i) text)
    ≡ Ok (front, text) = rw k (ap (λ (xs : List A). Ok (xs, text)) (append-nil front)) in
    sym so_far ∙ step

-- ---- what was found of a line

pub map_found : {X Y : Type 0} (v : X → Y) (o : Option X) (f : Option Y) → Finds v o f
    → option_map v o ≡ f
map_found v None f h = sym h
map_found v (Some x) f h = sym h

-- the line of a form, where the form was found
pub same_line : {A : Type 0} (form : List ℕ → Line A) (text : Text)
    (o : Option (Option A × Bor (List ℕ)))
    → Finds found_view o (form text.rest)
    → line_of text (option_map found_view o) ≡ line_at form text
same_line form text o h = ap (line_of text) (map_found found_view o (form text.rest) h)
