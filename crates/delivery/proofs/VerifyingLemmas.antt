-- Filed certificates of the code, by their texts.
use Rattle.std.proofs.Common.{◌≡◌, ℕ, ℤ, zero, suc, ◌+◌, ◌<◌, ◌≤◌, List, [], ◌∷◌, ◌++◌, length, map}
use Rattle.std.proofs.Common.{take, get_or, Some, Ok, slice_get, refl, sym, ap, ◌∙◌, subst, arith}
use Rattle.std.specs.Option.{option_map}
use Rattle.std.specs.List.{All, AllByRecursion, AllZip}
use Rattle.std.proofs.lemmas.List.{map-append, take_more}
use Rattle.std.proofs.lemmas.Option.{slice_get-map, slice_get_read}
use Rattle.straight_predicates.proofs.Orders.{by_lt}
use Rattle.certificate.specs.FirstBad.{IsFault, bad_line, bad_number, too_short, out_of_memory}
use Rattle.certificate.specs.Reading.{Fails}
use Rattle.certificate.specs.Spelling.{Plain, view, views}
use Rattle.certificate.specs.declared.fault.CertFault.{CertFault}
use Rattle.certificate.specs.declared.fault.CertFault.TheVariants as faults
use Rattle.certificate.specs.declared.notes.Certificate.{Certificate}
use Rattle.certificate_checker.specs.Verdicts.{IsBrokenBy, ProvesBy}
use Rattle.plane.specs.Rule.Plans.{Plan, plan}
use Rattle.plane.specs.declared.drawing.Drawing.{Drawing}
use Rattle.table_layout.specs.Layouts.{AreaOf, Layout}
use Rattle.area_drawings.specs.AreaLimits.{IsSmallPlan}
use Rattle.area_drawings.specs.Drawings.{area_tolerance}
use Rattle.area_drawings.specs.KeptViews.{HasTolerance}
use Rattle.reports.specs.AreaKinds.{plans}
use Rattle.delivery.specs.AreaCertificates.{claims_of}
use Rattle.delivery.specs.Verifying.{AreChecked, AreNamed, IsBadLine, IsBrokenAt, IsLineOf}
use Rattle.delivery.specs.Verifying.{IsProvedAt, IsVerification, AreFiledIn, all_proved, bad}
use Rattle.delivery.specs.Verifying.{broken, levels_of, missing}
use Rattle.reports.specs.Verifications.{Verification, proved, not_proved}
use Rattle.delivery.proofs.Drawables.{all_at}
use Rattle.delivery.proofs.Verifications.{certificates_of}

-- an element of a list and of its view
pub mapped_there : {X Y : Type 0} (f : X → Y) (xs : List X) (i : ℕ) (x : X) → i < length xs
    → x ≡ get_or xs i x → slice_get (map f xs) i ≡ Some (f x)
mapped_there f xs i x w e = slice_get-map f xs i
    ∙ ap (option_map f) (slice_get_read xs (length xs) i x refl w e)

pub paired_at : {X : Type 0} (P : X → Type 0) (xs : List X) (i : ℕ) (x : X) → AllByRecursion P xs
    → i < length xs → x ≡ get_or xs i x → P x
paired_at P [] i x h w e = absurd (omega (arith, w))
paired_at P (y ∷ xs) zero x h w e = subst P (sym e) h.0
paired_at P (y ∷ xs) (suc i) x h w e = paired_at P xs i x h.1 (omega (arith, w)) e

-- ---- the text
pub bad_line_named : (text : List ℕ) (e : CertFault) (line : ℕ) → IsFault text e → IsLineOf e line
    → IsBadLine text line
bad_line_named text (faults.Line k) line (bad_line n h) q = bad n h q
bad_line_named text (faults.Number k) line (bad_number n h) q = bad n h q
bad_line_named text (faults.Short k) line (too_short n h) q = missing n h q
bad_line_named text faults.Memory line out_of_memory q = absurd q

-- a fault with a line is that of a text that spells no list
pub no_list : (e : CertFault) (line : ℕ) (list : List Plain) → IsLineOf e line → Fails e (Ok list)
    → ⊥
no_list (faults.Line k) line list q h = absurd (cc)
no_list (faults.Number k) line list q h = absurd (cc)
no_list (faults.Short k) line list q h = absurd (cc)
no_list faults.Memory line list q h = absurd q

-- ---- drawings
pub small_at : (ds : List Drawing) (k : ℕ) (d : Drawing) → All IsSmallPlan (plans ds)
    → k < length ds → d ≡ get_or ds k d → IsSmallPlan (plan d)
small_at ds k d h w e = all_at IsSmallPlan (plans ds) k (plan d) h (mapped_there plan ds k d w e)

-- the area of a drawing's number permits the overlap of the drawing
permits_at : (l : Layout) (as_ : List AreaOf) (ds : List Drawing) (k : ℕ) (d : Drawing)
    → AllZip (HasTolerance l) as_ ds → k < length ds → d ≡ get_or ds k d
    → (a : AreaOf) × (slice_get as_ k ≡ Some a) × (d.tolerance ≡ area_tolerance l a)
permits_at l [] [] k d h w e = absurd (omega (arith, w))
permits_at l [] (x ∷ ds) k d h w e = absurd h
permits_at l (a ∷ as_) [] k d h w e = absurd h
permits_at l (a ∷ as_) (x ∷ ds) zero d h w e =
    (a, refl, ap (λ (y : Drawing). y.tolerance) e ∙ h.0)
permits_at l (a ∷ as_) (x ∷ ds) (suc k) d h w e =
    permits_at l as_ ds k d h.1 (omega (arith, w)) e

module _ (l : Layout) (ds : List Drawing) (cs : List Certificate) (k : ℕ) (d : Drawing)
    (c : Certificate) (t : AllZip (HasTolerance l) l.areas ds) (v : k < length ds)
    (e : d ≡ get_or ds k d) (w : k < length cs) (f : c ≡ get_or cs k c) where
  pub proved_here : ProvesBy d.tolerance (plan d) c.bent (claims_of (view c))
      → IsProvedAt l (plans ds) (views cs) k
  proved_here p =
      let a = permits_at l l.areas ds k d t v e in
      record {
        area = a.0;
        drawing = plan d;
        certificate = view c;
        area_there = a.1;
        drawing_there = mapped_there plan ds k d v e;
        certificate_there = mapped_there view cs k c w f;
        proves = subst (λ (n : ℤ). ProvesBy n (plan d) c.bent (claims_of (view c))) a.2 p;
      }

  pub broken_here : (rule place : ℕ) → ((j : ℕ) → j < k → IsProvedAt l (plans ds) (views cs) j)
      → IsBrokenBy d.tolerance (plan d) c.bent (claims_of (view c)) rule place
      → IsBrokenAt l (plans ds) (views cs) k rule place
  broken_here rule place h b =
      let a = permits_at l l.areas ds k d t v e in
      record {
        before = h;
        area = a.0;
        drawing = plan d;
        certificate = view c;
        area_there = a.1;
        drawing_there = mapped_there plan ds k d v e;
        certificate_there = mapped_there view cs k c w f;
        broken =
            subst (λ (n : ℤ). IsBrokenBy n (plan d) c.bent (claims_of (view c)) rule place) a.2 b;
      }

-- what holds before a number and at it
pub one_further : (P : ℕ → Type 0) (n : ℕ) → ((j : ℕ) → j < n → P j) → P n → (j : ℕ) → j < n + 1
    → P j
one_further P n h p j w =
    by_lt j n (h j) (λ (x : n ≤ j). (let e : n ≡ j = omega (arith, w, x) in subst P e p))

pub whole_take : {X : Type 0} (xs : List X) (n : ℕ) → n ≡ length xs → take n xs ≡ xs
whole_take [] zero e = refl
whole_take [] (suc n) e = refl
whole_take (x ∷ xs) zero e = absurd (omega (arith, e))
whole_take {X = X} (x ∷ xs) (suc n) e =
    ap (λ (ys : List X). x ∷ ys) (whole_take xs n (omega (arith, e)))

abbrev level : Certificate → ℕ
level c = c.level

-- the levels of one certificate more
pub levels_more : (cs : List Certificate) (n : ℕ) (c : Certificate) (old new : List ℕ)
    → n < length cs → new ≡ old ++ (get_or cs n c).level ∷ []
    → old ≡ map (λ (x : Certificate). x.level) (take n cs)
    → new ≡ map (λ (x : Certificate). x.level) (take (n + 1) cs)
levels_more cs n c old new w p q =
    p ∙ ap (λ (ns : List ℕ). ns ++ (get_or cs n c).level ∷ []) q
    ∙ sym (map-append level (take n cs) (get_or cs n c ∷ []))
    ∙ ap (map level) (sym (take_more cs n c w))

pub levels_view : (cs : List Certificate)
    → map (λ (c : Certificate). c.level) cs ≡ levels_of (views cs)
levels_view [] = refl
levels_view (c ∷ cs) = ap (λ (ns : List ℕ). c.level ∷ ns) (levels_view cs)

pub checked_list : (l : Layout) (ds : List Plan) (cs : List Plain) (v : Verification)
    → length ds ≡ length l.areas → AreNamed l cs → AreChecked l ds cs v → (text : List ℕ)
    → AreFiledIn text cs → IsVerification l ds text v
checked_list l ds cs (proved levels) m n h text s =
    all_proved cs s (certificates_of l ds cs m n h.1) (ap proved h.0)
checked_list l ds cs (not_proved k rule place) m n h text s = broken cs k rule place s n h refl
