-- An area has one drawing.
use lib.Dec.{T_prop}
use Rattle.std.proofs.Common.{◌≡◌, ℕ, ℤ, List, [], ◌∷◌, refl, sym, ◌∙◌, subst}
use Rattle.std.specs.Prelude.{◌<ℤ◌, slice_get}
use Rattle.std.specs.List.{AllZip}
use Rattle.itf_reader.specs.Forms.{Row}
use Rattle.resolver.specs.Resolved.{LineForm}
use Rattle.table_layout.specs.Layouts.{AreaOf, Layout}
use Rattle.plane.specs.Numbers.{IsWithin}
use Rattle.plane.specs.Rule.Plans.{Plan}
use Rattle.plane.specs.Rule.Windows.{IsShort, IsNarrow}
use Rattle.plane.specs.declared.kinds.Point.{Point}
use Rattle.plane.specs.declared.window.Window2.{Window2}
use Rattle.area_drawings.specs.Drawings.{HasWindow, IsDrawing, lines_in}

-- ---- two windows with the same corners are one
same_order : (a b : ℤ) (x y : a <ℤ b) → x ≡ y
same_order a b x y = λ i. record { lt = T_prop _ x.lt y.lt i }

same_within : (m : ℕ) (z : ℤ) (x y : IsWithin m z) → x ≡ y
same_within m z x y = λ i. record {
  low = same_order _ _ x.low y.low i;
  high = same_order _ _ x.high y.high i;
}

same_short : (p : Point) (x y : IsShort p) → x ≡ y
same_short p x y = λ i. record { x = same_within _ _ x.x y.x i; y = same_within _ _ x.y y.y i }

same_narrow : (p q : Point) (x y : IsNarrow p q) → x ≡ y
same_narrow p q x y = λ i. record { x = same_order _ _ x.x y.x i; y = same_order _ _ x.y y.y i }

abbrev window : (l h : Point) → IsNarrow l h → IsShort l → IsShort h → Window2
window l h n s t = record { low = l; high = h; narrow = n; low_digits = s; high_digits = t }

same_inner : (l h : Point) (n m : IsNarrow l h) (s t : IsShort l) (u v : IsShort h)
    → window l h n s u ≡ window l h m t v
same_inner l h n m s t u v = λ i. record {
  low = l;
  high = h;
  narrow = same_narrow l h n m i;
  low_digits = same_short l s t i;
  high_digits = same_short h u v i;
}

-- with its own corners replaced by equal ones a window is as it was
abbrev IsAt : Window2 → Point → Point → Type 0
IsAt v l h = (n : IsNarrow l h) (s : IsShort l) (t : IsShort h) → v ≡ window l h n s t

is_at : (v w : Window2) → v.low ≡ w.low → v.high ≡ w.high → IsAt v w.low w.high
is_at v w p q =
    subst (λ (l : Point). IsAt v l w.high) p (subst (λ (h : Point). IsAt v v.low h) q
    (λ n s t. same_inner v.low v.high v.narrow n v.low_digits s v.high_digits t))

pub same_window : (v w : Window2) → v.low ≡ w.low → v.high ≡ w.high → v ≡ w
same_window v w p q = is_at v w p q w.narrow w.low_digits w.high_digits

-- ---- drawings
one_window : (ls : List LineForm) (v w : Window2) → HasWindow ls v → HasWindow ls w → v ≡ w
one_window [] v w h k = same_window v w (h.0 ∙ sym k.0) (h.1 ∙ sym k.1)
one_window (l ∷ ls) v w h k = same_window v w (h.low ∙ sym k.low) (h.high ∙ sym k.high)

pub one_drawing : (l : Layout) (rows : List (List Row)) (a : AreaOf) (d e : Plan)
    → IsDrawing l rows a d → IsDrawing l rows a e → d ≡ e
one_drawing l rows a d e h k =
    let w : d.window ≡ e.window = one_window
    (lines_in (slice_get l.tables a.lines)) d.window e.window h.window k.window in
    let c : d.curves ≡ e.curves = h.curves ∙ sym k.curves in
    let p : d.points ≡ e.points = h.points ∙ sym k.points in
    λ i. record { window = w i; curves = c i; points = p i }

pub same_drawings : (l : Layout) (rows : List (List Row)) (as_ : List AreaOf) (ds es : List Plan)
    → AllZip (IsDrawing l rows) as_ ds → AllZip (IsDrawing l rows) as_ es → ds ≡ es
same_drawings l rows [] [] [] h k = refl
same_drawings l rows [] [] (e ∷ es) h k = absurd k
same_drawings l rows [] (d ∷ ds) es h k = absurd h
same_drawings l rows (a ∷ as_) [] es h k = absurd h
same_drawings l rows (a ∷ as_) (d ∷ ds) [] h k = absurd k
same_drawings l rows (a ∷ as_) (d ∷ ds) (e ∷ es) h k =
    let one = one_drawing l rows a d e h.0 k.0 in
    let rest = same_drawings l rows as_ ds es h.1 k.1 in
    λ i. one i ∷ rest i
