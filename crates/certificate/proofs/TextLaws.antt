-- A whole text: the list that is read is spelt there, and the list that is spelt there is read.
use Rattle.std.proofs.Common.{◌≡◌, ℕ, zero, suc, ◌+◌, ◌^◌, ◌<◌, Bool, true, false, cond, nat_eq}
use Rattle.std.proofs.Common.{List, [], ◌∷◌, ◌++◌, length, Option, Some, None, Result, Ok, Err}
use Rattle.std.proofs.Common.{refl, sym, ap, subst, ◌∙◌, append_assoc, arith}
use Rattle.std.specs.Prelude.{codes, IfOk}
use Rattle.std.specs.Fmt.{decimal}
use Rattle.std.specs.List.{flat_map, AllByRecursion}
use Rattle.std.proofs.lemmas.List.{append-nil, nil_from_length, length-append}
use Rattle.std.proofs.lemmas.List.Concat.{flat_map-cons}
use Rattle.std.proofs.lemmas.Bool.{eqb-true}
use Rattle.std.proofs.lemmas.Bool.Decides.{nat_tests}
use Rattle.certificate.specs.declared.notes.HalfNote.{HalfNote}
use Rattle.certificate.specs.declared.notes.PointPlace.{PointPlace}
use Rattle.certificate.specs.declared.notes.PointPlace.TheVariants.{Cell, Tube}
use Rattle.certificate.specs.declared.forms.Counts.{Counts}
use Rattle.certificate.specs.declared.forms.Sizes.{Sizes}
use Rattle.certificate.specs.declared.forms.Version.{Version}
use Rattle.certificate.specs.declared.forms.Version.TheVariants.{One, Two}
use Rattle.certificate.specs.declared.fault.CertFault.{CertFault}
use Rattle.certificate.specs.declared.fault.CertFault.TheVariants as faults
use Rattle.certificate.specs.Spelling.{Plain, line, event_line, edge_line, place_line, title_line}
use Rattle.certificate.specs.Spelling.{side_word, sizes_line, certificate_text, text_in, CanSay}
use Rattle.certificate.specs.Spelling.{Spells, Fits, FitsEdge, FitsPlace, AreSpelt}
use Rattle.certificate.specs.Parts.{Line, Title, version_at, areas_at, title_at, sizes_at, event_at}
use Rattle.certificate.specs.Parts.{edge_at, place_at, end_at}
use Rattle.certificate.specs.Reading.{Text, ◌>>=◌, Lines, if_spelt, if_formed, line_at, many_at}
use Rattle.certificate.specs.Reading.{plain, certificate_at, if_ended, list_of, Gives}
use Rattle.certificate.proofs.FormLaws.{size_words, FitsSizes, version_words, version_gave}
use Rattle.certificate.proofs.FormLaws.{version_is, areas_gave, areas_is, title_gave, title_is}
use Rattle.certificate.proofs.FormLaws.{sizes_gave, sizes_is, event_gave, event_is, edge_gave}
use Rattle.certificate.proofs.FormLaws.{edge_is, place_gave, place_is, end_gave, end_is}

abbrev done : {A : Type 0} → A → Result A CertFault
done x = Ok x

pub ok_is : {A : Type 0} (x y : A) → done x ≡ done y → x ≡ y
ok_is x y e = cc

pub then_ok : {A B : Type 0} (r : Result A CertFault) (f : A → Result B CertFault) (y : B)
    (P : Type 0)
    → (r >>= f) ≡ Ok y → ((x : A) → r ≡ Ok x → f x ≡ Ok y → P) → P
then_ok (Ok x) f y P h k = k x refl h
then_ok (Err e) f y P h k = absurd (cc)

pub step_is : {A B : Type 0} (r : Result A CertFault) (x : A) (f : A → Result B CertFault)
    (z : Result B CertFault)
    → r ≡ Ok x → f x ≡ z → (r >>= f) ≡ z
step_is {A = A} r x f z e h = ap (λ (o : Result A CertFault). o >>= f) e ∙ h

abbrev pub from : List ℕ → ℕ → Text
from rest line = record { rest = rest; line = line }

-- ---- one line

spelt_gave : {A : Type 0} (n : ℕ) (o : Option A) (rest : List ℕ) (x : A) (u : Text)
    → if_spelt n o rest ≡ Ok (x, u) → (o ≡ Some x) × (rest ≡ u.rest)
spelt_gave n None rest x u e = absurd (cc)
spelt_gave {A = A} n (Some y) rest x u e =
    let p = ok_is (y, from rest (n + 1)) (x, u) e in
    (ap (λ (z : A × Text). Some z.0) p, ap (λ (z : A × Text). z.1.rest) p)

formed_gave : {A : Type 0} (n : ℕ) (o : Line A) (x : A) (u : Text) → if_formed n o ≡ Ok (x, u)
    → o ≡ Some (Some x, u.rest)
formed_gave n None x u e = absurd (cc)
formed_gave {A = A} n (Some y) x u e =
    let s = spelt_gave n y.0 y.1 x u e in
    ap (λ (z : Option A). Some (z, y.1)) s.0 ∙ ap (λ (r : List ℕ). Some (Some x, r)) s.1

pub not_short : {A : Type 0} (b : Bool) (e : CertFault) (r : Lines A) (y : A × Text)
    → cond b (Err e) r ≡ Ok y → (b ≡ false) × (r ≡ Ok y)
not_short true e r y h = absurd (cc)
not_short false e r y h = (refl, h)

pub line_gave : {A : Type 0} (form : List ℕ → Line A) (t : Text) (x : A) (u : Text)
    → line_at form t ≡ Ok (x, u) → form t.rest ≡ Some (Some x, u.rest)
line_gave form t x u e =
    formed_gave t.line (form t.rest) x u
    (not_short (nat_eq (length t.rest) 0) (faults.Short t.line) (if_formed t.line (form t.rest))
    (x, u) e).1

line_long : (words : List (List ℕ)) → 0 < length (line words)
line_long [] = omega arith
line_long (word ∷ []) = omega (arith, length-append word (codes "\n"))
line_long (word ∷ next ∷ words) = omega (arith, length-append word (32 ∷ line (next ∷ words)))

pub line_some : (words : List (List ℕ)) (rest : List ℕ) → 0 < length (line words ++ rest)
line_some words rest = omega (arith, length-append (line words) rest, line_long words)

pub line_is : {A : Type 0} (form : List ℕ → Line A) (bytes : List ℕ) (n : ℕ) (x : A) (rest : List ℕ)
    → 0 < length bytes → form bytes ≡ Some (Some x, rest)
    → line_at form (from bytes n) ≡ Ok (x, from rest (n + 1))
line_is {A = A} form bytes n x rest l h =
    let e : nat_eq (length bytes) 0 ≡ false = grind (arith, nat_tests) in
    ap (λ (b : Bool). cond b (Err (faults.Short n)) (if_formed n (form bytes))) e
    ∙ ap (λ (o : Line A). if_formed n o) h

-- ---- many, one after the other

joined : (a b x y z : List ℕ) → a ≡ x ++ b → b ≡ y ++ z → a ≡ (x ++ y) ++ z
joined a b x y z e f = e ∙ ap (λ (t : List ℕ). x ++ t) f ∙ sym (append_assoc x y z)

many_gave : {A : Type 0} (one : Text → Lines A) (text : A → List ℕ) (P : A → Type 0)
    → ((t : Text) (x : A) (u : Text) → one t ≡ Ok (x, u) → (t.rest ≡ text x ++ u.rest) × P x)
    → (n : ℕ) (t : Text) (xs : List A) (u : Text) → many_at one n t ≡ Ok (xs, u)
    → (t.rest ≡ flat_map text xs ++ u.rest) × (length xs ≡ n) × AllByRecursion P xs
unfolding many_at
many_gave {A = A} one text P gave zero t xs u e =
    let p = ok_is ([], t) (xs, u) e in
    subst (λ (y : List A × Text). (t.rest ≡ flat_map text y.0 ++ y.1.rest) × (length y.0 ≡ 0)
    × AllByRecursion P y.0) p (refl, refl, tt)
many_gave {A = A} one text P gave (suc n) t xs u e =
    then_ok (one t) _ (xs, u) _ e (λ first i1 e1.
    then_ok (many_at one n first.1) _ (xs, u) _ e1 (λ others i2 e2.
    let p = ok_is (first.0 ∷ others.0, others.1) (xs, u) e2 in
    let g = gave t first.0 first.1 i1 in
    let h = many_gave one text P gave n first.1 others.0 others.1 i2 in
    let whole : t.rest ≡ flat_map text (first.0 ∷ others.0)
    ++ others.1.rest =
    rw flat_map-cons
    (joined t.rest first.1.rest (text first.0)
    (flat_map text others.0) others.1.rest g.0 h.0) in
    subst (λ (y : List A × Text). (t.rest ≡ flat_map text y.0 ++ y.1.rest) × (length y.0 ≡ suc n)
    × AllByRecursion P y.0) p (whole, ap suc h.1, (g.1, h.2))))

-- it is read, and the reading goes on after it
abbrev pub IsRead : {A : Type 0} → (Text → Lines A) → List ℕ → ℕ → A → List ℕ → Type 0
IsRead one bytes n x rest = (m : ℕ) × (one (from bytes n) ≡ Ok (x, from rest m))

pub many_is : {A : Type 0} (one : Text → Lines A) (text : A → List ℕ) (P : A → Type 0)
    → ((x : A) (n : ℕ) (rest : List ℕ) → P x → IsRead one (text x ++ rest) n x rest)
    → (xs : List A) (n : ℕ) (rest : List ℕ) → AllByRecursion P xs
    → IsRead (many_at one (length xs)) (flat_map text xs ++ rest) n xs rest
unfolding many_at
many_is one text P is [] n rest h = (n, refl)
many_is one text P is (x ∷ xs) n rest h =
    let a = is x n (flat_map text xs ++ rest) h.0 in
    let b = many_is one text P is xs a.0 rest h.1 in
    let bytes : flat_map text (x ∷ xs) ++ rest
    ≡ text x ++ (flat_map text xs ++ rest) =
    ap (λ (y : List ℕ). y ++ rest) (flat_map-cons text x xs)
    ∙ append_assoc (text x) (flat_map text xs) rest in (
      b.0,
      ap (λ (y : List ℕ). many_at one (suc (length xs)) (from y n)) bytes
          ∙ step_is (one (from (text x ++ (flat_map text xs ++ rest)) n))
          (x, from (flat_map text xs ++ rest) a.0) _ _ a.1
          (step_is (many_at one (length xs) (from (flat_map text xs ++ rest) a.0))
          (xs, from rest b.0) _ _ b.1 refl),
    )

-- ---- the lines of each kind

pub events_gave : (n : ℕ) (t : Text) (xs : List ℕ) (u : Text)
    → many_at (line_at event_at) n t ≡ Ok (xs, u)
    → (t.rest ≡ flat_map event_line xs ++ u.rest) × (length xs ≡ n)
    × AllByRecursion (λ n. n < 2 ^ 32) xs
events_gave =
    many_gave (line_at event_at) event_line (λ n. n < 2 ^ 32)
    (λ t x u e. event_gave t.rest x u.rest (line_gave event_at t x u e))

pub edges_gave : (n : ℕ) (t : Text) (xs : List (HalfNote × HalfNote)) (u : Text)
    → many_at (line_at edge_at) n t ≡ Ok (xs, u)
    → (t.rest ≡ flat_map edge_line xs ++ u.rest) × (length xs ≡ n) × AllByRecursion FitsEdge xs
edges_gave =
    many_gave (line_at edge_at) edge_line FitsEdge
    (λ t x u e. edge_gave t.rest x u.rest (line_gave edge_at t x u e))

pub places_gave : (n : ℕ) (t : Text) (xs : List PointPlace) (u : Text)
    → many_at (line_at place_at) n t ≡ Ok (xs, u)
    → (t.rest ≡ flat_map place_line xs ++ u.rest) × (length xs ≡ n) × AllByRecursion FitsPlace xs
places_gave =
    many_gave (line_at place_at) place_line FitsPlace
    (λ t x u e. place_gave t.rest x u.rest (line_gave place_at t x u e))

pub event_read : (x n : ℕ) (rest : List ℕ) → x < 2 ^ 32
    → IsRead (line_at event_at) (event_line x ++ rest) n x rest
event_read x n rest f = (
  n + 1,
  line_is event_at (event_line x ++ rest) n x rest
      (line_some (codes "V" ∷ decimal x ∷ []) rest) (event_is x rest f),
)

pub edge_some : (e : HalfNote × HalfNote) (rest : List ℕ) → 0 < length (edge_line e ++ rest)
edge_some e rest = omega arith

pub edge_read : (x : HalfNote × HalfNote) (n : ℕ) (rest : List ℕ) → FitsEdge x
    → IsRead (line_at edge_at) (edge_line x ++ rest) n x rest
edge_read x n rest f =
    (n + 1, line_is edge_at (edge_line x ++ rest) n x rest (edge_some x rest) (edge_is x rest f))

place_some : (p : PointPlace) (rest : List ℕ) → 0 < length (place_line p ++ rest)
place_some (Cell n) rest = line_some (codes "P" ∷ decimal n ∷ []) rest
place_some (Tube n inside) rest =
    line_some (codes "P" ∷ codes "T" ∷ decimal n ∷ side_word inside ∷ []) rest

pub place_read : (x : PointPlace) (n : ℕ) (rest : List ℕ) → FitsPlace x
    → IsRead (line_at place_at) (place_line x ++ rest) n x rest
place_read x n rest f = (
  n + 1,
  line_is place_at (place_line x ++ rest) n x rest (place_some x rest)
      (place_is x rest f),
)

-- ---- a certificate

pub same_sizes : (v : Version) (c : Plain) (s : Sizes) → c.level ≡ s.level → c.bent ≡ s.bent
    → length c.edges ≡ s.counts.edges → length c.positions ≡ s.counts.events
    → length c.places ≡ s.counts.points → line (size_words v s) ≡ sizes_line v c
same_sizes One c s l b i j k = rw (l, i, j, k) refl
same_sizes Two c s l b i j k = rw (l, b, i, j, k) refl

-- a certificate that fits a version
abbrev pub FitsIn : Version → Plain → Type 0
FitsIn v c = Fits c × CanSay v c.bent

pub certificate_gave : (v : Version) (t : Text) (c : Plain) (u : Text)
    → certificate_at v t ≡ Ok (c, u) → (t.rest ≡ certificate_text v c ++ u.rest) × FitsIn v c
unfolding certificate_at
certificate_gave v t c u e =
    then_ok (line_at title_at t) _ (c, u) _ e (λ title i1 e1.
    then_ok (line_at (sizes_at v) title.1) _ (c, u) _ e1 (λ sizes i2 e2.
    then_ok (many_at (line_at event_at) sizes.0.counts.events sizes.1) _ (c, u) _ e2
    (λ positions i3 e3.
    then_ok (many_at (line_at edge_at) sizes.0.counts.edges positions.1) _ (c, u) _ e3
    (λ edges i4 e4.
    then_ok (many_at (line_at place_at) sizes.0.counts.points edges.1) _ (c, u) _ e4
    (λ places i5 e5.
    then_ok (line_at end_at places.1) _ (c, u) _ e5 (λ end i6 e6.
    let made = plain title.0 sizes.0 positions.0 edges.0 places.0 in
    let p = ok_is (made, end.1) (c, u) e6 in
    let g1 = title_gave t.rest title.0 title.1.rest (line_gave title_at t title.0 title.1 i1) in
    let g2 = sizes_gave v title.1.rest sizes.0 sizes.1.rest
    (line_gave (sizes_at v) title.1 sizes.0 sizes.1 i2) in
    let g3 = events_gave sizes.0.counts.events sizes.1 positions.0 positions.1 i3 in
    let g4 = edges_gave sizes.0.counts.edges positions.1 edges.0 edges.1 i4 in
    let g5 = places_gave sizes.0.counts.points edges.1 places.0 places.1 i5 in
    let g6 = end_gave places.1.rest end.0 end.1.rest (line_gave end_at places.1 end.0 end.1 i6) in
    let s2 : title.1.rest ≡ sizes_line v made ++ sizes.1.rest = g2.0
    ∙ ap (λ (x : List ℕ). x ++ sizes.1.rest)
    (same_sizes v made sizes.0 refl refl g4.1 g3.1 g5.1) in
    let r5 = joined edges.1.rest places.1.rest (flat_map place_line places.0)
    (line (codes "END" ∷ [])) end.1.rest g5.0 g6 in
    let r4 = joined positions.1.rest edges.1.rest (flat_map edge_line edges.0)
    (flat_map place_line places.0 ++ line (codes "END" ∷ [])) end.1.rest g4.0 r5 in
    let r3 = joined sizes.1.rest positions.1.rest (flat_map event_line positions.0)
    (flat_map edge_line edges.0 ++ (flat_map place_line places.0 ++ line (codes "END" ∷ [])))
    end.1.rest g3.0 r4 in
    let r2 = joined title.1.rest sizes.1.rest (sizes_line v made)
    (flat_map event_line positions.0
    ++ (flat_map edge_line edges.0
    ++ (flat_map place_line places.0 ++ line (codes "END" ∷ [])))) end.1.rest s2 r3 in
    let r1 = joined t.rest title.1.rest (title_line made)
    (sizes_line v made
    ++ (flat_map event_line positions.0
    ++ (flat_map edge_line edges.0
    ++ (flat_map place_line places.0 ++ line (codes "END" ∷ []))))) end.1.rest g1.0 r2 in
    let fits : Fits made = record {
      topic = g1.1;
      table = g1.2;
      attribute = g1.3;
      level = g2.1.level;
      positions = g3.2;
      edges = g4.2;
      places = g5.2;
      position_count = subst (λ (n : ℕ). n < 2 ^ 32) (sym g3.1) g2.1.events;
      edge_count = subst (λ (n : ℕ). n < 2 ^ 32) (sym g4.1) g2.1.edges;
      place_count = subst (λ (n : ℕ). n < 2 ^ 32) (sym g5.1) g2.1.points;
    } in
    subst (λ (y : Plain × Text). (t.rest ≡ certificate_text v y.0 ++ y.1.rest) × FitsIn v y.0) p
    (r1, (fits, g2.1.bent))))))))

pub regroup : (a b c d e f rest : List ℕ)
    → (a ++ (b ++ (c ++ (d ++ (e ++ f))))) ++ rest ≡ a ++ (b ++ (c ++ (d ++ (e ++ (f ++ rest)))))
regroup a b c d e f rest = simp append_assoc

pub certificate_read : (v : Version) (c : Plain) (n : ℕ) (rest : List ℕ) → FitsIn v c
    → IsRead (certificate_at v) (certificate_text v c ++ rest) n c rest
unfolding certificate_at
certificate_read v c n rest (f, said) =
    let title : Title = record { topic = c.topic; table = c.table; attribute = c.attribute } in
    let counts : Counts = record {
      edges = length c.edges;
      events = length c.positions;
      points = length c.places;
    } in
    let last = line (codes "END" ∷ []) ++ rest in
    let r5 = flat_map place_line c.places ++ last in
    let r4 = flat_map edge_line c.edges ++ r5 in
    let r3 = flat_map event_line c.positions ++ r4 in
    let r2 = sizes_line v c ++ r3 in
    let sizes : Sizes = record { level = c.level; bent = c.bent; counts = counts } in
    let same : line (size_words v sizes)
    ≡ sizes_line v c = same_sizes v c sizes refl refl refl refl refl in
    let sizes_fit : FitsSizes v sizes = record {
      level = f.level;
      bent = said;
      edges = f.edge_count;
      events = f.position_count;
      points = f.place_count;
    } in
    let h1 = line_is title_at (title_line c ++ r2) n title r2
    (line_some (codes "AREA" ∷ c.topic ∷ c.table ∷ c.attribute ∷ []) r2)
    (title_is title r2 f.topic f.table f.attribute) in
    let h2 = subst (λ (w : List ℕ). line_at (sizes_at v) (from (w ++ r3) (n + 1))
    ≡ Ok (sizes, from r3 (n + 1 + 1))) same
    (line_is (sizes_at v) (line (size_words v sizes) ++ r3) (n + 1) sizes r3
    (line_some (size_words v sizes) r3) (sizes_is v sizes r3 sizes_fit)) in
    let h3 = many_is (line_at event_at) event_line (λ n. n < 2 ^ 32) event_read c.positions
    (n + 1 + 1) r4 f.positions in
    let h4 = many_is (line_at edge_at) edge_line FitsEdge edge_read c.edges h3.0 r5 f.edges in
    let h5 = many_is (line_at place_at) place_line FitsPlace place_read c.places h4.0 last
    f.places in
    let h6 = line_is end_at last h5.0 tt rest (line_some (codes "END" ∷ []) rest) (end_is rest) in (
      h5.0 + 1,
      ap (λ (y : List ℕ). certificate_at v (from y n))
          (regroup (title_line c) (sizes_line v c) (flat_map event_line c.positions)
          (flat_map edge_line c.edges) (flat_map place_line c.places)
          (line (codes "END" ∷ [])) rest)
          ∙ step_is (line_at title_at (from (title_line c ++ r2) n)) (title, from r2 (n + 1)) _ _ h1
          (step_is (line_at (sizes_at v) (from r2 (n + 1))) (sizes, from r3 (n + 1 + 1)) _ _ h2
          (step_is (many_at (line_at event_at) (length c.positions) (from r3 (n + 1 + 1)))
          (c.positions, from r4 h3.0) _ _ h3.1
          (step_is (many_at (line_at edge_at) (length c.edges) (from r4 h3.0))
          (c.edges, from r5 h4.0) _ _ h4.1
          (step_is (many_at (line_at place_at) (length c.places) (from r5 h4.0))
          (c.places, from last h5.0) _ _ h5.1
          (step_is (line_at end_at (from last h5.0)) (tt, from rest (h5.0 + 1)) _ _ h6 refl))))),
    )

-- ---- the whole text

ended_gave : (cs : List Plain) (t : Text) (ds : List Plain) → if_ended cs t ≡ Ok ds
    → (cs ≡ ds) × (t.rest ≡ [])
ended_gave cs t ds e = by_end (nat_eq (length t.rest) 0) refl e
  where
    by_end : (b : Bool) → nat_eq (length t.rest) 0 ≡ b
        → cond b (Ok cs) (Err (faults.Line t.line)) ≡ Ok ds → (cs ≡ ds) × (t.rest ≡ [])
    by_end true h e = (ok_is cs ds e, nil_from_length t.rest (eqb-true (length t.rest) 0 h))
    by_end false h e = absurd (cc)

all_first : {A : Type 0} (P Q : A → Type 0) (xs : List A) → AllByRecursion (λ x. P x × Q x) xs
    → AllByRecursion P xs
all_first P Q [] h = tt
all_first P Q (x ∷ xs) h = (h.0.0, all_first P Q xs h.1)

all_second : {A : Type 0} (P Q : A → Type 0) (xs : List A) → AllByRecursion (λ x. P x × Q x) xs
    → AllByRecursion Q xs
all_second P Q [] h = tt
all_second P Q (x ∷ xs) h = (h.0.1, all_second P Q xs h.1)

all_both : {A : Type 0} (P Q : A → Type 0) (xs : List A) → AllByRecursion P xs → AllByRecursion Q xs
    → AllByRecursion (λ x. P x × Q x) xs
all_both P Q [] h k = tt
all_both P Q (x ∷ xs) h k = ((h.0, k.0), all_both P Q xs h.1 k.1)

-- certificates that fit, and that a version can say
pub all_fit : (v : Version) (cs : List Plain) → AllByRecursion (FitsIn v) cs
    → AllByRecursion Fits cs
all_fit v cs h = all_first Fits (λ c. CanSay v c.bent) cs h

pub all_said : (v : Version) (cs : List Plain) → AllByRecursion (FitsIn v) cs
    → AllByRecursion (λ c. CanSay v c.bent) cs
all_said v cs h = all_second Fits (λ c. CanSay v c.bent) cs h

pub all_fit_in : (v : Version) (cs : List Plain) → AllByRecursion Fits cs
    → AllByRecursion (λ c. CanSay v c.bent) cs → AllByRecursion (FitsIn v) cs
all_fit_in v cs h k = all_both Fits (λ c. CanSay v c.bent) cs h k

pub list_gave : (bytes : List ℕ) (cs : List Plain) → list_of bytes ≡ Ok cs
    → AreSpelt cs × Spells bytes cs
unfolding list_of
list_gave bytes cs e =
    then_ok (line_at version_at (from bytes 1)) _ cs _ e (λ version i1 e1.
    then_ok (line_at areas_at version.1) _ cs _ e1 (λ areas i2 e2.
    then_ok (many_at (certificate_at version.0) areas.0 areas.1) _ cs _ e2 (λ list i3 e3.
    let v = version.0 in
    let text = certificate_text v in
    let p = ended_gave list.0 list.1 cs e3 in
    let g1 = version_gave bytes v version.1.rest
    (line_gave version_at (from bytes 1) v version.1 i1) in
    let g2 = areas_gave version.1.rest areas.0 areas.1.rest
    (line_gave areas_at version.1 areas.0 areas.1 i2) in
    let g3 = many_gave (certificate_at v) text (FitsIn v)
    (certificate_gave v) areas.0 areas.1 list.0 list.1 i3 in
    let last : areas.1.rest ≡ flat_map text list.0 = g3.0
    ∙ ap (λ (r : List ℕ). flat_map text list.0 ++ r) p.1 ∙ append-nil (flat_map text list.0) in
    let middle : version.1.rest ≡ line (codes "AREAS" ∷ decimal (length list.0) ∷ [])
    ++ flat_map text list.0 =
    g2.0 ∙ ap (λ (n : ℕ). line (codes "AREAS" ∷ decimal n ∷ []) ++ areas.1.rest) (sym g3.1)
    ∙ ap (λ (r : List ℕ). line (codes "AREAS" ∷ decimal (length list.0) ∷ []) ++ r) last in
    let whole : bytes ≡ text_in v list.0 = g1
    ∙ ap (λ (r : List ℕ). line (version_words v) ++ r) middle in
    let spells : Spells bytes list.0 = record {
      version = v;
      said = all_said v list.0 g3.2;
      is = whole;
    } in
    subst (λ (y : List Plain). AreSpelt y × Spells bytes y) p.0
    ((subst (λ (n : ℕ). n < 2 ^ 32) (sym g3.1) g2.1, all_fit v list.0 g3.2), spells))))

text_is : (v : Version) (cs : List Plain) → length cs < 2 ^ 32 → AllByRecursion (FitsIn v) cs
    → list_of (text_in v cs) ≡ Ok cs
unfolding list_of
text_is v cs few fits =
    let r2 = flat_map (certificate_text v) cs in
    let r1 = line (codes "AREAS" ∷ decimal (length cs) ∷ []) ++ r2 in
    let h1 = line_is version_at (text_in v cs) 1 v r1 (line_some (version_words v) r1)
    (version_is v r1) in
    let h2 = line_is areas_at r1 (1 + 1) (length cs) r2
    (line_some (codes "AREAS" ∷ decimal (length cs) ∷ []) r2) (areas_is (length cs) r2 few) in
    let h3 = many_is (certificate_at v) (certificate_text v) (FitsIn v) (certificate_read v) cs
    (1 + 1 + 1) [] fits in
    let h4 : many_at (certificate_at v) (length cs) (from r2 (1 + 1 + 1))
    ≡ Ok (cs, from [] h3.0) =
    ap (λ (r : List ℕ). many_at (certificate_at v) (length cs) (from r (1 + 1 + 1)))
    (sym (append-nil r2)) ∙ h3.1 in
    step_is (line_at version_at (from (text_in v cs) 1)) (v, from r1 (1 + 1)) _ _ h1
    (step_is (line_at areas_at (from r1 (1 + 1))) (length cs, from r2 (1 + 1 + 1)) _ _ h2
    (step_is (many_at (certificate_at v) (length cs) (from r2 (1 + 1 + 1)))
    (cs, from [] h3.0) _ _ h4 refl))

pub list_is : (bytes : List ℕ) (cs : List Plain) → AreSpelt cs → Spells bytes cs
    → list_of bytes ≡ Ok cs
list_is bytes cs f s = ap list_of s.is
    ∙ text_is s.version cs f.0 (all_fit_in s.version cs f.1 s.said)

-- one text spells one list
pub one_list : (bytes : List ℕ) (a b : List Plain) → AreSpelt a → AreSpelt b → Spells bytes a
    → Spells bytes b → a ≡ b
one_list bytes a b f g s t = ok_is a b (sym (list_is bytes a f s) ∙ list_is bytes b g t)

pub is_found : {V : Type 0} (views : V → List Plain) (bytes : List ℕ) (r : Result V CertFault)
    → Gives views r (list_of bytes) → IfOk r (λ v. AreSpelt (views v) × Spells bytes (views v))
is_found views bytes (Ok v) given = list_gave bytes (views v) given
is_found views bytes (Err e) given = tt
