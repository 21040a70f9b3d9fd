-- The lines: what is found is written there, and what is written there is found.
use Rattle.std.proofs.Common.{◌≡◌, ℕ, ◌^◌, ◌<◌, zero, suc, Bool, true, false, cond, nat_eq, nat_lt}
use Rattle.std.proofs.Common.{List, [], ◌∷◌, ◌++◌, length, Option, Some, None, refl, sym, ap, subst}
use Rattle.std.proofs.Common.{◌∙◌, append_assoc, arith}
use Rattle.std.specs.Prelude.{codes}
use Rattle.std.specs.Fmt.{decimal}
use Rattle.std.proofs.lemmas.Bool.{eqb-true, ltb-true}
use Rattle.std.proofs.lemmas.Bool.Decides.{nat_tests}
use Rattle.certificate.specs.declared.notes.HalfNote.{HalfNote}
use Rattle.certificate.specs.declared.notes.PointPlace.{PointPlace}
use Rattle.certificate.specs.declared.notes.PointPlace.TheVariants.{Cell, Tube}
use Rattle.certificate.specs.declared.forms.Counts.{Counts}
use Rattle.certificate.specs.declared.forms.Sizes.{Sizes}
use Rattle.certificate.specs.declared.forms.Version.{Version}
use Rattle.certificate.specs.declared.forms.Version.TheVariants.{One, Two}
use Rattle.certificate.specs.Spelling.{line, IsName, FitsEdge, FitsPlace, CanSay, event_line}
use Rattle.certificate.specs.Spelling.{edge_line, place_line, side_word, link_word, bent_word}
use Rattle.certificate.specs.Spelling.{version_word}
use Rattle.certificate.specs.Parts.{◌>>=◌, Line, after_word, name_at, number_at, half_at}
use Rattle.certificate.specs.Parts.{both_notes, edge_at, numbered_at, event_at, side_at, tube}
use Rattle.certificate.specs.Parts.{tube_at, cell, cell_at, place_after, place_at, Title, title_at}
use Rattle.certificate.specs.Parts.{counts_of, bent_at, are_sizes, if_sizes, sizes_at, if_known}
use Rattle.certificate.specs.Parts.{version_at, areas_at, end_at}
use Rattle.std.specs.Char.{is_ascii_digit}
use Rattle.std.specs.Str.{all_ascii_digits}
use Rattle.std.proofs.lemmas.Fmt.{decimal_digit, decimal_nonempty}
use Rattle.certificate.proofs.Digits.{both_true}
use Rattle.certificate.proofs.PartLaws.{pair_is, no_value, decimal_digits, then, some_is, chose}
use Rattle.certificate.proofs.PartLaws.{after_word_gave, after_word_is, name_gave, name_is}
use Rattle.certificate.proofs.PartLaws.{number_gave, number_is, half_onto, half_gave, half_is}
use Rattle.certificate.proofs.PartLaws.{side_gave, side_is}

-- words, and what follows their line
abbrev pub line_onto : List (List ℕ) → List ℕ → List ℕ
line_onto [] rest = 10 ∷ rest
line_onto (word ∷ []) rest = word ++ (10 ∷ rest)
line_onto (word ∷ next ∷ words) rest = word ++ (32 ∷ line_onto (next ∷ words) rest)

pub line_then : (words : List (List ℕ)) (rest : List ℕ) → line words ++ rest ≡ line_onto words rest
line_then [] rest = refl
line_then (word ∷ []) rest = append_assoc word (codes "\n") rest
line_then (word ∷ next ∷ words) rest =
    append_assoc word (32 ∷ line (next ∷ words)) rest
    ∙ ap (λ (r : List ℕ). word ++ (32 ∷ r)) (line_then (next ∷ words) rest)

pub with_line : (bytes : List ℕ) (words : List (List ℕ)) (rest : List ℕ)
    → bytes ≡ line_onto words rest → bytes ≡ line words ++ rest
with_line bytes words rest e = e ∙ sym (line_then words rest)

-- ---- a number after a word

numbered_gave : (word bytes : List ℕ) (n : ℕ) (rest : List ℕ)
    → numbered_at word bytes ≡ Some (Some n, rest)
    → (bytes ≡ word ++ (decimal n ++ (10 ∷ rest))) × (n < 2 ^ 32)
unfolding numbered_at
numbered_gave word bytes n rest e =
    then (after_word word bytes) _ (Some n, rest) _ e (λ a i1 e1.
    then (number_at a) _ (Some n, rest) _ e1 (λ m i2 e2.
    then (after_word (codes "\n") m.1) _ (Some n, rest) _ e2 (λ b i3 e3.
    let p = some_is (m.0, b) (Some n, rest) e3 in
    let ends : b ≡ rest = ap (λ (x : Option ℕ × List ℕ). x.1) p in
    let g1 = after_word_gave word bytes a i1 in
    let g2 = number_gave a n m.1 (i2 ∙ ap (λ (x : Option ℕ × List ℕ). Some (x.0, m.1)) p) in
    let g3 = after_word_gave (codes "\n") m.1 b i3 in
    (cc (g1, g2.0, g3, ends), g2.1))))

numbered_is : (word : List ℕ) (n : ℕ) (rest : List ℕ) → n < 2 ^ 32
    → numbered_at word (word ++ (decimal n ++ (10 ∷ rest))) ≡ Some (Some n, rest)
unfolding numbered_at
numbered_is word n rest f =
    rw (after_word_is word (decimal n ++ (10 ∷ rest)), number_is n 10 rest f refl) refl

-- ---- events

pub event_gave : (bytes : List ℕ) (n : ℕ) (rest : List ℕ) → event_at bytes ≡ Some (Some n, rest)
    → (bytes ≡ event_line n ++ rest) × (n < 2 ^ 32)
event_gave bytes n rest e =
    let g = numbered_gave (codes "V ") bytes n rest e in
    (with_line bytes (codes "V" ∷ decimal n ∷ []) rest g.0, g.1)

pub event_is : (n : ℕ) (rest : List ℕ) → n < 2 ^ 32
    → event_at (event_line n ++ rest) ≡ Some (Some n, rest)
event_is n rest f = ap event_at (line_then (codes "V" ∷ decimal n ∷ []) rest)
    ∙ numbered_is (codes "V ") n rest f

-- ---- the number of certificates

pub areas_gave : (bytes : List ℕ) (n : ℕ) (rest : List ℕ) → areas_at bytes ≡ Some (Some n, rest)
    → (bytes ≡ line (codes "AREAS" ∷ decimal n ∷ []) ++ rest) × (n < 2 ^ 32)
areas_gave bytes n rest e =
    let g = numbered_gave (codes "AREAS ") bytes n rest e in
    (with_line bytes (codes "AREAS" ∷ decimal n ∷ []) rest g.0, g.1)

pub areas_is : (n : ℕ) (rest : List ℕ) → n < 2 ^ 32
    → areas_at (line (codes "AREAS" ∷ decimal n ∷ []) ++ rest) ≡ Some (Some n, rest)
areas_is n rest f = ap areas_at (line_then (codes "AREAS" ∷ decimal n ∷ []) rest)
    ∙ numbered_is (codes "AREAS ") n rest f

-- ---- edges

abbrev edge_words : HalfNote × HalfNote → List (List ℕ)
edge_words e =
    codes "E" ∷ decimal e.0.label ∷ link_word e.0.link ∷ decimal e.0.rank ∷ decimal e.1.label
    ∷ link_word e.1.link ∷ decimal e.1.rank ∷ []

both_made : (below above : Option HalfNote) (e : HalfNote × HalfNote)
    → both_notes below above ≡ Some e → (below ≡ Some e.0) × (above ≡ Some e.1)
both_made below above e h =
    then below _ e _ h (λ b i f.
    then above _ e _ f (λ a j g.
    let q = some_is (b, a) e g in (
      i ∙ ap (λ (x : HalfNote × HalfNote). Some x.0) q,
      j
          ∙ ap (λ (x : HalfNote × HalfNote). Some x.1) q,
    )))

pub edge_gave : (bytes : List ℕ) (e : HalfNote × HalfNote) (rest : List ℕ)
    → edge_at bytes ≡ Some (Some e, rest) → (bytes ≡ edge_line e ++ rest) × FitsEdge e
unfolding edge_at
edge_gave bytes e rest h =
    then (after_word (codes "E ") bytes) _ (Some e, rest) _ h (λ a i1 e1.
    then (half_at a) _ (Some e, rest) _ e1 (λ below i2 e2.
    then (after_word (codes " ") below.1) _ (Some e, rest) _ e2 (λ b i3 e3.
    then (half_at b) _ (Some e, rest) _ e3 (λ above i4 e4.
    then (after_word (codes "\n") above.1) _ (Some e, rest) _ e4 (λ c i5 e5.
    let p = some_is (both_notes below.0 above.0, c) (Some e, rest) e5 in
    let ends : c ≡ rest = ap (λ (x : Option (HalfNote × HalfNote) × List ℕ). x.1) p in
    let m = both_made below.0 above.0 e
    (ap (λ (x : Option (HalfNote × HalfNote) × List ℕ). x.0) p) in
    let g1 = after_word_gave (codes "E ") bytes a i1 in
    let g2 = half_gave a e.0 below.1 (i2 ∙ ap (λ (x : Option HalfNote). Some (x, below.1)) m.0) in
    let g3 = after_word_gave (codes " ") below.1 b i3 in
    let g4 = half_gave b e.1 above.1 (i4 ∙ ap (λ (x : Option HalfNote). Some (x, above.1)) m.1) in
    let g5 = after_word_gave (codes "\n") above.1 c i5 in
    (with_line bytes (edge_words e) rest (cc (g1, g2.0, g3, g4.0, g5, ends)), (g2.1, g4.1)))))))

pub edge_is : (e : HalfNote × HalfNote) (rest : List ℕ) → FitsEdge e
    → edge_at (edge_line e ++ rest) ≡ Some (Some e, rest)
unfolding edge_at
edge_is e rest f =
    ap edge_at (line_then (edge_words e) rest)
    ∙ rw (half_is e.0 32 (half_onto e.1 (10 ∷ rest)) f.0 refl, half_is e.1 10 rest f.1 refl) refl

-- ---- places

abbrev cell_words : ℕ → List (List ℕ)
cell_words n = codes "P" ∷ decimal n ∷ []

abbrev tube_words : ℕ → Bool → List (List ℕ)
tube_words n inside = codes "P" ∷ codes "T" ∷ decimal n ∷ side_word inside ∷ []

cell_made : (o : Option ℕ) (p : PointPlace) → cell o ≡ Some p
    → (n : ℕ) × (o ≡ Some n) × (Cell n ≡ p)
cell_made None p e = absurd (cc)
cell_made (Some n) p e = (n, refl, some_is (Cell n) p e)

tube_made : (o : Option ℕ) (inside : Bool) (p : PointPlace) → tube o inside ≡ Some p
    → (n : ℕ) × (o ≡ Some n) × (Tube n inside ≡ p)
tube_made None inside p e = absurd (cc)
tube_made (Some n) inside p e = (n, refl, some_is (Tube n inside) p e)

cell_gave : (bytes : List ℕ) (p : PointPlace) (rest : List ℕ) → cell_at bytes ≡ Some (Some p, rest)
    → (bytes ≡ place_line p ++ rest) × FitsPlace p
unfolding cell_at
cell_gave bytes p rest e =
    then (numbered_at (codes "P ") bytes) _ (Some p, rest) _ e (λ m i1 e1.
    let q = some_is (cell m.0, m.1) (Some p, rest) e1 in
    let k = cell_made m.0 p (ap (λ (x : Option PointPlace × List ℕ). x.0) q) in
    let ends : m.1 ≡ rest = ap (λ (x : Option PointPlace × List ℕ). x.1) q in
    let o = pair_is m (Some k.0) rest k.1 ends in
    let g = numbered_gave (codes "P ") bytes k.0 rest (i1
    ∙ ap (λ (x : Option ℕ × List ℕ). Some x) o) in
    subst (λ (x : PointPlace). (bytes ≡ place_line x ++ rest) × FitsPlace x) k.2
    (with_line bytes (cell_words k.0) rest g.0, g.1))

tube_gave : (bytes start : List ℕ) (p : PointPlace) (rest : List ℕ) → bytes ≡ codes "P T " ++ start
    → tube_at start ≡ Some (Some p, rest) → (bytes ≡ place_line p ++ rest) × FitsPlace p
unfolding tube_at
tube_gave bytes start p rest w e =
    then (number_at start) _ (Some p, rest) _ e (λ curve i1 e1.
    then (after_word (codes " ") curve.1) _ (Some p, rest) _ e1 (λ a i2 e2.
    then (side_at a) _ (Some p, rest) _ e2 (λ side i3 e3.
    then (after_word (codes "\n") side.1) _ (Some p, rest) _ e3 (λ b i4 e4.
    let q = some_is (tube curve.0 side.0, b) (Some p, rest) e4 in
    let k = tube_made curve.0 side.0 p (ap (λ (x : Option PointPlace × List ℕ). x.0) q) in
    let ends : b ≡ rest = ap (λ (x : Option PointPlace × List ℕ). x.1) q in
    let g1 = number_gave start k.0 curve.1 (i1 ∙ ap (λ (x : Option ℕ). Some (x, curve.1)) k.1) in
    let g2 = after_word_gave (codes " ") curve.1 a i2 in
    let g3 = side_gave a side.0 side.1 i3 in
    let g4 = after_word_gave (codes "\n") side.1 b i4 in
    subst (λ (x : PointPlace). (bytes ≡ place_line x ++ rest) × FitsPlace x) k.2
    (with_line bytes (tube_words k.0 side.0) rest (cc (w, g1.0, g2, g3, g4, ends)), g1.1)))))

place_by : (bytes : List ℕ) (o : Option (List ℕ)) (p : PointPlace) (rest : List ℕ)
    → after_word (codes "P T ") bytes ≡ o → place_after bytes o ≡ Some (Some p, rest)
    → (bytes ≡ place_line p ++ rest) × FitsPlace p
place_by bytes None p rest o e = cell_gave bytes p rest e
place_by bytes (Some start) p rest o e =
    tube_gave bytes start p rest (after_word_gave (codes "P T ") bytes start o) e

pub place_gave : (bytes : List ℕ) (p : PointPlace) (rest : List ℕ)
    → place_at bytes ≡ Some (Some p, rest) → (bytes ≡ place_line p ++ rest) × FitsPlace p
place_gave bytes p rest e = place_by bytes (after_word (codes "P T ") bytes) p rest refl e

-- a digit is no T
no_tube : (ds rest : List ℕ) → all_ascii_digits ds ≡ true → 0 < length ds
    → after_word (codes "P T ") (80 ∷ 32 ∷ (ds ++ rest)) ≡ None
no_tube [] rest h l = absurd (omega arith)
no_tube (d ∷ ds) rest h l =
    let k = (both_true (is_ascii_digit d) (all_ascii_digits ds) h).0 in
    let e : nat_eq d 84 ≡ false = grind (arith, nat_tests) in
    rw e refl

cell_is : (n : ℕ) (rest : List ℕ) → n < 2 ^ 32
    → cell_at (80 ∷ 32 ∷ (decimal n ++ (10 ∷ rest))) ≡ Some (Some (Cell n), rest)
unfolding cell_at
cell_is n rest f =
    ap (λ (o : Line ℕ). (o >>= λ m. Some (cell m.0, m.1))) (numbered_is (codes "P ") n rest f)

tube_is : (n : ℕ) (inside : Bool) (rest : List ℕ) → n < 2 ^ 32
    → tube_at (decimal n ++ (32 ∷ (side_word inside ++ (10 ∷ rest))))
    ≡ Some (Some (Tube n inside), rest)
unfolding tube_at
tube_is n inside rest f =
    rw (number_is n 32 (side_word inside ++ (10 ∷ rest)) f refl, side_is inside (10 ∷ rest)) refl

pub place_is : (p : PointPlace) (rest : List ℕ) → FitsPlace p
    → place_at (place_line p ++ rest) ≡ Some (Some p, rest)
place_is (Cell n) rest f =
    ap place_at (line_then (cell_words n) rest)
    ∙ ap (place_after (line_onto (cell_words n) rest))
    (no_tube (decimal n) (10 ∷ rest) (decimal_digits n f) (decimal_nonempty n (omega arith)))
    ∙ cell_is n rest f
place_is (Tube n inside) rest f = ap place_at (line_then (tube_words n inside) rest)
    ∙ tube_is n inside rest f

-- ---- the names

pub title_gave : (bytes : List ℕ) (t : Title) (rest : List ℕ) → title_at bytes ≡ Some (Some t, rest)
    → (bytes ≡ line (codes "AREA" ∷ t.topic ∷ t.table ∷ t.attribute ∷ []) ++ rest) × IsName t.topic
    × IsName t.table × IsName t.attribute
unfolding title_at
title_gave bytes t rest e =
    then (after_word (codes "AREA ") bytes) _ (Some t, rest) _ e (λ a i1 e1.
    then (name_at a) _ (Some t, rest) _ e1 (λ topic i2 e2.
    then (after_word (codes " ") topic.1) _ (Some t, rest) _ e2 (λ b i3 e3.
    then (name_at b) _ (Some t, rest) _ e3 (λ table i4 e4.
    then (after_word (codes " ") table.1) _ (Some t, rest) _ e4 (λ c i5 e5.
    then (name_at c) _ (Some t, rest) _ e5 (λ attribute i6 e6.
    then (after_word (codes "\n") attribute.1) _ (Some t, rest) _ e6 (λ d i7 e7.
    let made : Title = record { topic = topic.0; table = table.0; attribute = attribute.0 } in
    let p = some_is (Some made, d) (Some t, rest) e7 in
    let ends : d ≡ rest = ap (λ (x : Option Title × List ℕ). x.1) p in
    let same : made ≡ t = some_is made t (ap (λ (x : Option Title × List ℕ). x.0) p) in
    let g1 = after_word_gave (codes "AREA ") bytes a i1 in
    let g2 = name_gave a topic.0 topic.1 i2 in
    let g3 = after_word_gave (codes " ") topic.1 b i3 in
    let g4 = name_gave b table.0 table.1 i4 in
    let g5 = after_word_gave (codes " ") table.1 c i5 in
    let g6 = name_gave c attribute.0 attribute.1 i6 in
    let g7 = after_word_gave (codes "\n") attribute.1 d i7 in
    subst (λ (x : Title). (bytes ≡ line (codes "AREA" ∷ x.topic ∷ x.table ∷ x.attribute ∷ [])
    ++ rest) × IsName x.topic × IsName x.table × IsName x.attribute) same (
      with_line bytes (codes "AREA" ∷ topic.0 ∷ table.0 ∷ attribute.0 ∷ []) rest
          (cc (g1, g2.0, g3, g4.0, g5, g6.0, g7, ends)),
      g2.1,
      g4.1,
      g6.1,
    ))))))))

pub title_is : (t : Title) (rest : List ℕ) → IsName t.topic → IsName t.table → IsName t.attribute
    → title_at (line (codes "AREA" ∷ t.topic ∷ t.table ∷ t.attribute ∷ []) ++ rest)
    ≡ Some (Some t, rest)
unfolding title_at
title_is t rest f g h =
    ap title_at (line_then (codes "AREA" ∷ t.topic ∷ t.table ∷ t.attribute ∷ []) rest)
    ∙ rw (
      name_is t.topic 32 (t.table ++ (32 ∷ (t.attribute ++ (10 ∷ rest)))) f refl,
      name_is t.table 32 (t.attribute ++ (10 ∷ rest)) g refl,
      name_is t.attribute 10 rest h refl,
    )
    refl

-- ---- the level and the counts

abbrev pub size_words : Version → Sizes → List (List ℕ)
size_words One s =
    codes "SIZES" ∷ decimal s.level ∷ decimal s.counts.edges ∷ decimal s.counts.events
    ∷ decimal s.counts.points ∷ []
size_words Two s =
    codes "SIZES" ∷ decimal s.level ∷ bent_word s.bent ∷ decimal s.counts.edges
    ∷ decimal s.counts.events ∷ decimal s.counts.points ∷ []

pub record FitsSizes (v : Version) (s : Sizes) : Type 0 where
  pub level : s.level < 256
  pub bent : CanSay v s.bent
  pub edges : s.counts.edges < 2 ^ 32
  pub events : s.counts.events < 2 ^ 32
  pub points : s.counts.points < 2 ^ 32

counts_made : (edges events points : Option ℕ) (c : Counts) → counts_of edges events points ≡ Some c
    → (edges ≡ Some c.edges) × (events ≡ Some c.events) × (points ≡ Some c.points)
counts_made edges events points c h =
    then edges _ c _ h (λ e i f.
    then events _ c _ f (λ v j g.
    then points _ c _ g (λ p m n.
    let q : (let x : Counts = record { edges = e; events = v; points = p } in x)
    ≡ c = some_is _ c n in (
      i ∙ ap (λ (x : Counts). Some x.edges) q,
      j ∙ ap (λ (x : Counts). Some x.events) q,
      m
          ∙ ap (λ (x : Counts). Some x.points) q,
    ))))

-- what if_sizes took: the numbers, and that they are sizes
pub record Took (level bent : Option ℕ) (counts : Option Counts) (bytes : List ℕ) (s : Sizes)
    (rest : List ℕ)
    : Type 0 where
  pub flag : ℕ
  pub level_is : level ≡ Some s.level
  pub bent_is : bent ≡ Some flag
  pub said : nat_eq flag 1 ≡ s.bent
  pub few : flag < 2
  pub counts_are : counts ≡ Some s.counts
  pub ends : bytes ≡ rest
  pub low : s.level < 256

took : (level bent : Option ℕ) (counts : Option Counts) (bytes : List ℕ) (s : Sizes) (rest : List ℕ)
    → if_sizes level bent counts bytes ≡ Some (Some s, rest) → Took level bent counts bytes s rest
took None bent counts bytes s rest e = absurd (no_value bytes rest s e)
took (Some l) None counts bytes s rest e = absurd (no_value bytes rest s e)
took (Some l) (Some b) None bytes s rest e = absurd (no_value bytes rest s e)
took (Some l) (Some b) (Some c) bytes s rest e =
    let made : Sizes = record { level = l; bent = nat_eq b 1; counts = c } in
    let k = chose (are_sizes l b) (Some made, bytes) (Some s, rest) e in
    let p : made ≡ s = some_is made s (ap (λ (x : Option Sizes × List ℕ). x.0) k.1) in
    let both = both_true (nat_lt l 256) (nat_lt b 2) k.0 in
    let low : l < 256 = ltb-true _ _ both.0 in
    record {
      flag = b;
      level_is = ap (λ (x : Sizes). Some x.level) p;
      bent_is = refl;
      said = ap (λ (x : Sizes). x.bent) p;
      few = ltb-true _ _ both.1;
      counts_are = ap (λ (x : Sizes). Some x.counts) p;
      ends = ap (λ (x : Option Sizes × List ℕ). x.1) k.1;
      low = subst (λ (x : Sizes). x.level < 256) p low;
    }

-- the word of the flag, and what follows it
abbrev bent_onto : Version → ℕ → List ℕ → List ℕ
bent_onto One flag rest = rest
bent_onto Two flag rest = 32 ∷ (decimal flag ++ rest)

abbrev IsFlag : Version → ℕ → Type 0
IsFlag One flag = flag ≡ 0
IsFlag Two flag = flag < 2 ^ 32

bent_gave : (v : Version) (bytes : List ℕ) (n : ℕ) (rest : List ℕ)
    → bent_at v bytes ≡ Some (Some n, rest)
    → (bytes ≡ bent_onto v n rest) × IsFlag v n
bent_gave One bytes n rest e =
    let p = some_is (Some 0, bytes) (Some n, rest) e in (
      ap (λ (x : Option ℕ × List ℕ). x.1) p,
      sym (some_is 0 n (ap (λ (x : Option ℕ × List ℕ). x.0) p)),
    )
bent_gave Two bytes n rest e =
    then (after_word (codes " ") bytes) _ (Some n, rest) _ e (λ a i1 e1.
    let g1 = after_word_gave (codes " ") bytes a i1 in
    let g2 = number_gave a n rest e1 in
    (g1 ∙ ap (λ (x : List ℕ). 32 ∷ x) g2.0, g2.1))

flag_word : (n : ℕ) → n < 2 → decimal n ≡ bent_word (nat_eq n 1)
flag_word zero h = decimal_digit 0 (omega arith)
flag_word (suc zero) h = decimal_digit 1 (omega arith)
flag_word (suc (suc n)) h = absurd (omega (arith, h))

-- the words of the sizes, where the flag says what is said there
onto_is : (v : Version) (s : Sizes) (n : ℕ) (rest : List ℕ) → n < 2 → nat_eq n 1 ≡ s.bent
    → codes "SIZES "
    ++ (decimal s.level ++ bent_onto v n
    (32 ∷ (decimal s.counts.edges ++ (32 ∷ (decimal s.counts.events
    ++ (32 ∷ (decimal s.counts.points ++ (10 ∷ rest))))))))
    ≡ line_onto (size_words v s) rest
onto_is One s n rest l e = refl
onto_is Two s n rest l e =
    let word : decimal n ≡ bent_word s.bent = flag_word n l ∙ ap bent_word e in
    rw word refl

says : (v : Version) (n : ℕ) (b : Bool) → IsFlag v n → nat_eq n 1 ≡ b → CanSay v b
says One n b h e = sym e ∙ ap (λ (i : ℕ). nat_eq i 1) h
says Two n b h e = tt

pub sizes_gave : (v : Version) (bytes : List ℕ) (s : Sizes) (rest : List ℕ)
    → sizes_at v bytes ≡ Some (Some s, rest)
    → (bytes ≡ line (size_words v s) ++ rest) × FitsSizes v s
unfolding sizes_at
sizes_gave v bytes s rest h =
    then (after_word (codes "SIZES ") bytes) _ (Some s, rest) _ h (λ a i1 e1.
    then (number_at a) _ (Some s, rest) _ e1 (λ level i2 e2.
    then (bent_at v level.1) _ (Some s, rest) _ e2 (λ bent i3 e3.
    then (after_word (codes " ") bent.1) _ (Some s, rest) _ e3 (λ b i4 e4.
    then (number_at b) _ (Some s, rest) _ e4 (λ edges i5 e5.
    then (after_word (codes " ") edges.1) _ (Some s, rest) _ e5 (λ c i6 e6.
    then (number_at c) _ (Some s, rest) _ e6 (λ events i7 e7.
    then (after_word (codes " ") events.1) _ (Some s, rest) _ e7 (λ d i8 e8.
    then (number_at d) _ (Some s, rest) _ e8 (λ points i9 e9.
    then (after_word (codes "\n") points.1) _ (Some s, rest) _ e9 (λ z i10 e10.
    let m = took level.0 bent.0 (counts_of edges.0 events.0 points.0) z s rest e10 in
    let n = counts_made edges.0 events.0 points.0 s.counts m.counts_are in
    let g1 = after_word_gave (codes "SIZES ") bytes a i1 in
    let g2 = number_gave a s.level level.1 (i2
    ∙ ap (λ (x : Option ℕ). Some (x, level.1)) m.level_is) in
    let g3 = bent_gave v level.1 m.flag bent.1 (i3
    ∙ ap (λ (x : Option ℕ). Some (x, bent.1)) m.bent_is) in
    let g4 = after_word_gave (codes " ") bent.1 b i4 in
    let g5 = number_gave b s.counts.edges edges.1 (i5
    ∙ ap (λ (x : Option ℕ). Some (x, edges.1)) n.0) in
    let g6 = after_word_gave (codes " ") edges.1 c i6 in
    let g7 = number_gave c s.counts.events events.1 (i7
    ∙ ap (λ (x : Option ℕ). Some (x, events.1)) n.1) in
    let g8 = after_word_gave (codes " ") events.1 d i8 in
    let g9 = number_gave d s.counts.points points.1 (i9
    ∙ ap (λ (x : Option ℕ). Some (x, points.1)) n.2) in
    let g10 = after_word_gave (codes "\n") points.1 z i10 in
    let ends : z ≡ rest = m.ends in
    let counts : bent.1 ≡ 32 ∷ (decimal s.counts.edges ++ (32 ∷ (decimal s.counts.events
    ++ (32 ∷ (decimal s.counts.points ++ (10 ∷ rest)))))) =
    cc (g4, g5.0, g6, g7.0, g8, g9.0, g10, ends) in
    let whole = g1
    ∙ ap (λ (x : List ℕ). codes "SIZES " ++ x) (g2.0 ∙ ap (λ (x : List ℕ). decimal s.level ++ x)
    (g3.0 ∙ ap (bent_onto v m.flag) counts)) in (
      with_line bytes (size_words v s) rest (whole ∙ onto_is v s m.flag rest m.few m.said),
      record {
        level = m.low;
        bent = says v m.flag s.bent g3.1 m.said;
        edges = g5.1;
        events = g7.1;
        points = g9.1;
      },
    )))))))))))

sizes_one : (level : ℕ) (c : Counts) (rest : List ℕ)
    → (let s : Sizes = record { level = level; bent = false; counts = c } in FitsSizes One s
    → sizes_at One (line (size_words One s) ++ rest) ≡ Some (Some s, rest))
unfolding sizes_at
sizes_one level c rest f =
    let t : nat_lt level 256 ≡ true = let l : level < 256 = f.level in grind (arith, nat_tests) in
    ap (sizes_at One)
    (line_then (size_words One (record { level = level; bent = false; counts = c })) rest)
    ∙ rw (
      number_is level 32 (decimal c.edges
          ++ (32 ∷ (decimal c.events ++ (32 ∷ (decimal c.points ++ (10 ∷ rest))))))
          (omega (arith, f.level)) refl,
      number_is c.edges 32 (decimal c.events ++ (32 ∷ (decimal c.points ++ (10 ∷ rest)))) f.edges
          refl,
      number_is c.events 32 (decimal c.points ++ (10 ∷ rest)) f.events refl,
      number_is c.points 10 rest f.points refl,
      t,
    ) refl

sizes_two : (level : ℕ) (bent : Bool) (c : Counts) (rest : List ℕ)
    → (let s : Sizes = record { level = level; bent = bent; counts = c } in FitsSizes Two s
    → sizes_at Two (line (size_words Two s) ++ rest) ≡ Some (Some s, rest))
unfolding sizes_at
sizes_two level true c rest f =
    let t : nat_lt level 256 ≡ true = let l : level < 256 = f.level in grind (arith, nat_tests) in
    let s : Sizes = record { level = level; bent = true; counts = c } in
    let counts : List ℕ = decimal c.edges
    ++ (32 ∷ (decimal c.events ++ (32 ∷ (decimal c.points ++ (10 ∷ rest))))) in
    ap (sizes_at Two) (line_then (size_words Two s) rest
    ∙ sym (onto_is Two s 1 rest (omega arith) refl))
    ∙ rw (
      number_is level 32 (decimal 1 ++ (32 ∷ counts)) (omega (arith, f.level)) refl,
      number_is 1 32 counts (omega arith) refl,
      number_is c.edges 32 (decimal c.events ++ (32 ∷ (decimal c.points ++ (10 ∷ rest)))) f.edges
          refl,
      number_is c.events 32 (decimal c.points ++ (10 ∷ rest)) f.events refl,
      number_is c.points 10 rest f.points refl,
      t,
    ) refl
sizes_two level false c rest f =
    let t : nat_lt level 256 ≡ true = let l : level < 256 = f.level in grind (arith, nat_tests) in
    let s : Sizes = record { level = level; bent = false; counts = c } in
    let counts : List ℕ = decimal c.edges
    ++ (32 ∷ (decimal c.events ++ (32 ∷ (decimal c.points ++ (10 ∷ rest))))) in
    ap (sizes_at Two) (line_then (size_words Two s) rest
    ∙ sym (onto_is Two s 0 rest (omega arith) refl))
    ∙ rw (
      number_is level 32 (decimal 0 ++ (32 ∷ counts)) (omega (arith, f.level)) refl,
      number_is 0 32 counts (omega arith) refl,
      number_is c.edges 32 (decimal c.events ++ (32 ∷ (decimal c.points ++ (10 ∷ rest)))) f.edges
          refl,
      number_is c.events 32 (decimal c.points ++ (10 ∷ rest)) f.events refl,
      number_is c.points 10 rest f.points refl,
      t,
    ) refl

pub sizes_is : (v : Version) (s : Sizes) (rest : List ℕ) → FitsSizes v s
    → sizes_at v (line (size_words v s) ++ rest) ≡ Some (Some s, rest)
sizes_is One s rest f =
    sizes_one s.level s.counts rest (record {
      level = f.level;
      bent = refl;
      edges = f.edges;
      events = f.events;
      points = f.points;
    })
    ∙ ap (λ (b : Bool). Some (Some (record { level = s.level; bent = b; counts = s.counts }), rest))
    (sym f.bent)
sizes_is Two s rest f = sizes_two s.level s.bent s.counts rest f

-- ---- the version

abbrev pub version_words : Version → List (List ℕ)
version_words v = codes "ITFCERT" ∷ version_word v ∷ []

abbrev number_of : Version → ℕ
number_of One = 1
number_of Two = 2

known_made : (o : Option ℕ) (bytes : List ℕ) (v : Version) (rest : List ℕ)
    → if_known o bytes ≡ Some (Some v, rest) → (o ≡ Some (number_of v)) × (bytes ≡ rest)
known_made None bytes v rest e = absurd (no_value bytes rest v e)
known_made (Some m) bytes v rest e = by_first (nat_eq m 1) refl e
  where
    was : (w : Version) → (let found : Line Version = Some (Some w, bytes) in found)
        ≡ Some (Some v, rest) → m ≡ number_of w → (Some m ≡ Some (number_of v)) × (bytes ≡ rest)
    was w k i =
        let p = some_is (Some w, bytes) (Some v, rest) k in
        let same : w ≡ v = some_is w v (ap (λ (x : Option Version × List ℕ). x.0) p) in (
          ap (λ (x : ℕ). Some x) (i ∙ ap number_of same),
          ap (λ (x : Option Version × List ℕ). x.1) p,
        )

    by_first : (b : Bool) → nat_eq m 1 ≡ b
        → cond {A = Line Version} b (Some (Some One, bytes))
        (cond (nat_eq m 2) (Some (Some Two, bytes)) None) ≡ Some (Some v, rest)
        → (Some m ≡ Some (number_of v)) × (bytes ≡ rest)
    by_first true h k = was One k (eqb-true m 1 h)
    by_first false h k =
        let c = chose (nat_eq m 2) (Some Two, bytes) (Some v, rest) k in
        was Two (ap (λ (x : Option Version × List ℕ). Some x) c.1) (eqb-true m 2 c.0)

version_onto : (v : Version) (rest : List ℕ)
    → line (version_words v) ++ rest ≡ codes "ITFCERT " ++ (decimal (number_of v) ++ (10 ∷ rest))
version_onto One rest =
    ap (λ (d : List ℕ). codes "ITFCERT " ++ (d ++ (10 ∷ rest)))
    (sym (decimal_digit 1 (omega arith)))
version_onto Two rest =
    ap (λ (d : List ℕ). codes "ITFCERT " ++ (d ++ (10 ∷ rest)))
    (sym (decimal_digit 2 (omega arith)))

pub version_gave : (bytes : List ℕ) (v : Version) (rest : List ℕ)
    → version_at bytes ≡ Some (Some v, rest) → bytes ≡ line (version_words v) ++ rest
unfolding version_at
version_gave bytes v rest e =
    then (numbered_at (codes "ITFCERT ") bytes) _ (Some v, rest) _ e (λ m i1 e1.
    let k = known_made m.0 m.1 v rest e1 in
    let o = pair_is m (Some (number_of v)) rest k.0 k.1 in
    (numbered_gave (codes "ITFCERT ") bytes (number_of v) rest (i1
    ∙ ap (λ (x : Option ℕ × List ℕ). Some x) o)).0 ∙ sym (version_onto v rest))

number_fits : (v : Version) → number_of v < 2 ^ 32
number_fits One = omega arith
number_fits Two = omega arith

known : (v : Version) (rest : List ℕ) → if_known (Some (number_of v)) rest ≡ Some (Some v, rest)
known One rest = refl
known Two rest = refl

pub version_is : (v : Version) (rest : List ℕ)
    → version_at (line (version_words v) ++ rest) ≡ Some (Some v, rest)
unfolding version_at
version_is v rest = ap version_at (version_onto v rest)
    ∙ ap (λ (o : Line ℕ). (o >>= λ m. if_known m.0 m.1))
    (numbered_is (codes "ITFCERT ") (number_of v) rest (number_fits v)) ∙ known v rest

-- ---- the end

pub end_gave : (bytes : List ℕ) (u : Unit {0}) (rest : List ℕ) → end_at bytes ≡ Some (Some u, rest)
    → bytes ≡ line (codes "END" ∷ []) ++ rest
unfolding end_at
end_gave bytes u rest e =
    then (after_word (codes "END\n") bytes) _ (Some u, rest) _ e (λ a i1 e1.
    let p = some_is (Some tt, a) (Some u, rest) e1 in
    after_word_gave (codes "END\n") bytes a i1
    ∙ ap (λ (x : Option (Unit {0}) × List ℕ). codes "END\n" ++ x.1) p)

pub end_is : (rest : List ℕ) → end_at (line (codes "END" ∷ []) ++ rest) ≡ Some (Some tt, rest)
unfolding end_at
end_is rest = refl
