-- The canonical lines have words of a transfer, and fields that are words.
use Rattle.std.proofs.Common.{◌≡◌, ◌+◌, ◌==◌, inl, inr, ℕ, Bool, true, false, not, ◌&&◌, List, []}
use Rattle.std.proofs.Common.{◌∷◌, ◌++◌, refl, subst, sym, if◌then◌else◌, nat_eq}
use Rattle.std.proofs.lemmas.List.Concat.{flat_map-cons}
use Rattle.std.specs.Prelude.{codes}
use Rattle.std.specs.List.{flat_map}
use Rattle.itf_lines.specs.declared.word.LineWord.{LineWord}
use Rattle.itf_lines.specs.declared.word.LineWord.TheVariants.{Mtid, Modl, Topi, Tabl, Obje, Stpt}
use Rattle.itf_lines.specs.declared.word.LineWord.TheVariants.{Lipt, Arcp, Elin, Etab, Etop, Emod}
use Rattle.itf_lines.specs.declared.word.LineWord.TheVariants.{Ende}
use Rattle.itf_lines.specs.Fields.{is_blank}
use Rattle.itf_lines.specs.LogicalLines.{LogicalLine}
use Rattle.itf_reader.specs.Forms.{Table, Form, Kind, Start, Straight, OnArc, Vertex, Row}
use Rattle.itf_reader.specs.TransferText.{line}
use Rattle.itf_writer.specs.Canonical.{vertex_word, stroke_lines, row_lines, table_lines}
use Rattle.itf_writer.specs.Canonical.{tables_lines, has_rows, topic_lines, topics_lines}
use Rattle.itf_writer.specs.Canonical.{canon_lines}
use Rattle.itf_writer.proofs.Words.{IsWord, one_byte, more_bytes}
use Rattle.itf_writer.proofs.CameByName.{VertexWords, StrokeWords, RowWords}
use Rattle.itf_writer.proofs.Known.{Known, AllKnown, TopicRest, topic_rest_later, topic_known}
use Rattle.itf_writer.proofs.SpelledLines.{IsSpelt, is_spelt, AreSpelt}

-- ---- the words of lines
abbrev is_solid : List ℕ → Bool
is_solid [] = false
is_solid (c ∷ []) = not (is_blank c) && not (c == 10)
is_solid (c ∷ d ∷ w) = not (is_blank c) && (not (c == 10) && is_solid (d ∷ w))

both : (a b : Bool) → (not a && b) ≡ true → (a ≡ false) × (b ≡ true)
both true b h = absurd cc
both false b h = (refl, h)

both_not : (a b : Bool) → (not a && not b) ≡ true → (a ≡ false) × (b ≡ false)
both_not true b h = absurd cc
both_not false true h = absurd cc
both_not false false h = (refl, refl)

solid_word : (w : List ℕ) → is_solid w ≡ true → IsWord w
solid_word [] h = absurd cc
solid_word (c ∷ []) h = let p = both_not (is_blank c) (c == 10) h in one_byte c p.0 p.1
solid_word (c ∷ d ∷ w) h =
    let p = both (is_blank c) (not (c == 10) && is_solid (d ∷ w)) h in
    let q = both (c == 10) (is_solid (d ∷ w)) p.1 in
    more_bytes c (d ∷ w) p.0 q.0 (solid_word (d ∷ w) q.1)

-- the words after the head
data IsInside : LineWord → Type 0 where
  mtid : IsInside Mtid
  modl : IsInside Modl
  topi : IsInside Topi
  tabl : IsInside Tabl
  obje : IsInside Obje
  stpt : IsInside Stpt
  lipt : IsInside Lipt
  arcp : IsInside Arcp
  elin : IsInside Elin
  etab : IsInside Etab
  etop : IsInside Etop
  emod : IsInside Emod
  ende : IsInside Ende

inside : (w : LineWord) → IsInside w → IsSpelt w
inside _ mtid = is_spelt Mtid (solid_word (codes "MTID") refl) refl refl
inside _ modl = is_spelt Modl (solid_word (codes "MODL") refl) refl refl
inside _ topi = is_spelt Topi (solid_word (codes "TOPI") refl) refl refl
inside _ tabl = is_spelt Tabl (solid_word (codes "TABL") refl) refl refl
inside _ obje = is_spelt Obje (solid_word (codes "OBJE") refl) refl refl
inside _ stpt = is_spelt Stpt (solid_word (codes "STPT") refl) refl refl
inside _ lipt = is_spelt Lipt (solid_word (codes "LIPT") refl) refl refl
inside _ arcp = is_spelt Arcp (solid_word (codes "ARCP") refl) refl refl
inside _ elin = is_spelt Elin (solid_word (codes "ELIN") refl) refl refl
inside _ etab = is_spelt Etab (solid_word (codes "ETAB") refl) refl refl
inside _ etop = is_spelt Etop (solid_word (codes "ETOP") refl) refl refl
inside _ emod = is_spelt Emod (solid_word (codes "EMOD") refl) refl refl
inside _ ende = is_spelt Ende (solid_word (codes "ENDE") refl) refl refl

spelt-append : (a b : List LogicalLine) → AreSpelt a → AreSpelt b → AreSpelt (a ++ b)
spelt-append [] b h k = k
spelt-append (l ∷ a) b h k = (h.0, h.1, spelt-append a b h.2 k)

-- ---- objects
vertex_spelt : (k : Kind) → IsSpelt (vertex_word k)
vertex_spelt Start = inside Stpt stpt
vertex_spelt Straight = inside Lipt lipt
vertex_spelt OnArc = inside Arcp arcp

stroke_spelt : (s : List Vertex) → VertexWords s → AreSpelt (stroke_lines s)
stroke_spelt [] h = (inside Elin elin, tt, tt)
stroke_spelt (v ∷ vs) h = (vertex_spelt v.kind, h.0, stroke_spelt vs h.1)

strokes_spelt : (ss : List (List Vertex)) → StrokeWords ss → AreSpelt (flat_map stroke_lines ss)
strokes_spelt [] h = tt
strokes_spelt (s ∷ ss) h =
    subst (λ (ls : List LogicalLine). AreSpelt ls) (sym (flat_map-cons stroke_lines s ss))
    (spelt-append (stroke_lines s) (flat_map stroke_lines ss) (stroke_spelt s h.0)
    (strokes_spelt ss h.1))

rows_spelt : (rows : List Row) → RowWords rows → AreSpelt (flat_map row_lines rows)
rows_spelt [] h = tt
rows_spelt (r ∷ rows) h =
    subst (λ (ls : List LogicalLine). AreSpelt ls) (sym (flat_map-cons row_lines r rows))
    (spelt-append (row_lines r) (flat_map row_lines rows)
    (inside Obje obje, h.0, strokes_spelt r.strokes h.1) (rows_spelt rows h.2))

-- ---- tables and topics
table_spelt : {f : Form} {n : ℕ} (t : Table) (rows : List Row) → Known f n t rows
    → AreSpelt (table_lines t.name rows)
table_spelt t [] h = tt
table_spelt t (r ∷ rows) h = elim h [
  | inl e ↦ absurd (not_none r rows e)
  | inr c ↦ (
    inside Tabl tabl,
    (c.word, tt),
    spelt-append (flat_map row_lines (r ∷ rows)) (line Etab 0 [] ∷ [])
        (rows_spelt (r ∷ rows) c.row_words) (inside Etab etab, tt, tt),
  )
]
  where
    not_none : (r : Row) (rows : List Row) → r ∷ rows ≡ [] → ⊥
    not_none r rows e = absurd cc

spelt_if : (b : Bool) (ls : List LogicalLine) → (b ≡ true → AreSpelt ls)
    → AreSpelt (if b then ls else [])
spelt_if true ls h = h refl
spelt_if false ls h = tt

tables_spelt : (f : Form) (k n : ℕ) (ts : List Table) (transfer : List (List Row))
    → AllKnown f n ts transfer → AreSpelt (tables_lines k ts transfer)
tables_spelt f k n [] transfer h = tt
tables_spelt f k n (t ∷ ts) [] h = absurd h
tables_spelt f k n (t ∷ ts) (rows ∷ others) h =
    spelt-append (if nat_eq t.topic k then table_lines t.name rows else [])
    (tables_lines k ts others)
    (spelt_if (nat_eq t.topic k) (table_lines t.name rows)
    (λ e. table_spelt {f = f} {n = n} t rows h.0)) (tables_spelt f k (n + 1) ts others h.1)

topics_spelt : (f : Form) (k : ℕ) (names : List (List ℕ)) (transfer : List (List Row))
    → TopicRest f k names → AllKnown f 0 f.tables transfer
    → AreSpelt (topics_lines k names f.tables transfer)
topics_spelt f k [] transfer h a = tt
topics_spelt f k (name ∷ names) transfer h a =
    let ls = tables_lines k f.tables transfer in
    spelt-append (topic_lines k name f.tables transfer)
    (topics_lines (k + 1) names f.tables transfer)
    (spelt_if (has_rows k f.tables transfer) (line Topi 0 (name ∷ []) ∷ (ls ++ line Etop 0 [] ∷ []))
    (λ e. (
      inside Topi topi,
      ((topic_known f k name names transfer h e a).1, tt),
      spelt-append ls (line Etop 0 [] ∷ []) (tables_spelt f k 0 f.tables transfer a)
          (inside Etop etop, tt, tt),
    )))
    (topics_spelt f (k + 1) names transfer (topic_rest_later f k name names h) a)

pub canon_spelt : (f : Form) (transfer : List (List Row)) → IsWord f.model
    → AllKnown f 0 f.tables transfer → AreSpelt (canon_lines f transfer)
canon_spelt f transfer m a = (
  inside Mtid mtid,
  tt,
  (
    inside Modl modl,
    (m, tt),
    spelt-append (topics_lines 0 f.topics f.tables transfer) (line Emod 0 [] ∷ line Ende 0 [] ∷ [])
        (topics_spelt f 0 f.topics transfer (λ fs n l e. e) a)
        (inside Emod emod, tt, (inside Ende ende, tt, tt)),
  ),
)
