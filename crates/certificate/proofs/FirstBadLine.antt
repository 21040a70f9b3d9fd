-- The first bad line: what reading stops at is what the definition names.
use Rattle.std.proofs.Common.{◌≡◌, ℕ, zero, suc, ◌+◌, ◌^◌, ◌<◌, replicate, Bool, false, cond}
use Rattle.std.proofs.Common.{nat_eq, List, [], ◌∷◌, ◌++◌, length, Result, Ok, Err, refl, sym, ap}
use Rattle.std.proofs.Common.{subst, ◌∙◌, append_assoc, arith}
use Rattle.std.specs.Prelude.{IfErr}
use Rattle.std.specs.List.{flat_map}
use Rattle.std.proofs.lemmas.List.{append-nil, length-append}
use Rattle.std.proofs.lemmas.Bool.Decides.{nat_tests}
use Rattle.certificate.specs.declared.notes.HalfNote.{HalfNote}
use Rattle.certificate.specs.declared.notes.PointPlace.{PointPlace}
use Rattle.certificate.specs.declared.notes.PointPlace.TheVariants.{Cell}
use Rattle.certificate.specs.declared.forms.Sizes.{Sizes}
use Rattle.certificate.specs.declared.forms.Version.{Version}
use Rattle.certificate.specs.declared.forms.Version.TheVariants.{Two}
use Rattle.certificate.specs.declared.fault.CertFault.{CertFault}
use Rattle.certificate.specs.declared.fault.CertFault.TheVariants as faults
use Rattle.certificate.specs.Spelling.{Plain, line, FitsEdge, FitsPlace, AreSpelt, event_line}
use Rattle.certificate.specs.Spelling.{edge_line, place_line, certificate_text, Spells}
use Rattle.certificate.specs.Parts.{Line, Title, version_at, areas_at, title_at, sizes_at, event_at}
use Rattle.certificate.specs.Parts.{edge_at, place_at, end_at}
use Rattle.certificate.specs.Reading.{Text, Lines, line_at, many_at, plain, certificate_at}
use Rattle.certificate.specs.Reading.{if_ended, list_of, Gives}
use Rattle.certificate.specs.FirstBad.{lf_count, first_lines, Begin, IsFirstBad, IsFault, bad_line}
use Rattle.certificate.specs.FirstBad.{bad_number, too_short, out_of_memory}
use Rattle.certificate.proofs.FormLaws.{FitsSizes, version_is, areas_is, title_is, sizes_is}
use Rattle.certificate.proofs.FormLaws.{event_is, edge_is, place_is, end_is}
use Rattle.certificate.proofs.TextLaws.{from, then_ok, ok_is, event_read, edge_read, place_read}
use Rattle.certificate.proofs.TextLaws.{same_sizes, FitsIn, all_fit, all_said, all_fit_in}
use Rattle.certificate.proofs.TextLaws.{certificate_read, list_is}
use Rattle.certificate.proofs.Stops.{IsReported, reported_line, reported_number, reported_short}
use Rattle.certificate.proofs.Stops.{Stopped, Went, Det, det_of_read, then_err, ok_no_err, err_is}
use Rattle.certificate.proofs.Stops.{line_stops, both_texts, Both, first_stops, second_stops}
use Rattle.certificate.proofs.Stops.{map_stops, both_went, map_went, both_det, AreSo, all_same}
use Rattle.certificate.proofs.Stops.{many_stops, many_went}
use Rattle.certificate.proofs.LinesOfParts.{title_text, sizes_text, end_text, version_text}
use Rattle.certificate.proofs.LinesOfParts.{areas_text, FitsTitle, IsShortNumber, IsVersion, IsAny}
use Rattle.certificate.proofs.LinesOfParts.{title_lines, sizes_lines, event_lines, edge_lines}
use Rattle.certificate.proofs.LinesOfParts.{place_lines, end_lines, version_lines, areas_lines}
use Rattle.certificate.proofs.LinesOfParts.{some_name, some_note, note_fits, some_title, no_sizes}
use Rattle.certificate.proofs.LinesOfParts.{none_fit, some_plain, plain_fits_in, Parts2, text5}
use Rattle.certificate.proofs.LinesOfParts.{text4, text3, text2, text1, Good5, Good4, Good3, Good2}
use Rattle.certificate.proofs.LinesOfParts.{Good1, some5, some4, some3, some2, title_det, sizes_det}
use Rattle.certificate.proofs.LinesOfParts.{event_det, edge_det, place_det, many_det, areas_det}
use Rattle.certificate.proofs.LinesOfParts.{version_det, title_went, sizes_went, event_went}
use Rattle.certificate.proofs.LinesOfParts.{edge_went, place_went, end_went, areas_went}
use Rattle.certificate.proofs.LinesOfParts.{version_went}

-- ---- where each line stops

title_stops : (t : Text) (e : CertFault) → line_at title_at t ≡ Err e
    → Stopped title_text FitsTitle t e
title_stops =
    line_stops title_at title_text FitsTitle some_title (some_name, some_name, some_name)
    (λ y rest p. title_is y rest p.0 p.1 p.2) title_lines

sizes_stops : (v : Version) (t : Text) (e : CertFault) → line_at (sizes_at v) t ≡ Err e
    → Stopped (sizes_text v) (FitsSizes v) t e
sizes_stops v =
    line_stops (sizes_at v) (sizes_text v) (FitsSizes v) no_sizes (none_fit v) (sizes_is v)
    (sizes_lines v)

event_stops : (t : Text) (e : CertFault) → line_at event_at t ≡ Err e
    → Stopped event_line IsShortNumber t e
event_stops = line_stops event_at event_line IsShortNumber 0 (omega arith) event_is event_lines

edge_stops : (t : Text) (e : CertFault) → line_at edge_at t ≡ Err e → Stopped edge_line FitsEdge t e
edge_stops =
    line_stops edge_at edge_line FitsEdge (some_note, some_note)
    (note_fits, note_fits) edge_is edge_lines

place_stops : (t : Text) (e : CertFault) → line_at place_at t ≡ Err e
    → Stopped place_line FitsPlace t e
place_stops = line_stops place_at place_line FitsPlace (Cell 0) (omega arith) place_is place_lines

end_stops : (t : Text) (e : CertFault) → line_at end_at t ≡ Err e → Stopped end_text IsAny t e
end_stops = line_stops end_at end_text IsAny tt tt (λ y rest p. end_is rest) end_lines

areas_stops : (t : Text) (e : CertFault) → line_at areas_at t ≡ Err e
    → Stopped areas_text IsShortNumber t e
areas_stops = line_stops areas_at areas_text IsShortNumber 0 (omega arith) areas_is areas_lines

version_stops : (t : Text) (e : CertFault) → line_at version_at t ≡ Err e
    → Stopped version_text IsVersion t e
version_stops =
    line_stops version_at version_text IsVersion Two tt
    (λ y rest p. version_is y rest) version_lines

-- ---- a certificate

abbrev notes_at : ℕ → Text → Lines (List (HalfNote × HalfNote))
notes_at n = many_at (line_at edge_at) n

abbrev places_at : ℕ → Text → Lines (List PointPlace)
places_at n = many_at (line_at place_at) n

parts_stop : (v : Version) (t : Text) (e : CertFault) → certificate_at v t ≡ Err e
    → Stopped (text1 v) (Good1 v) t e
unfolding certificate_at
parts_stop v t e h =
    then_err (line_at title_at t) _ e _ h
    (λ i. first_stops title_text (λ x. text2 v) FitsTitle (λ x. Good2 v) (λ x p. some2 v) t e
    (title_stops t e i)) (λ title i1 e1.
    second_stops title_text (λ x. text2 v) FitsTitle (λ x. Good2 v) title_det t title.0 title.1 e
    (title_went t title.0 title.1 i1) (
    then_err (line_at (sizes_at v) title.1) _ e _ e1
    (λ i. first_stops (sizes_text v) (λ x. text3) (FitsSizes v) (λ s. Good3 s.counts)
    (λ s p. some3 s.counts) title.1 e (sizes_stops v title.1 e i)) (λ sizes i2 e2.
    let c = sizes.0.counts in
    second_stops (sizes_text v) (λ x. text3) (FitsSizes v) (λ s. Good3 s.counts)
    (sizes_det v) title.1 sizes.0 sizes.1 e (sizes_went v title.1 sizes.0 sizes.1 i2) (
    then_err (many_at (line_at event_at) c.events sizes.1) _ e _ e2
    (λ i. first_stops (flat_map event_line) (λ x. text4) (AreSo IsShortNumber c.events)
    (λ x. Good4 c) (λ x p. some4 c) sizes.1 e
    (many_stops (line_at event_at) event_line IsShortNumber 0
    (omega arith) event_det event_stops event_went c.events sizes.1 e i)) (λ positions i3 e3.
    second_stops (flat_map event_line) (λ x. text4) (AreSo IsShortNumber c.events) (λ x. Good4 c)
    (many_det (line_at event_at) event_line IsShortNumber event_read c.events) sizes.1
    positions.0 positions.1 e
    (many_went (line_at event_at) event_line IsShortNumber event_went c.events sizes.1 positions.0
    positions.1 i3) (
    then_err (notes_at c.edges positions.1) _ e _ e3
    (λ i. first_stops (flat_map edge_line) (λ x. text5) (AreSo FitsEdge c.edges) (λ x. Good5 c)
    (λ x p. some5 c) positions.1 e
    (many_stops (line_at edge_at) edge_line FitsEdge (some_note, some_note)
    (note_fits, note_fits) edge_det edge_stops edge_went c.edges positions.1 e i))
    (λ edges i4 e4.
    second_stops (flat_map edge_line) (λ x. text5) (AreSo FitsEdge c.edges) (λ x. Good5 c)
    (many_det (line_at edge_at) edge_line FitsEdge edge_read c.edges) positions.1 edges.0
    edges.1 e
    (many_went (line_at edge_at) edge_line FitsEdge edge_went c.edges positions.1 edges.0 edges.1
    i4) (
    then_err (places_at c.points edges.1) _ e _ e4
    (λ i. first_stops (flat_map place_line) (λ x. end_text) (AreSo FitsPlace c.points)
    (λ x. IsAny) (λ x p. (tt, tt)) edges.1 e
    (many_stops (line_at place_at) place_line FitsPlace (Cell 0)
    (omega arith) place_det place_stops place_went c.points edges.1 e i)) (λ places i5 e5.
    second_stops (flat_map place_line) (λ x. end_text) (AreSo FitsPlace c.points) (λ x. IsAny)
    (many_det (line_at place_at) place_line FitsPlace place_read c.points) edges.1 places.0
    places.1 e
    (many_went (line_at place_at) place_line FitsPlace place_went c.points edges.1 places.0 places.1
    i5) (
    then_err (line_at end_at places.1) _ e _ e5 (λ i. end_stops places.1 e i)
    (λ end i6 e6. ok_no_err (plain title.0 sizes.0 positions.0 edges.0 places.0, end.1) e _
    e6)))))))))))

there : (v : Version) (x : Title × Parts2) → Good1 v x
    → (c : Plain) × FitsIn v c × (certificate_text v c ≡ text1 v x)
there v (title, (sizes, (positions, (edges, (places, end)))))
    ((topic, table, attribute), (fit, (events, (notes, (points, any))))) =
    let made = plain title sizes positions edges places in (
      made,
      (
        record {
          topic = topic;
          table = table;
          attribute = attribute;
          level = fit.level;
          positions = events.1;
          edges = notes.1;
          places = points.1;
          position_count = subst (λ (n : ℕ). n < 2 ^ 32) (sym events.0) fit.events;
          edge_count = subst (λ (n : ℕ). n < 2 ^ 32) (sym notes.0) fit.edges;
          place_count = subst (λ (n : ℕ). n < 2 ^ 32) (sym points.0) fit.points;
        },
        fit.bent,
      ),
      ap (λ (s : List ℕ). title_text title
          ++ (s ++ (flat_map event_line positions
          ++ (flat_map edge_line edges ++ (flat_map place_line places ++ end_text end)))))
          (sym (same_sizes v made sizes refl refl notes.0 events.0 points.0)),
    )

abbrev sizes_of : Plain → Sizes
sizes_of c = record {
  level = c.level;
  bent = c.bent;
  counts = record {
    edges = length c.edges;
    events = length c.positions;
    points = length c.places;
  };
}

abbrev parts_of : Plain → Title × Parts2
parts_of c = (
  record { topic = c.topic; table = c.table; attribute = c.attribute },
  (sizes_of c, (c.positions, (c.edges, (c.places, tt)))),
)

back : (v : Version) (c : Plain) → FitsIn v c
    → (x : Title × Parts2) × Good1 v x × (text1 v x ≡ certificate_text v c)
back v c (f, said) = (
  parts_of c,
  (
    (f.topic, f.table, f.attribute),
    (
      record {
        level = f.level;
        bent = said;
        edges = f.edge_count;
        events = f.position_count;
        points = f.place_count;
      },
      ((refl, f.positions), ((refl, f.edges), ((refl, f.places), tt))),
    ),
  ),
  ap (λ (s : List ℕ). title_text (parts_of c).0
      ++ (s ++ (flat_map event_line c.positions
      ++ (flat_map edge_line c.edges ++ (flat_map place_line c.places ++ end_text tt)))))
      (same_sizes v c (sizes_of c) refl refl refl refl refl),
)

certificate_stops : (v : Version) (t : Text) (e : CertFault) → certificate_at v t ≡ Err e
    → Stopped (certificate_text v) (FitsIn v) t e
certificate_stops v t e h =
    map_stops (text1 v) (certificate_text v) (Good1 v) (FitsIn v) (there v) (back v) t e
    (parts_stop v t e h)

parts_went : (v : Version) (t : Text) (c : Plain) (u : Text) → certificate_at v t ≡ Ok (c, u)
    → Went (certificate_text v) (FitsIn v) t c u
unfolding certificate_at there
parts_went v t c u h =
    then_ok (line_at title_at t) _ (c, u) _ h (λ title i1 e1.
    then_ok (line_at (sizes_at v) title.1) _ (c, u) _ e1 (λ sizes i2 e2.
    let n = sizes.0.counts in
    then_ok (many_at (line_at event_at) n.events sizes.1) _ (c, u) _ e2 (λ positions i3 e3.
    then_ok (notes_at n.edges positions.1) _ (c, u) _ e3 (λ edges i4 e4.
    then_ok (places_at n.points edges.1) _ (c, u) _ e4 (λ places i5 e5.
    then_ok (line_at end_at places.1) _ (c, u) _ e5 (λ end i6 e6.
    let made = plain title.0 sizes.0 positions.0 edges.0 places.0 in
    let w6 = end_went places.1 end.0 end.1 i6 in
    let w5 = both_went (flat_map place_line) (λ x. end_text) (AreSo FitsPlace n.points)
    (λ x. IsAny) edges.1 places.0 places.1 end.0 end.1
    (many_went (line_at place_at) place_line FitsPlace place_went n.points edges.1 places.0
    places.1 i5) w6 in
    let w4 = both_went (flat_map edge_line) (λ x. text5) (AreSo FitsEdge n.edges)
    (λ x. Good5 n) positions.1 edges.0 edges.1 (places.0, end.0) end.1
    (many_went (line_at edge_at) edge_line FitsEdge edge_went n.edges positions.1 edges.0
    edges.1 i4) w5 in
    let w3 = both_went (flat_map event_line) (λ x. text4) (AreSo IsShortNumber n.events)
    (λ x. Good4 n) sizes.1 positions.0 positions.1 (edges.0, (places.0, end.0)) end.1
    (many_went (line_at event_at) event_line IsShortNumber event_went n.events sizes.1 positions.0
    positions.1 i3) w4 in
    let w2 = both_went (sizes_text v) (λ x. text3) (FitsSizes v)
    (λ s. Good3 s.counts) title.1 sizes.0 sizes.1
    (positions.0, (edges.0, (places.0, end.0))) end.1
    (sizes_went v title.1 sizes.0 sizes.1 i2) w3 in
    let w1 = both_went title_text (λ x. text2 v) FitsTitle (λ x. Good2 v) t title.0 title.1
    (sizes.0, (positions.0, (edges.0, (places.0, end.0)))) end.1
    (title_went t title.0 title.1 i1) w2 in
    let m = there v (title.0, (sizes.0, (positions.0, (edges.0, (places.0, end.0))))) w1.good in
    subst (λ (y : Plain × Text). Went (certificate_text v) (FitsIn v) t y.0 y.1)
    (ok_is (made, end.1) (c, u) e6)
    (map_went (text1 v) (certificate_text v) (Good1 v)
    (FitsIn v) t _ made end.1 m.1 m.2 w1)))))))

-- ---- the whole list

abbrev Top : Type 0
Top = Version × (ℕ × List Plain)

abbrev certificates_text : Version → List Plain → List ℕ
certificates_text v = flat_map (certificate_text v)

abbrev list_text : Version → ℕ × List Plain → List ℕ
list_text v = both_texts areas_text (λ n. certificates_text v)

abbrev top_text : Top → List ℕ
top_text = both_texts version_text list_text

abbrev GoodList : Version → ℕ × List Plain → Type 0
GoodList v = Both IsShortNumber (AreSo (FitsIn v))

abbrev GoodTop : Top → Type 0
GoodTop = Both IsVersion GoodList

-- the list of a text, and the parts of a list's text
spelt_there : (bytes : List ℕ) (x : Top) → GoodTop x → bytes ≡ top_text x
    → AreSpelt x.1.1 × Spells bytes x.1.1
spelt_there bytes (v, (n, cs)) (any, (few, (size, fits))) e = (
  (subst (λ (m : ℕ). m < 2 ^ 32) (sym size) few, all_fit v cs fits),
  record {
    version = v;
    said = all_said v cs fits;
    is = e ∙ ap (λ (m : ℕ). version_text v ++ (areas_text m ++ certificates_text v cs)) (sym size);
  },
)

spelt_back : (bytes : List ℕ) (cs : List Plain) → AreSpelt cs → Spells bytes cs
    → (x : Top) × GoodTop x × (top_text x ≡ bytes)
spelt_back bytes cs (few, fits) s = (
  (s.version, (length cs, cs)),
  (tt, (few, (refl, all_fit_in s.version cs fits s.said))),
  sym s.is,
)

some_list : (v : Version) → (x : ℕ × List Plain) × GoodList v x
some_list v = ((0, []), (omega arith, (refl, tt)))

list_det : (v : Version) (n : ℕ) → Det (certificates_text v) (AreSo (FitsIn v) n)
list_det v = many_det (certificate_at v) (certificate_text v) (FitsIn v) (certificate_read v)

certificate_det : (v : Version) → Det (certificate_text v) (FitsIn v)
certificate_det v =
    det_of_read (certificate_at v) (certificate_text v) (FitsIn v) (certificate_read v)

top_det : Det top_text GoodTop
top_det = both_det version_text list_text IsVersion GoodList version_det
    (λ v. both_det areas_text (λ n. certificates_text v) IsShortNumber (AreSo (FitsIn v)) areas_det
    (list_det v))

-- no more stands after a whole list
no_more : (bytes z : List ℕ) (cs ds : List Plain) → AreSpelt cs → AreSpelt ds → Spells bytes cs
    → Spells (bytes ++ z) ds → z ≡ []
no_more bytes z cs ds p q s t =
    let a = spelt_back (bytes ++ z) ds q t in
    let b = spelt_back bytes cs p s in
    sym (top_det a.0 b.0 [] z a.1 b.1 (append-nil (top_text a.0) ∙ a.2
    ∙ ap (λ (x : List ℕ). x ++ z) (sym b.2))).1

reported_fault : (bytes : List ℕ) (e : CertFault) → list_of bytes ≡ Err e
    → Stopped top_text GoodTop (from bytes 1) e → IsFault bytes e
reported_fault bytes e h (k, s, told) = by_report e told h
  where
    begin : Begin (first_lines k bytes)
    begin =
        let m = spelt_there (first_lines k bytes ++ s.rest) s.some s.good (sym s.begins) in
        record { list = s.some.1.1; spelt = m.0; rest = s.rest; is = m.1 }

    first : length (first_lines k bytes) < length bytes → IsFirstBad bytes k
    first g = record {
      whole = s.whole;
      begin = begin;
      there = g;
      bad = λ l b.
          let x = spelt_back (first_lines (suc k) bytes ++ b.rest) b.list b.spelt b.is in
          s.none l x.0 x.1 [] b.rest (append-nil (top_text x.0) ∙ x.2);
    }

    by_report : (d : CertFault) → IsReported bytes k 1 d → list_of bytes ≡ Err d → IsFault bytes d
    by_report d (reported_line m f g) j =
        let i : suc k ≡ m = omega (arith, f) in
        subst (λ (n : ℕ). IsFault bytes (faults.Line n)) i (bad_line k (first g))
    by_report d (reported_number m f g) j =
        let i : suc k ≡ m = omega (arith, f) in
        subst (λ (n : ℕ). IsFault bytes (faults.Number n)) i (bad_number k (first g))
    by_report d (reported_short m f g) j =
        let i : suc k ≡ m = omega (arith, f) in
        subst (λ (n : ℕ). IsFault bytes (faults.Short n)) i (too_short k (record {
          whole = s.whole;
          all = g;
          begin = subst Begin g begin;
          unfinished = λ list spelt o. ok_no_err list d ⊥ (sym (list_is bytes list spelt o) ∙ j);
        }))

-- what stands after a whole list is a bad line
surplus : (bytes : List ℕ) (x : Top) (u : Text) (e : CertFault)
    → Went top_text GoodTop (from bytes 1) x u → if_ended x.1.1 u ≡ Err e → IsFault bytes e
surplus bytes x u e w h = by_rest u.rest refl
  where
    cs : List Plain
    cs = x.1.1

    fault : (c : ℕ) (more : List ℕ) → u.rest ≡ c ∷ more → IsFirstBad bytes w.lines
    fault c more r =
        let lines : first_lines w.lines bytes ≡ top_text x = ap (first_lines w.lines) w.parts
        ∙ w.are.front zero w.lines u.rest (omega arith) ∙ append-nil (top_text x) in
        let next : first_lines (suc w.lines) bytes
        ≡ top_text x ++ first_lines 1 u.rest =
        ap (first_lines (suc w.lines)) w.parts
        ∙ w.are.front 1 (suc w.lines) u.rest (omega arith) in
        let there = spelt_there (top_text x) x w.good refl in
        record {
          whole = omega (arith, ap lf_count w.parts, w.are.count u.rest);
          begin = record {
            list = cs;
            spelt = there.0;
            rest = [];
            is = subst (λ (y : List ℕ). Spells y cs) (sym lines
                ∙ sym (append-nil (first_lines w.lines bytes))) there.1;
          };
          there = omega (
            arith,
            ap length lines,
            ap length w.parts,
            length-append (top_text x) u.rest,
            ap length r,
          );
          bad = λ l b.
              let all : first_lines (suc w.lines) bytes ++ b.rest
              ≡ top_text x ++ (first_lines 1 u.rest ++ b.rest) =
              ap (λ (y : List ℕ). y ++ b.rest) next
              ∙ append_assoc (top_text x) (first_lines 1 u.rest) b.rest in
              let z = no_more (top_text x) (first_lines 1 u.rest ++ b.rest) cs b.list there.0
              b.spelt there.1 (subst (λ (y : List ℕ). Spells y b.list) all b.is) in
              let y : first_lines 1 (c ∷ more) ++ b.rest
              ≡ [] = ap (λ (q : List ℕ). first_lines 1 q ++ b.rest) (sym r) ∙ z in
              absurd (omega (arith, ap length y));
        }

    by_rest : (rest : List ℕ) → u.rest ≡ rest → IsFault bytes e
    by_rest [] r =
        ok_no_err cs e _
        (sym (ap (λ (y : List ℕ). if_ended cs (record { rest = y; line = u.line })) r) ∙ h)
    by_rest (c ∷ more) r =
        let some : nat_eq (suc (length more)) 0 ≡ false = grind (arith, nat_tests) in
        let told : (let o : Result (List Plain) CertFault = Err (faults.Line u.line) in o)
        ≡ Err e = sym (ap (λ (b : Bool). cond b (Ok cs) (Err (faults.Line u.line))) some)
        ∙ sym (ap (λ (y : List ℕ). if_ended cs (record { rest = y; line = u.line })) r) ∙ h in
        let i : suc w.lines ≡ u.line = omega (arith, w.next) in
        subst (IsFault bytes) (err_is (List Plain) (faults.Line u.line) e told)
        (subst (λ (n : ℕ). IsFault bytes (faults.Line n)) i (bad_line w.lines (fault c more r)))

first_bad : (bytes : List ℕ) (e : CertFault) → list_of bytes ≡ Err e → IsFault bytes e
unfolding list_of
first_bad bytes e h =
    let t = from bytes 1 in
    let told : Stopped top_text GoodTop t e → IsFault bytes e = reported_fault bytes e h in
    then_err (line_at version_at t) _ e _ h
    (λ i. told (first_stops version_text list_text IsVersion GoodList (λ v p. some_list v) t e
    (version_stops t e i))) (λ version i1 e1.
    let v = version.0 in
    let text = certificates_text v in
    let w1 = version_went t v version.1 i1 in
    then_err (line_at areas_at version.1) _ e _ e1
    (λ i. told (second_stops version_text list_text IsVersion GoodList version_det t v version.1 e
    w1
    (first_stops areas_text (λ n. text) IsShortNumber (AreSo (FitsIn v))
    (λ n p. (replicate n some_plain, all_same (FitsIn v) n some_plain (plain_fits_in v)))
    version.1 e (areas_stops version.1 e i)))) (λ areas i2 e2.
    let w2 = areas_went version.1 areas.0 areas.1 i2 in
    then_err (many_at (certificate_at v) areas.0 areas.1) _ e _ e2
    (λ i. told (second_stops version_text list_text IsVersion GoodList version_det t v version.1 e
    w1
    (second_stops areas_text (λ n. text) IsShortNumber
    (AreSo (FitsIn v)) areas_det version.1 areas.0 areas.1 e w2
    (many_stops (certificate_at v) (certificate_text v) (FitsIn v) some_plain (plain_fits_in v)
    (certificate_det v) (certificate_stops v) (parts_went v) areas.0 areas.1 e i))))
    (λ list i3 e3.
    let w3 = many_went (certificate_at v) (certificate_text v) (FitsIn v)
    (parts_went v) areas.0 areas.1 list.0 list.1 i3 in
    let w = both_went version_text list_text IsVersion GoodList t v version.1
    (areas.0, list.0) list.1 w1
    (both_went areas_text (λ n. text) IsShortNumber
    (AreSo (FitsIn v)) version.1 areas.0 areas.1 list.0 list.1 w2 w3) in
    surplus bytes (v, (areas.0, list.0)) list.1 e w e3)))

pub is_first_bad : {V : Type 0} (views : V → List Plain) (bytes : List ℕ) (r : Result V CertFault)
    → Gives views r (list_of bytes) → IfErr r (IsFault bytes)
is_first_bad views bytes (Ok v) h = tt
is_first_bad views bytes (Err faults.Memory) h = out_of_memory
is_first_bad views bytes (Err (faults.Line n)) h = first_bad bytes (faults.Line n) h
is_first_bad views bytes (Err (faults.Number n)) h = first_bad bytes (faults.Number n) h
is_first_bad views bytes (Err (faults.Short n)) h = first_bad bytes (faults.Short n) h
