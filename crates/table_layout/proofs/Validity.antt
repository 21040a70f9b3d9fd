-- The layout of a sound model is valid.
use Rattle.std.proofs.Common.{◌≡◌, ◌<◌, ◌≤◌, ◌+◌, ℕ, zero, suc, List, [], ◌∷◌, ◌++◌, Some, length}
use Rattle.std.proofs.Common.{refl, ◌∙◌, sym, ap, subst, arith, length-append, append_assoc}
use Rattle.std.specs.Prelude.{slice_get}
use Rattle.std.specs.List.{All, flat_map}
use Rattle.std.proofs.lemmas.List.{length-map}
use Rattle.std.proofs.lemmas.List.Elements.{All-nil, All-cons, All-head, All-tail, All-append}
use Rattle.ili_lexer.specs.Forms.{IsName}
use Rattle.ili_grammar.specs.Limits.{AreCodes}
use Rattle.resolver.specs.Resolved.{ModelTable, Topic, ResolvedModel}
use Rattle.resolver.specs.Sound.{listed, IsSound, IsSoundTable, IsSoundTopic}
use Rattle.table_layout.specs.Layouts.{Role, Main, AreaLines, SurfaceLines, Table, AreaOf, Layout}
use Rattle.table_layout.specs.Tables.{Owner, areas_in, surfaces_in, numbers_from, area_tables}
use Rattle.table_layout.specs.Tables.{surface_table, main_table, with_helpers, tables_beside}
use Rattle.table_layout.specs.Tables.{topic_tables, tables_from, column_name, area_of, areas_from}
use Rattle.table_layout.specs.Tables.{topic_names_of}
use Rattle.table_layout.specs.ByTopic.{AreByTopic}
use Rattle.table_layout.specs.Few.{IsSmallTable, IsSmallTopic, numbers_in}
use Rattle.table_layout.specs.Valid.{IsMain, IsTable, IsArea, Rise, HasArea, IsValid}
use Rattle.table_layout.proofs.Counts.{length-areas, length-with_helpers, length-topic, numbers_few}
use Rattle.table_layout.proofs.Counts.{small_topics}
use Rattle.table_layout.proofs.Steps.{length-numbers}
use Rattle.table_layout.proofs.TopicOrder.{tables_by_topic}
use Rattle.table_layout.proofs.HelpersValid.{get_at, with_helpers_valid}
use Rattle.table_layout.proofs.NamesValid.{Declared, tables_named, topics_named}

pub got_at : {A : Type 0} (whole before : List A) (x : A) (after : List A) (n : ℕ)
    → whole ≡ before ++ x ∷ after → length before ≡ n → slice_get whole n ≡ Some x
got_at {A} whole before x after n e l =
    ap (λ (s : List A). slice_get s n) e
    ∙ subst (λ k. slice_get (before ++ x ∷ after) k ≡ Some x) l (get_at before x after)

-- ---- a topic
pub regroup_main : (pre a : List Table) (m : Table) (s rest post : List Table)
    → pre ++ (((a ++ m ∷ s) ++ rest) ++ post) ≡ (pre ++ a) ++ m ∷ (s ++ (rest ++ post))
regroup_main pre a m s rest post = simp append_assoc

pub regroup : (pre block rest post : List Table)
    → pre ++ ((block ++ rest) ++ post) ≡ (pre ++ block) ++ (rest ++ post)
regroup pre block rest post = simp append_assoc

-- each number of a declared table is that of one
numbers_main : (n : ℕ) (whole : List Table) (mains : List ℕ) (first : ℕ) (ts : List ModelTable)
    (pre post : List Table)
    → whole ≡ pre ++ (tables_beside n mains (numbers_from first ts) ts ++ post) → length pre ≡ first
    → All (IsMain whole n) (numbers_from first ts)
numbers_main n whole mains first [] pre post e l = All-nil (IsMain whole n)
numbers_main n whole mains first (t ∷ ts) pre post e l =
    let own = listed t.attributes in
    let w : Owner = record {
      topic = n;
      mains = mains;
      main = first + areas_in own;
      name = t.name;
    } in
    let block : List Table = with_helpers w own t.idents in
    let next : ℕ = first + areas_in own + 1 + surfaces_in own in
    let rest : List Table = tables_beside n mains (numbers_from next ts) ts in
    let far : length (pre ++ area_tables w 0 own)
    ≡ first + areas_in own =
    omega (arith, length-append pre (area_tables w 0 own), length-areas w 0 own) in
    let main = got_at whole (pre ++ area_tables w 0 own) (main_table w own t.idents)
    (flat_map (surface_table w) own ++ (rest ++ post)) (first + areas_in own) (e
    ∙ regroup_main pre (area_tables w 0 own) (main_table w own t.idents)
    (flat_map (surface_table w) own) rest post) far in
    let further : length (pre ++ block)
    ≡ next = omega (arith, length-append pre block, length-with_helpers w own t.idents) in
    All-cons (IsMain whole n) (first + areas_in own) (numbers_from next ts)
    (record { table = main_table w own t.idents; at = main; role = refl; in_topic = refl })
    (numbers_main n whole mains next ts (pre ++ block) post (e
    ∙ regroup pre block rest post) further)

topic_valid : (count n : ℕ) (whole : List Table) (mains : List ℕ) (first : ℕ) (ts : List ModelTable)
    (pre post : List Table)
    → n < count → All (IsMain whole n) mains
    → whole ≡ pre ++ (tables_beside n mains (numbers_from first ts) ts ++ post) → length pre ≡ first
    → All IsSmallTable ts → All (IsSoundTable (length mains)) ts
    → All (IsTable count whole) (tables_beside n mains (numbers_from first ts) ts)
topic_valid count n whole mains first [] pre post topic all e l few h =
    All-nil (IsTable count whole)
topic_valid count n whole mains first (t ∷ ts) pre post topic all e l few h =
    let own = listed t.attributes in
    let w : Owner = record {
      topic = n;
      mains = mains;
      main = first + areas_in own;
      name = t.name;
    } in
    let block : List Table = with_helpers w own t.idents in
    let next : ℕ = first + areas_in own + 1 + surfaces_in own in
    let rest : List Table = tables_beside n mains (numbers_from next ts) ts in
    let far : length (pre ++ area_tables w 0 own)
    ≡ first + areas_in own =
    omega (arith, length-append pre (area_tables w 0 own), length-areas w 0 own) in
    let main = got_at whole (pre ++ area_tables w 0 own) (main_table w own t.idents)
    (flat_map (surface_table w) own ++ (rest ++ post)) (first + areas_in own) (e
    ∙ regroup_main pre (area_tables w 0 own) (main_table w own t.idents)
    (flat_map (surface_table w) own) rest post) far in
    let further : length (pre ++ block)
    ≡ next = omega (arith, length-append pre block, length-with_helpers w own t.idents) in
    All-append (IsTable count whole) block rest
    (with_helpers_valid count whole w own t.idents topic
    (All-head IsSmallTable t ts few).few all main
    (All-head (IsSoundTable (length mains)) t ts h).attributes)
    (topic_valid count n whole mains next ts (pre ++ block) post topic all (e
    ∙ regroup pre block rest post) further (All-tail IsSmallTable t ts few)
    (All-tail (IsSoundTable (length mains)) t ts h))

-- ---- all topics
topics_valid : (count : ℕ) (whole : List Table) (n first : ℕ) (ts : List Topic) (pre : List Table)
    → whole ≡ pre ++ tables_from n first ts → length pre ≡ first → n + length ts ≤ count
    → All IsSmallTopic ts → All IsSoundTopic ts → All (IsTable count whole) (tables_from n first ts)
topics_valid count whole n first [] pre e l below few h = All-nil (IsTable count whole)
topics_valid count whole n first (t ∷ ts) pre e l below few h =
    let one : List Table = topic_tables n first t.tables in
    let rest : List Table = tables_from (n + 1) (first + length one) ts in
    let all = numbers_main n whole (numbers_from first t.tables) first t.tables pre rest e l in
    let sound = subst (λ k. All (IsSoundTable k) t.tables) (sym (length-numbers first t.tables))
    (All-head IsSoundTopic t ts h) in
    let further : length (pre ++ one) ≡ first + length one = omega (arith, length-append pre one) in
    All-append (IsTable count whole) one rest
    (topic_valid count n whole (numbers_from first t.tables) first t.tables pre rest
    (omega arith) all e l (All-head IsSmallTopic t ts few) sound)
    (topics_valid count whole (n + 1) (first + length one) ts (pre ++ one) (e
    ∙ sym (append_assoc pre one rest)) further (omega arith) (All-tail IsSmallTopic t ts few)
    (All-tail IsSoundTopic t ts h))

length_from : (n first : ℕ) (ts : List Topic) → length (tables_from n first ts) ≤ numbers_in ts
length_from n first [] = omega arith
length_from n first (t ∷ ts) =
    let one : List Table = topic_tables n first t.tables in
    omega (
      arith,
      length-append one (tables_from (n + 1) (first + length one) ts),
      length-topic n first t.tables,
      length_from (n + 1) (first + length one) ts,
    )

-- ---- areas
one_area : (whole : List Table) (i : ℕ) (t : Table) (r : Role) → slice_get whole i ≡ Some t
    → t.role ≡ r → All (IsArea whole) (area_of whole i r)
one_area whole i t Main e f = All-nil (IsArea whole)
one_area whole i t (SurfaceLines m) e f = All-nil (IsArea whole)
one_area whole i t (AreaLines m c) e f =
    let a : AreaOf = record { lines = i; main = m; column = c; name = column_name whole m c } in
    All-cons (IsArea whole) a [] (record { helper = t; lines = e; role = f; name = refl })
    (All-nil (IsArea whole))

areas_valid : (whole : List Table) (i : ℕ) (ts pre : List Table) → whole ≡ pre ++ ts
    → length pre ≡ i → All (IsArea whole) (areas_from whole i ts)
areas_valid whole i [] pre e l = All-nil (IsArea whole)
areas_valid whole i (t ∷ ts) pre e l =
    let further : length (pre ++ t ∷ []) ≡ i + 1 = omega (arith, length-append pre (t ∷ [])) in
    All-append (IsArea whole) (area_of whole i t.role) (areas_from whole (i + 1) ts)
    (one_area whole i t t.role (got_at whole pre t ts i e l) refl)
    (areas_valid whole (i + 1) ts (pre ++ t ∷ []) (e ∙ sym (append_assoc pre (t ∷ []) ts)) further)

-- an earlier begin
sooner : (i j : ℕ) (as_ : List AreaOf) → i ≤ j → Rise j as_ → Rise i as_
sooner i j [] h r = tt
sooner i j (a ∷ as_) h r = (omega (arith, r.0), r.1)

one_rises : (whole : List Table) (i : ℕ) (r : Role) (rest : List AreaOf) → Rise (i + 1) rest
    → Rise i (area_of whole i r ++ rest)
one_rises whole i Main rest h = sooner i (i + 1) rest (omega arith) h
one_rises whole i (SurfaceLines m) rest h = sooner i (i + 1) rest (omega arith) h
one_rises whole i (AreaLines m c) rest h = (omega arith, h)

areas_rise : (whole : List Table) (i : ℕ) (ts : List Table) → Rise i (areas_from whole i ts)
areas_rise whole i [] = tt
areas_rise whole i (t ∷ ts) =
    one_rises whole i t.role (areas_from whole (i + 1) ts) (areas_rise whole (i + 1) ts)

later : (whole : List Table) (i n : ℕ) (r : Role) (rest : List AreaOf) → HasArea rest n
    → HasArea (area_of whole i r ++ rest) n
later whole i n Main rest h = h
later whole i n (SurfaceLines m) rest h = h
later whole i n (AreaLines m c) rest h =
    record { area = h.area; place = suc h.place; at = h.at; lines = h.lines }

all_there : (whole : List Table) (i : ℕ) (ts : List Table) (j main column : ℕ) (t : Table)
    → slice_get ts j ≡ Some t → t.role ≡ AreaLines main column
    → HasArea (areas_from whole i ts) (i + j)
all_there whole i [] j m c t e f = absurd (cc)
all_there whole i (x ∷ ts) zero m c t e f =
    let same : x ≡ t = cc in
    let role : x.role ≡ AreaLines m c = ap (λ (y : Table). y.role) same ∙ f in
    let plain : i ≡ i + 0 = omega arith in
    subst (λ (r : Role). HasArea (area_of whole i r ++ areas_from whole (i + 1) ts) (i + 0))
    (sym role) (record {
      area = record {
        lines = i;
        main = m;
        column = c;
        name = column_name whole m c;
      };
      place = 0;
      at = refl;
      lines = plain;
    })
all_there whole i (x ∷ ts) (suc j) m c t e f =
    let step : (i + 1) + j ≡ i + suc j = omega arith in
    subst (HasArea (area_of whole i x.role ++ areas_from whole (i + 1) ts)) step
    (later whole i ((i + 1) + j) x.role (areas_from whole (i + 1) ts)
    (all_there whole (i + 1) ts j m c t e f))

-- ---- the whole
pub few_tables : (m : ResolvedModel) (tables : List Table) → IsSound m
    → tables ≡ tables_from 0 0 m.topics → length tables ≤ 4194304
few_tables m tables h e =
    omega (arith, ap (length {A = Table}) e, length_from 0 0 m.topics, numbers_few m.topics, h.few)

pub valid : (m : ResolvedModel) (l : Layout) → IsSound m → l.codes ≡ m.codes
    → l.topics ≡ topic_names_of m.topics → l.tables ≡ tables_from 0 0 m.topics
    → l.areas ≡ areas_from l.tables 0 l.tables → IsValid l
valid m l h codes names e areas =
    let count : length l.topics ≡ length m.topics = ap (length {A = List ℕ}) names
    ∙ length-map m.topics (λ (t : Topic). t.name) in
    record {
      names = record {
        topics = subst (All IsName) (sym names) (topics_named m.topics h.named);
        tables = subst (All Declared) (sym e) (tables_named 0 0 m.topics h.named);
      };
      codes = subst AreCodes (sym codes) h.codes;
      few = few_tables m l.tables h e;
      tables = subst (λ ts. All (IsTable (length l.topics) l.tables) ts) (sym e)
          (topics_valid (length l.topics) l.tables 0 0 m.topics [] e refl (omega arith)
          (small_topics m.topics h.few h.topics) h.topics);
      areas = subst (λ s. All (IsArea l.tables) s) (sym areas)
          (areas_valid l.tables 0 l.tables [] refl refl);
      in_order = subst (Rise 0) (sym areas) (areas_rise l.tables 0 l.tables);
      complete = λ n m c t e f. subst (λ s. HasArea s n) (sym areas)
          (subst (HasArea (areas_from l.tables 0 l.tables)) (plain n)
          (all_there l.tables 0 l.tables n m c t e f));
      by_topic = subst (λ ts. AreByTopic 0 (length l.topics) ts) (sym e)
          (subst (λ names. AreByTopic 0 (length names) (tables_from 0 0 m.topics)) (sym names)
          (tables_by_topic m));
    }
  where
    plain : (n : ℕ) → 0 + n ≡ n
    plain n = omega arith
