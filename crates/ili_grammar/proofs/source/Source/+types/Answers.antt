use Rattle.ili_grammar.proofs.Symbols.{at_attribute, at_elements, at_line_attributes, at_type_name}
use Rattle.ili_grammar.proofs.Symbols.{no_attribute_at, no_line_attributes_at, no_reference}
use Rattle.ili_grammar.proofs.Stuck.{deep_line, deep_type, stuck_type}
use Rattle.ili_grammar.proofs.NoType.{numbered}
use Rattle.ili_grammar.specs.Machine.{a_type, content, maybe_line_attributes, the_line, want}
use Rattle.ili_grammar.specs.Machine.{attributes}
use Rattle.ili_grammar.proofs.Follow.{after, and, by_token, by_way, first, handed, leads_name}
use Rattle.ili_grammar.proofs.Follow.{no_memory, onward, refused_at, within, stay}
use Rattle.std.proofs.Common.{◌+◌, ◌-◌, map, subst, arith, rules, [], refl, ◌∷◌}
use Rattle.ili_lexer.specs.declared.keywords.Keyword.{Keyword}
use Rattle.ili_grammar.specs.Tokens.{word, AREA, DATE, HALIGNMENT, POLYLINE, SURFACE, VALIGNMENT}
use Rattle.ili_grammar.specs.Tokens.{arrow, left_bracket, name, number, right_bracket, two_periods}
use Rattle.ili_grammar.specs.Slices.{word_of}
use Rattle.ili_grammar.specs.Steps.{rest, Leads, all}
use Rattle.ili_grammar.specs.Values.{ident_of, span_of, elements_of, type_of, line_of, attribute_of}
use Rattle.ili_grammar.specs.Values.{attributes_of, content_of, lists_of}
use Rattle.ili_grammar.specs.Parts.{head_of}
use Rattle.ili_grammar.proofs.Lists.{pushed}
use Rattle.ili_grammar.proofs.Views.{attribute_roll, bare, type-named, type-range, type-enumeration}
use Rattle.ili_grammar.proofs.Views.{type-date, type-halignment, type-valignment, type-polyline}
use Rattle.ili_grammar.proofs.Views.{type-surface, type-area, content-value, content-reference}
use Rattle.ili_grammar.proofs.RulesRead.{date_read, halignment_read, valignment_read, polyline_read}
use Rattle.ili_grammar.proofs.RulesRead.{surface_read, area_read, named_read, range_read}
use Rattle.ili_grammar.proofs.RulesRead.{enumeration_read, attributes_on, attributes_end}
use Rattle.ili_grammar.proofs.RulesRead.{attribute_read, reference_read, value_read, bare_line_read}
use Rattle.ili_grammar.proofs.RulesRead.{full_line_read, optional_at}
use Rattle.ili_grammar.proofs.source.Source.+types.Goals as goal

pub keyword_type-returns-in-Date-clause-reads : goal.keyword_type-returns-in-Date-clause-reads
keyword_type-returns-in-Date-clause-reads t c =
    let r = rest c.args.self.now in
    date_read c.args.depth _ (r c.args.at) (r (c.args.at + 1)) type-date
    (subst (λ (k : Keyword). Leads (word (word_of k)) (r c.args.at) (r (c.args.at + 1)))
    c.in-Date.is c.requires.begun)

pub keyword_type-returns-in-Halignment-clause-reads : goal.keyword_type-returns-in-Halignment-clause-reads
keyword_type-returns-in-Halignment-clause-reads t c =
    let r = rest c.args.self.now in
    halignment_read c.args.depth _ (r c.args.at) (r (c.args.at + 1)) type-halignment
    (subst (λ (k : Keyword). Leads (word (word_of k)) (r c.args.at) (r (c.args.at + 1)))
    c.in-Halignment.is c.requires.begun)

pub keyword_type-returns-in-Valignment-clause-reads : goal.keyword_type-returns-in-Valignment-clause-reads
keyword_type-returns-in-Valignment-clause-reads t c =
    let r = rest c.args.self.now in
    valignment_read c.args.depth _ (r c.args.at) (r (c.args.at + 1)) type-valignment
    (subst (λ (k : Keyword). Leads (word (word_of k)) (r c.args.at) (r (c.args.at + 1)))
    c.in-Valignment.is c.requires.begun)

pub keyword_type-returns-in_ok-head-in-Polyline-clause-reads : goal.keyword_type-returns-in_ok-head-in-Polyline-clause-reads
keyword_type-returns-in_ok-head-in-Polyline-clause-reads t c =
    let r = rest c.args.self.now in
    polyline_read c.args.depth _ _ (head_of c.in_ok-head-in-Polyline.head) (r c.args.at)
    (r (c.args.at + 1)) (r c.in_ok-head-in-Polyline.next) (type-polyline _)
    (bare (line_of c.whole_line-line.result)
    (head_of c.in_ok-head-in-Polyline.head) _ _ c.whole_line-line.ensures (search rules)
    (search rules))
    (subst (λ (k : Keyword). Leads (word (word_of k)) (r c.args.at) (r (c.args.at + 1)))
    c.in-Polyline.is c.requires.begun) c.in_ok-head-in-Polyline.ensures.reads

pub keyword_type-returns-in_ok-line-in-Surface-clause-reads : goal.keyword_type-returns-in_ok-line-in-Surface-clause-reads
keyword_type-returns-in_ok-line-in-Surface-clause-reads t c =
    let r = rest c.args.self.now in
    surface_read c.args.depth _ (line_of c.in_ok-line-in-Surface.line) (r c.args.at)
    (r (c.args.at + 1)) (r c.in_ok-line-in-Surface.next) (type-surface _)
    (subst (λ (k : Keyword). Leads (word (word_of k)) (r c.args.at) (r (c.args.at + 1)))
    c.in-Surface.is c.requires.begun) c.in_ok-line-in-Surface.ensures.reads

pub keyword_type-returns-in_ok-line-in-Area-clause-reads : goal.keyword_type-returns-in_ok-line-in-Area-clause-reads
keyword_type-returns-in_ok-line-in-Area-clause-reads t c =
    let r = rest c.args.self.now in
    area_read c.args.depth _ (line_of c.in_ok-line-in-Area.line) (r c.args.at) (r (c.args.at + 1))
    (r c.in_ok-line-in-Area.next) (type-area _)
    (subst (λ (k : Keyword). Leads (word (word_of k)) (r c.args.at) (r (c.args.at + 1)))
    c.in-Area.is c.requires.begun) c.in_ok-line-in-Area.ensures.reads

pub type_syntax-returns-then-is-clause-reads : goal.type_syntax-returns-then-is-clause-reads
type_syntax-returns-then-is-clause-reads t c =
    let r = rest c.args.self.now in
    named_read c.args.depth _ (ident_of c.in_ok-name.name) (r c.args.at) (r c.in_ok-name.next)
    (type-named _) c.in_ok-name.ensures.reads

pub type_syntax-returns-then-is_mark-clause-reads : goal.type_syntax-returns-then-is_mark-clause-reads
type_syntax-returns-then-is_mark-clause-reads t c =
    let r = rest c.args.self.now in
    range_read c.args.depth _ (span_of c.in_ok-span.span) (r c.args.at) (r (c.args.at + 1))
    (r c.in_ok-span.next) (type-range _) c.if-is_mark.ensures.here c.in_ok-span.ensures.reads

pub type_syntax-returns-then-is_mark-2-clause-reads : goal.type_syntax-returns-then-is_mark-2-clause-reads
type_syntax-returns-then-is_mark-2-clause-reads t c =
    let r = rest c.args.self.now in
    let e = c.if-depth-eq0.false in
    enumeration_read c.args.depth (c.args.depth - 1) _ (elements_of c.in_ok-elements.elements.items)
    (r c.args.at) (r (c.args.at + 1)) (r c.in_ok-elements.next) (omega (arith, e))
    (type-enumeration _) c.if-is_mark-2.ensures.here c.in_ok-elements.ensures.reads

pub attributes-attributes-preserved : goal.attributes-attributes-preserved
attributes-attributes-preserved t c =
    let r = rest c.args.self.now in record {
      further = omega (arith, c.attributes.invariant.further, c.in_ok-attribute.ensures.within);
      within = omega (arith, c.in_ok-attribute.ensures.within);
      reads = attributes_on c.args.depth (map attribute_of c.attributes.attributes.items)
          (map attribute_of c.keep.new.items.items) (attribute_of c.in_ok-attribute.attribute)
          (r c.args.at) (r c.attributes.first) (r c.in_ok-attribute.next)
          (pushed attribute_of c.attributes.attributes.items c.keep.new.items.items
          c.in_ok-attribute.attribute c.in_ok-keep.ensures.added) c.attributes.invariant.reads
          c.in_ok-attribute.ensures.reads;
      runs = onward c.attributes.invariant.runs tt
          (by_way _ (at_attribute c.args.depth _ _ c.attributes-test.ensures.here)
          (and c.in_ok-attribute.ensures.runs (stay _ (attributes c.args.depth ∷ []))));
    }

pub attributes-returns-clause-reads : goal.attributes-returns-clause-reads
attributes-returns-clause-reads t c =
    attributes_end c.args.depth (map attribute_of c.attributes.attributes.items)
    (rest c.args.self.now c.args.at) (rest c.args.self.now c.attributes.first)
    c.attributes.invariant.reads

pub attribute-returns-clause-reads : goal.attribute-returns-clause-reads
attribute-returns-clause-reads t c =
    let r = rest c.args.self.now in
    attribute_read c.args.depth _ (ident_of c.in_ok-name.name) c.optional-optional.result.0
    (content_of c.in_ok-content.content) (r c.args.at) (r c.in_ok-name.next)
    (r c.in_ok-next.next) (r c.optional-optional.result.1) (r c.in_ok-content.next)
    (r c.in_ok-next-2.next)
    (attribute_roll record {
      name = c.in_ok-name.name;
      optional = c.optional-optional.result.0;
      content = c.in_ok-content.content;
    }) c.in_ok-name.ensures.reads c.in_ok-next.ensures.reads
    (optional_at c.args.self.now c.optional-optional.result.0 c.in_ok-next.next
    c.optional-optional.result.1 c.optional-optional.ensures.here) c.in_ok-content.ensures.reads
    (r c.explanation-next.result) c.explanation-next.ensures.reads c.in_ok-next-2.ensures.reads

pub content-returns-then-is_mark-clause-reads : goal.content-returns-then-is_mark-clause-reads
content-returns-then-is_mark-clause-reads t c =
    let r = rest c.args.self.now in
    reference_read c.args.depth _ (ident_of c.in_ok-name.name) (r c.args.at) (r (c.args.at + 1))
    (r c.in_ok-name.next) (content-reference _) c.if-is_mark.ensures.here
    c.in_ok-name.ensures.reads

pub content-returns-clause-reads : goal.content-returns-clause-reads
content-returns-clause-reads t c =
    let r = rest c.args.self.now in
    value_read c.args.depth _ (type_of c.in_ok-kind.kind) (r c.args.at) (r c.in_ok-kind.next)
    (content-value _) c.in_ok-kind.ensures.reads

pub attributed_line-returns-then-not-is_keyword-clause-reads : goal.attributed_line-returns-then-not-is_keyword-clause-reads
attributed_line-returns-then-not-is_keyword-clause-reads t c =
    let r = rest c.args.self.now in
    bare_line_read c.args.depth _ (head_of c.in_ok-head.head) (r c.args.at) (r c.in_ok-head.next)
    (bare (line_of c.whole_line-line.result)
    (head_of c.in_ok-head.head) _ _ c.whole_line-line.ensures c.new.ensures.items
    c.new-then-not-is_keyword.ensures.items) c.in_ok-head.ensures.reads

pub attributed_line-returns-clause-reads : goal.attributed_line-returns-clause-reads
attributed_line-returns-clause-reads t c =
    let r = rest c.args.self.now in
    let e = c.if-depth-eq0.false in
    full_line_read c.args.depth (c.args.depth - 1) _ (head_of c.in_ok-head.head)
    (attributes_of c.in_ok-attributes.attributes.items) (lists_of c.in_ok-idents.idents.items)
    (r c.args.at) (r c.in_ok-head.next) (r (c.in_ok-head.next + 1)) (r c.in_ok-next.next)
    (r c.in_ok-attributes.next) (r c.in_ok-idents.next) (r c.in_ok-next-2.next)
    (omega (arith, e)) c.whole_line.ensures
    c.in_ok-head.ensures.reads c.if-not-is_keyword.ensures.here c.in_ok-next.ensures.reads
    c.in_ok-attributes.ensures.reads c.in_ok-idents.ensures.reads c.in_ok-next-2.ensures.reads

pub keyword_type-returns-in-Date-clause-runs : goal.keyword_type-returns-in-Date-clause-runs
keyword_type-returns-in-Date-clause-runs t c =
    by_token (a_type c.args.depth) (word DATE) [] (rest c.args.self.now c.args.at)
    (rest c.args.self.now (c.args.at + 1)) (λ i. refl)
    (subst (λ (k : Keyword). Leads (word (word_of k)) (rest c.args.self.now c.args.at)
    (rest c.args.self.now (c.args.at + 1))) c.in-Date.is c.requires.begun)

pub keyword_type-returns-in-Halignment-clause-runs : goal.keyword_type-returns-in-Halignment-clause-runs
keyword_type-returns-in-Halignment-clause-runs t c =
    by_token (a_type c.args.depth) (word HALIGNMENT) [] (rest c.args.self.now c.args.at)
    (rest c.args.self.now (c.args.at + 1)) (λ i. refl)
    (subst (λ (k : Keyword). Leads (word (word_of k)) (rest c.args.self.now c.args.at)
    (rest c.args.self.now (c.args.at + 1))) c.in-Halignment.is c.requires.begun)

pub keyword_type-returns-in-Valignment-clause-runs : goal.keyword_type-returns-in-Valignment-clause-runs
keyword_type-returns-in-Valignment-clause-runs t c =
    by_token (a_type c.args.depth) (word VALIGNMENT) [] (rest c.args.self.now c.args.at)
    (rest c.args.self.now (c.args.at + 1)) (λ i. refl)
    (subst (λ (k : Keyword). Leads (word (word_of k)) (rest c.args.self.now c.args.at)
    (rest c.args.self.now (c.args.at + 1))) c.in-Valignment.is c.requires.begun)

pub keyword_type-returns-in_err-head-in-Polyline-clause-stops : goal.keyword_type-returns-in_err-head-in-Polyline-clause-stops
keyword_type-returns-in_err-head-in-Polyline-clause-stops t c =
    handed _ _ _ c.from_residual.ensures.1
    (within _ (by_token (a_type c.args.depth) (word POLYLINE) (the_line ∷ [])
    (rest c.args.self.now c.args.at) (rest c.args.self.now (c.args.at + 1)) (λ i. refl)
    (subst (λ (k : Keyword). Leads (word (word_of k)) (rest c.args.self.now c.args.at)
    (rest c.args.self.now (c.args.at + 1))) c.in-Polyline.is c.requires.begun))
    c.in_err-head-in-Polyline.ensures.stops)

pub keyword_type-returns-in_ok-head-in-Polyline-clause-runs : goal.keyword_type-returns-in_ok-head-in-Polyline-clause-runs
keyword_type-returns-in_ok-head-in-Polyline-clause-runs t c =
    by_way _ (by_token (a_type c.args.depth) (word POLYLINE) (the_line ∷ [])
    (rest c.args.self.now c.args.at) (rest c.args.self.now (c.args.at + 1)) (λ i. refl)
    (subst (λ (k : Keyword). Leads (word (word_of k)) (rest c.args.self.now c.args.at)
    (rest c.args.self.now (c.args.at + 1))) c.in-Polyline.is c.requires.begun))
    c.in_ok-head-in-Polyline.ensures.runs

pub keyword_type-returns-in_err-line-in-Surface-clause-stops : goal.keyword_type-returns-in_err-line-in-Surface-clause-stops
keyword_type-returns-in_err-line-in-Surface-clause-stops t c =
    handed _ _ _ c.from_residual-in_err-line-in-Surface.ensures.1
    (within _ (by_token (a_type c.args.depth) (word SURFACE)
    (the_line ∷ maybe_line_attributes c.args.depth ∷ []) (rest c.args.self.now c.args.at)
    (rest c.args.self.now (c.args.at + 1)) (λ i. refl)
    (subst (λ (k : Keyword). Leads (word (word_of k)) (rest c.args.self.now c.args.at)
    (rest c.args.self.now (c.args.at + 1))) c.in-Surface.is c.requires.begun))
    c.in_err-line-in-Surface.ensures.stops)

pub keyword_type-returns-in_ok-line-in-Surface-clause-runs : goal.keyword_type-returns-in_ok-line-in-Surface-clause-runs
keyword_type-returns-in_ok-line-in-Surface-clause-runs t c =
    by_way _ (by_token (a_type c.args.depth) (word SURFACE)
    (the_line ∷ maybe_line_attributes c.args.depth ∷ []) (rest c.args.self.now c.args.at)
    (rest c.args.self.now (c.args.at + 1)) (λ i. refl)
    (subst (λ (k : Keyword). Leads (word (word_of k)) (rest c.args.self.now c.args.at)
    (rest c.args.self.now (c.args.at + 1))) c.in-Surface.is c.requires.begun))
    c.in_ok-line-in-Surface.ensures.runs

pub keyword_type-returns-in_err-line-in-Area-clause-stops : goal.keyword_type-returns-in_err-line-in-Area-clause-stops
keyword_type-returns-in_err-line-in-Area-clause-stops t c =
    handed _ _ _ c.from_residual-in_err-line-in-Area.ensures.1
    (within _ (by_token (a_type c.args.depth) (word AREA)
    (the_line ∷ maybe_line_attributes c.args.depth ∷ []) (rest c.args.self.now c.args.at)
    (rest c.args.self.now (c.args.at + 1)) (λ i. refl)
    (subst (λ (k : Keyword). Leads (word (word_of k)) (rest c.args.self.now c.args.at)
    (rest c.args.self.now (c.args.at + 1))) c.in-Area.is c.requires.begun))
    c.in_err-line-in-Area.ensures.stops)

pub keyword_type-returns-in_ok-line-in-Area-clause-runs : goal.keyword_type-returns-in_ok-line-in-Area-clause-runs
keyword_type-returns-in_ok-line-in-Area-clause-runs t c =
    by_way _ (by_token (a_type c.args.depth) (word AREA)
    (the_line ∷ maybe_line_attributes c.args.depth ∷ []) (rest c.args.self.now c.args.at)
    (rest c.args.self.now (c.args.at + 1)) (λ i. refl)
    (subst (λ (k : Keyword). Leads (word (word_of k)) (rest c.args.self.now c.args.at)
    (rest c.args.self.now (c.args.at + 1))) c.in-Area.is c.requires.begun))
    c.in_ok-line-in-Area.ensures.runs

pub keyword_type-number_type-requires-clause-numbered : goal.keyword_type-number_type-requires-clause-numbered
keyword_type-number_type-requires-clause-numbered t c =
    numbered c.args.keyword c.in_default.not-Date c.in_default.not-Halignment
    c.in_default.not-Valignment c.in_default.not-Polyline c.in_default.not-Surface
    c.in_default.not-Area

pub type_syntax-returns-in_err-name-clause-stops : goal.type_syntax-returns-in_err-name-clause-stops
type_syntax-returns-in_err-name-clause-stops t c =
    handed _ _ _ c.from_residual.ensures.1
    (within _ (at_type_name c.args.depth _ _ c.if-is.ensures.here) c.in_err-name.ensures.stops)

pub type_syntax-returns-then-is-clause-runs : goal.type_syntax-returns-then-is-clause-runs
type_syntax-returns-then-is-clause-runs t c =
    by_token (a_type c.args.depth) name [] (rest c.args.self.now c.args.at) _ (λ i. refl)
    (leads_name _ _ _ c.in_ok-name.ensures.reads)

pub type_syntax-returns-in_err-span-clause-stops : goal.type_syntax-returns-in_err-span-clause-stops
type_syntax-returns-in_err-span-clause-stops t c =
    handed _ _ _ c.from_residual-in_err-span.ensures.1
    (within _ (by_token (a_type c.args.depth) left_bracket
    (want number ∷ want two_periods ∷ want number ∷ want right_bracket ∷ [])
    (rest c.args.self.now c.args.at) (rest c.args.self.now (c.args.at + 1))
    (λ i. refl) c.if-is_mark.ensures.here) c.in_err-span.ensures.stops)

pub type_syntax-returns-then-is_mark-clause-runs : goal.type_syntax-returns-then-is_mark-clause-runs
type_syntax-returns-then-is_mark-clause-runs t c =
    by_way _ (by_token (a_type c.args.depth) left_bracket
    (want number ∷ want two_periods ∷ want number ∷ want right_bracket ∷ [])
    (rest c.args.self.now c.args.at) (rest c.args.self.now (c.args.at + 1))
    (λ i. refl) c.if-is_mark.ensures.here) c.in_ok-span.ensures.runs

pub type_syntax-returns-then-depth-eq0-clause-stops : goal.type_syntax-returns-then-depth-eq0-clause-stops
type_syntax-returns-then-depth-eq0-clause-stops t c =
    deep_type (all c.args.self.now) (rest c.args.self.now c.args.at) _ c.args.depth _
    c.if-depth-eq0.true c.if-is_mark-2.ensures.here c.fault.ensures

pub type_syntax-returns-in_err-elements-clause-stops : goal.type_syntax-returns-in_err-elements-clause-stops
type_syntax-returns-in_err-elements-clause-stops t c =
    handed _ _ _ c.from_residual-in_err-elements.ensures.1
    (within _ (at_elements c.args.depth (c.args.depth - 1) _ _
    (omega (arith, c.if-depth-eq0.false)) c.if-is_mark-2.ensures.here)
    c.in_err-elements.ensures.stops)

pub type_syntax-returns-then-is_mark-2-clause-runs : goal.type_syntax-returns-then-is_mark-2-clause-runs
type_syntax-returns-then-is_mark-2-clause-runs t c =
    by_way _ (at_elements c.args.depth (c.args.depth - 1) _ _
    (omega (arith, c.if-depth-eq0.false)) c.if-is_mark-2.ensures.here) c.in_ok-elements.ensures.runs

pub type_syntax-returns-in-None-clause-stops : goal.type_syntax-returns-in-None-clause-stops
type_syntax-returns-in-None-clause-stops t c =
    stuck_type (all c.args.self.now) (rest c.args.self.now c.args.at) c.args.depth _
    c.if-is.ensures.here c.if-is_mark.ensures.here c.if-is_mark-2.ensures.here
    (c.in-None.ensures.none refl) c.fault-in-None.ensures

pub attributed_line-returns-in_err-head-clause-stops : goal.attributed_line-returns-in_err-head-clause-stops
attributed_line-returns-in_err-head-clause-stops t c =
    handed _ _ _ c.from_residual.ensures.1 (first _ c.in_err-head.ensures.stops)

pub attributed_line-returns-then-not-is_keyword-clause-runs : goal.attributed_line-returns-then-not-is_keyword-clause-runs
attributed_line-returns-then-not-is_keyword-clause-runs t c =
    and c.in_ok-head.ensures.runs
    (no_line_attributes_at c.args.depth _ c.if-not-is_keyword.ensures.here)

pub attributed_line-returns-then-depth-eq0-clause-stops : goal.attributed_line-returns-then-depth-eq0-clause-stops
attributed_line-returns-then-depth-eq0-clause-stops t c =
    after c.in_ok-head.ensures.runs
    (deep_line (all c.args.self.now) _ _ c.args.depth _ c.if-depth-eq0.true
    c.if-not-is_keyword.ensures.here c.fault.ensures)

pub attributed_line-returns-in_err-next-clause-stops : goal.attributed_line-returns-in_err-next-clause-stops
attributed_line-returns-in_err-next-clause-stops t c =
    handed _ _ _ c.from_residual-in_err-next.ensures.1
    (after c.in_ok-head.ensures.runs
    (within _ (at_line_attributes c.args.depth (c.args.depth - 1) _ _
    (omega (arith, c.if-depth-eq0.false)) c.if-not-is_keyword.ensures.here)
    (first _ c.in_err-next.ensures.stops)))

pub attributed_line-returns-in_err-attributes-clause-stops : goal.attributed_line-returns-in_err-attributes-clause-stops
attributed_line-returns-in_err-attributes-clause-stops t c =
    handed _ _ _ c.from_residual-in_err-attributes.ensures.1
    (after c.in_ok-head.ensures.runs
    (within _ (at_line_attributes c.args.depth (c.args.depth - 1) _ _
    (omega (arith, c.if-depth-eq0.false)) c.if-not-is_keyword.ensures.here)
    (after c.in_ok-next.ensures.runs (first _ c.in_err-attributes.ensures.stops))))

pub attributed_line-returns-in_err-idents-clause-stops : goal.attributed_line-returns-in_err-idents-clause-stops
attributed_line-returns-in_err-idents-clause-stops t c =
    handed _ _ _ c.from_residual-in_err-idents.ensures.1
    (after c.in_ok-head.ensures.runs
    (within _ (at_line_attributes c.args.depth (c.args.depth - 1) _ _
    (omega (arith, c.if-depth-eq0.false)) c.if-not-is_keyword.ensures.here)
    (after c.in_ok-next.ensures.runs
    (after c.in_ok-attributes.ensures.runs (first _ c.in_err-idents.ensures.stops)))))

pub attributed_line-returns-in_err-next-2-clause-stops : goal.attributed_line-returns-in_err-next-2-clause-stops
attributed_line-returns-in_err-next-2-clause-stops t c =
    handed _ _ _ c.from_residual-in_err-next-2.ensures.1
    (after c.in_ok-head.ensures.runs
    (within _ (at_line_attributes c.args.depth (c.args.depth - 1) _ _
    (omega (arith, c.if-depth-eq0.false)) c.if-not-is_keyword.ensures.here)
    (after c.in_ok-next.ensures.runs
    (after c.in_ok-attributes.ensures.runs
    (after c.in_ok-idents.ensures.runs (c.in_err-next-2.ensures.stops))))))

pub attributed_line-returns-clause-runs : goal.attributed_line-returns-clause-runs
attributed_line-returns-clause-runs t c =
    and c.in_ok-head.ensures.runs
    (by_way _ (at_line_attributes c.args.depth (c.args.depth - 1) _ _
    (omega (arith, c.if-depth-eq0.false)) c.if-not-is_keyword.ensures.here)
    (and c.in_ok-next.ensures.runs
    (and c.in_ok-attributes.ensures.runs
    (and c.in_ok-idents.ensures.runs (c.in_ok-next-2.ensures.runs)))))

pub attributes-returns-in_err-attribute-clause-stops : goal.attributes-returns-in_err-attribute-clause-stops
attributes-returns-in_err-attribute-clause-stops t c =
    handed _ _ _ c.from_residual.ensures.1
    (refused_at c.attributes.invariant.runs tt
    (within _ (at_attribute c.args.depth _ _ c.attributes-test.ensures.here)
    (first _ c.in_err-attribute.ensures.stops)))

pub attributes-returns-in_err-keep-clause-stops : goal.attributes-returns-in_err-keep-clause-stops
attributes-returns-in_err-keep-clause-stops t c =
    handed _ _ _ c.from_residual-in_err-keep.ensures.1
    (no_memory _ _ _ _ c.in_err-keep.ensures.memory)

pub attributes-returns-clause-runs : goal.attributes-returns-clause-runs
attributes-returns-clause-runs t c =
    onward c.attributes.invariant.runs tt
    (no_attribute_at c.args.depth _ c.attributes-test.ensures.here)

pub attribute-returns-in_err-name-clause-stops : goal.attribute-returns-in_err-name-clause-stops
attribute-returns-in_err-name-clause-stops t c =
    handed _ _ _ c.from_residual.ensures.1 (first _ c.in_err-name.ensures.stops)

pub attribute-returns-in_err-next-clause-stops : goal.attribute-returns-in_err-next-clause-stops
attribute-returns-in_err-next-clause-stops t c =
    handed _ _ _ c.from_residual-in_err-next.ensures.1
    (after c.in_ok-name.ensures.runs (first _ c.in_err-next.ensures.stops))

pub attribute-returns-in_err-content-clause-stops : goal.attribute-returns-in_err-content-clause-stops
attribute-returns-in_err-content-clause-stops t c =
    handed _ _ _ c.from_residual-in_err-content.ensures.1
    (after c.in_ok-name.ensures.runs
    (after c.in_ok-next.ensures.runs
    (within _ (c.optional-optional.ensures.content c.args.depth)
    (first _ c.in_err-content.ensures.stops))))

pub attribute-returns-in_err-next-2-clause-stops : goal.attribute-returns-in_err-next-2-clause-stops
attribute-returns-in_err-next-2-clause-stops t c =
    handed _ _ _ c.from_residual-in_err-next-2.ensures.1
    (after c.in_ok-name.ensures.runs
    (after c.in_ok-next.ensures.runs
    (within _ (c.optional-optional.ensures.content c.args.depth)
    (after c.in_ok-content.ensures.runs
    (after c.explanation-next.ensures.runs (c.in_err-next-2.ensures.stops))))))

pub attribute-returns-clause-runs : goal.attribute-returns-clause-runs
attribute-returns-clause-runs t c =
    and c.in_ok-name.ensures.runs
    (and c.in_ok-next.ensures.runs
    (by_way _ (c.optional-optional.ensures.content c.args.depth)
    (and c.in_ok-content.ensures.runs
    (and c.explanation-next.ensures.runs (c.in_ok-next-2.ensures.runs)))))

pub content-returns-in_err-name-clause-stops : goal.content-returns-in_err-name-clause-stops
content-returns-in_err-name-clause-stops t c =
    handed _ _ _ c.from_residual.ensures.1
    (within _ (by_token (content c.args.depth) arrow (want name ∷ [])
    (rest c.args.self.now c.args.at) (rest c.args.self.now (c.args.at + 1))
    (λ i. refl) c.if-is_mark.ensures.here) c.in_err-name.ensures.stops)

pub content-returns-then-is_mark-clause-runs : goal.content-returns-then-is_mark-clause-runs
content-returns-then-is_mark-clause-runs t c =
    by_way _ (by_token (content c.args.depth) arrow (want name ∷ [])
    (rest c.args.self.now c.args.at) (rest c.args.self.now (c.args.at + 1))
    (λ i. refl) c.if-is_mark.ensures.here) c.in_ok-name.ensures.runs

pub content-returns-in_err-kind-clause-stops : goal.content-returns-in_err-kind-clause-stops
content-returns-in_err-kind-clause-stops t c =
    handed _ _ _ c.from_residual-in_err-kind.ensures.1
    (within _ (no_reference c.args.depth (rest c.args.self.now c.args.at) c.if-is_mark.ensures.here)
    c.in_err-kind.ensures.stops)

pub content-returns-clause-runs : goal.content-returns-clause-runs
content-returns-clause-runs t c =
    by_way _ (no_reference c.args.depth (rest c.args.self.now c.args.at) c.if-is_mark.ensures.here)
    c.in_ok-kind.ensures.runs
