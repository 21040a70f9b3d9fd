use Rattle.std.proofs.Common.{List, ◌∙◌, refl}
use Rattle.ili_grammar.specs.declared.syntax.AttributeSyntax as attribute
use Rattle.ili_grammar.specs.Values.{ident_of, attributes_of}
use Rattle.resolver.specs.FaultViews.{fault_in}
use Rattle.resolver.specs.ScopeViews.{scope_of}
use Rattle.resolver.specs.Rules.{attributes_faults}
use Rattle.resolver.proofs.ListLemmas.Folds.{told_over}
use Rattle.resolver.proofs.BuildLemmas.Types.{line_begin, short_behind, short_read}
use Rattle.resolver.proofs.rules.types.+rules.Goals as goal

pub check_line-loop-attribute-init : goal.check_line-loop-attribute-init
check_line-loop-attribute-init t c = record {
  reported = line_begin (scope_of c.args.scope.now)
      (ident_of c.args.owner.now) c.args.shape c.args.line.now c.deref.result.now
      c.deref-2.result.now c.deref-3.result.now
      (fault_in c.args.earliest.now) (fault_in c.check_vertex.new.earliest)
      (fault_in c.check_names.new.earliest) (fault_in c.check_line_attributes.new.earliest)
      c.deref.ensures.value c.deref-2.ensures.value c.deref-3.ensures.value c.check_vertex.ensures
      c.in_ok-check_names.ensures c.check_line_attributes.ensures;
  short = short_read c.args.line.now c.deref-attribute-items.result.now
      c.deref-attribute-items.ensures.value c.requires.line;
}

pub check_line-loop-attribute-preserved : goal.check_line-loop-attribute-preserved
check_line-loop-attribute-preserved t c = record {
  reported =
      told_over (λ (l : List attribute.AttributeSyntax). attributes_faults
      (scope_of c.args.scope.now) (attributes_of l)) _ _ _ _ _ _ _
      (λ rest. refl) c.deref-attribute-items.ensures.value c.loop-attribute-test.true
      c.attribute-item.is c.in_ok-check_attribute.ensures
      ∙ c.loop-attribute.invariant.reported;
  short = (short_behind c.loop-attribute.attribute-index c.deref-attribute-items.result.now
      c.deref-attribute-items.result.now c.attribute-item.result
      refl c.loop-attribute-test.true c.attribute-item.is c.loop-attribute.invariant.short).1;
}
