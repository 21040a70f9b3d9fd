-- The lemmas that single functions of the crate name for the prover, under short paths.
pub use Rattle.resolver.proofs.BuildLemmas.Bounded.{bounded_content, few_named, name_small, scope_bounded}
pub use Rattle.resolver.proofs.BuildLemmas.Types.{attribute_out, short_first}
pub use Rattle.resolver.proofs.ListLemmas.Folds.{first_append}
pub use Rattle.resolver.proofs.ListLemmas.Indexes.{among_first, among_place, any_append}
pub use Rattle.resolver.proofs.ListLemmas.Keys.{entries_told, key_told}
pub use Rattle.resolver.proofs.ListLemmas.Named.{attributes_read, elements_read, topics_read}
