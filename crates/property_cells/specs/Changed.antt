-- Which facets a change changes.
use Rattle.std.specs.Prelude.{IsTrue}
use Rattle.value_types.specs.declared.facets.Facet.{Facet}
use Rattle.property_cells.specs.declared.changes.Change.{Change}
use Rattle.property_cells.specs.declared.changes.Change.TheVariants.{Replaced, Item}
use Rattle.property_cells.specs.Changes.{Differs, IsOfItem}

abbrev pub Changed : Change → Facet → Type 0
Changed (Replaced old new new_keys) f = Differs old.now new.now new_keys f
Changed (Item place differs) f = IsTrue differs × IsOfItem place f
