-- What is true of an outline with its indexes.
use Rattle.std.specs.Prelude.{ℕ, String, Vec, List}
use Rattle.std.specs.BTreeMap.{BTreeMap}
use Rattle.std.specs.Global.{Global}
use Rattle.typed_tree.specs.declared.bases.Bases.{Bases}
use Rattle.typed_tree.specs.declared.member_indexes.MemberIndex.{MemberIndex}
use Rattle.typed_tree.specs.declared.name_lists.NameLists.{NameLists}
use Rattle.typed_tree.specs.declared.outlines.Outline.{Outline}
use Rattle.typed_tree.specs.Bases.{AreBases}
use Rattle.typed_tree.specs.Declarers.{AreDeclarers}
use Rattle.typed_tree.specs.Indexes.{AreFew, AreNames}
use Rattle.typed_tree.specs.MemberIndexes.{FindsMembers}

pub record IsIndexed (outline : Outline) (lists : NameLists) (members : List MemberIndex) (declarers : BTreeMap (String Global) (Vec ℕ Global)) (bases : Bases) : Type 0 where
  pub few : AreFew outline
  pub names : AreNames outline lists
  pub finds : FindsMembers outline.comps members
  pub declare : AreDeclarers outline.comps declarers
  pub based : AreBases outline.comps bases
