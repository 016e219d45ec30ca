-- Rules are told apart by their numbers.
use Rattle.std.proofs.Common.{◌≡◌, ℕ, refl, sym, ap, ◌∙◌}
use Rattle.std.specs.Prelude.{◌==◌, if◌then◌else◌}
use Rattle.slint_base.specs.declared.rules.Rule.{Rule}
use Rattle.slint_base.specs.declared.rules.Rule.TheVariants.{NotUtf8, BadToken, BadNumber, BadEscape, Syntax, TooDeep, FileMissing, ImportLoop, NotExported, TooManyFiles, FileTooLong, PathOutside, NameTwice, UnknownType, UnknownElement, BaseLoop, UnknownName, Visibility, ChildrenMisplaced, GridPlace, NoComponent, TypeMismatch, NoOperator, ArgCount, NotCallable, NotAssignable, AliasTypes, UnitProduct, NotConstant, ImpureBinding, PureCallsImpure, AliasLoop, TwoStateLists, BindingLoop, Recursion, TooManyElements, RepeaterDepth, NotBuilt}
use Rattle.slint_base.specs.Rules.{rule_number}

-- the rule of a number
abbrev rule_of : ℕ → Rule
rule_of n = if n == 1 then NotUtf8 else if n == 2 then BadToken else if n == 3 then BadNumber else if n == 4 then BadEscape else if n == 10 then Syntax else if n == 11 then TooDeep else if n == 20 then FileMissing else if n == 21 then ImportLoop else if n == 22 then NotExported else if n == 23 then TooManyFiles else if n == 24 then FileTooLong else if n == 25 then PathOutside else if n == 30 then NameTwice else if n == 31 then UnknownType else if n == 32 then UnknownElement else if n == 33 then BaseLoop else if n == 34 then UnknownName else if n == 35 then Visibility else if n == 36 then ChildrenMisplaced else if n == 37 then GridPlace else if n == 38 then NoComponent else if n == 40 then TypeMismatch else if n == 41 then NoOperator else if n == 42 then ArgCount else if n == 43 then NotCallable else if n == 44 then NotAssignable else if n == 45 then AliasTypes else if n == 46 then UnitProduct else if n == 47 then NotConstant else if n == 50 then ImpureBinding else if n == 51 then PureCallsImpure else if n == 60 then AliasLoop else if n == 61 then TwoStateLists else if n == 62 then BindingLoop else if n == 63 then Recursion else if n == 70 then TooManyElements else if n == 71 then RepeaterDepth else NotBuilt

rule_of-rule_number : (r : Rule) → rule_of (rule_number r) ≡ r
rule_of-rule_number NotUtf8 = refl
rule_of-rule_number BadToken = refl
rule_of-rule_number BadNumber = refl
rule_of-rule_number BadEscape = refl
rule_of-rule_number Syntax = refl
rule_of-rule_number TooDeep = refl
rule_of-rule_number FileMissing = refl
rule_of-rule_number ImportLoop = refl
rule_of-rule_number NotExported = refl
rule_of-rule_number TooManyFiles = refl
rule_of-rule_number FileTooLong = refl
rule_of-rule_number PathOutside = refl
rule_of-rule_number NameTwice = refl
rule_of-rule_number UnknownType = refl
rule_of-rule_number UnknownElement = refl
rule_of-rule_number BaseLoop = refl
rule_of-rule_number UnknownName = refl
rule_of-rule_number Visibility = refl
rule_of-rule_number ChildrenMisplaced = refl
rule_of-rule_number GridPlace = refl
rule_of-rule_number NoComponent = refl
rule_of-rule_number TypeMismatch = refl
rule_of-rule_number NoOperator = refl
rule_of-rule_number ArgCount = refl
rule_of-rule_number NotCallable = refl
rule_of-rule_number NotAssignable = refl
rule_of-rule_number AliasTypes = refl
rule_of-rule_number UnitProduct = refl
rule_of-rule_number NotConstant = refl
rule_of-rule_number ImpureBinding = refl
rule_of-rule_number PureCallsImpure = refl
rule_of-rule_number AliasLoop = refl
rule_of-rule_number TwoStateLists = refl
rule_of-rule_number BindingLoop = refl
rule_of-rule_number Recursion = refl
rule_of-rule_number TooManyElements = refl
rule_of-rule_number RepeaterDepth = refl
rule_of-rule_number NotBuilt = refl

pub rule_number-injective : (r s : Rule) → rule_number r ≡ rule_number s → r ≡ s
rule_number-injective r s e = sym (rule_of-rule_number r) ∙ ap rule_of e ∙ rule_of-rule_number s
