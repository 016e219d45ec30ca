-- The numbers by which refusals name rules.
use Rattle.std.specs.Prelude.{ℕ}
use Rattle.slint_base.specs.declared.rules.Rule.{Rule}
use Rattle.slint_base.specs.declared.rules.Rule.TheVariants.{NotUtf8, BadToken, BadNumber, BadEscape, Syntax, TooDeep, FileMissing, ImportLoop, NotExported, TooManyFiles, FileTooLong, PathOutside, NameTwice, UnknownType, UnknownElement, BaseLoop, UnknownName, Visibility, ChildrenMisplaced, GridPlace, NoComponent, TypeMismatch, NoOperator, ArgCount, NotCallable, NotAssignable, AliasTypes, UnitProduct, NotConstant, ImpureBinding, PureCallsImpure, AliasLoop, TwoStateLists, BindingLoop, Recursion, TooManyElements, RepeaterDepth, NotBuilt}

-- the number of each rule
abbrev pub rule_number : Rule → ℕ
rule_number NotUtf8 = 1
rule_number BadToken = 2
rule_number BadNumber = 3
rule_number BadEscape = 4
rule_number Syntax = 10
rule_number TooDeep = 11
rule_number FileMissing = 20
rule_number ImportLoop = 21
rule_number NotExported = 22
rule_number TooManyFiles = 23
rule_number FileTooLong = 24
rule_number PathOutside = 25
rule_number NameTwice = 30
rule_number UnknownType = 31
rule_number UnknownElement = 32
rule_number BaseLoop = 33
rule_number UnknownName = 34
rule_number Visibility = 35
rule_number ChildrenMisplaced = 36
rule_number GridPlace = 37
rule_number NoComponent = 38
rule_number TypeMismatch = 40
rule_number NoOperator = 41
rule_number ArgCount = 42
rule_number NotCallable = 43
rule_number NotAssignable = 44
rule_number AliasTypes = 45
rule_number UnitProduct = 46
rule_number NotConstant = 47
rule_number ImpureBinding = 50
rule_number PureCallsImpure = 51
rule_number AliasLoop = 60
rule_number TwoStateLists = 61
rule_number BindingLoop = 62
rule_number Recursion = 63
rule_number TooManyElements = 70
rule_number RepeaterDepth = 71
rule_number NotBuilt = 90
