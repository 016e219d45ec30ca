-- What contracts see of an element as it is written.
use Rattle.source_elements.specs.declared.written.Repeating.{Repeating}
use Rattle.source_elements.specs.declared.written.Repeating.TheVariants as repeats
use Rattle.source_elements.specs.Elements.{HowOften, JustOnce, WhileTrue, EachRow}

abbrev pub how_often : Repeating → HowOften
how_often repeats.Once = JustOnce
how_often (repeats.If conditional) = WhileTrue conditional.now
how_often (repeats.For repeated) = EachRow repeated.now
