-- What is printed of a tree is lexed and derived as the same tree, stretches aside.
use Rattle.std.proofs.Common.{◌≡◌, ℕ, List, [], refl}
use Rattle.slint_lexer.specs.declared.marks.Mark.{Mark}
use Rattle.slint_lexer.specs.declared.tokens.Token.{Token}
use Rattle.slint_lexer.specs.declared.tokens.TokenKind.{TokenKind}
use Rattle.slint_lexer.specs.Lexing.{IsLexing}
use Rattle.slint_lexer.specs.Spelled.{Fits, kinds_of, written}
use Rattle.syntax_tree.specs.declared.files.File.{File}
use Rattle.syntax_tree.specs.Bare.{SameFile}
use Rattle.syntax_tree.specs.Printed.{Kinds, tokens_of_file}
use Rattle.slint_grammar.specs.Derivations.{DerivesFile}
use Rattle.slint_grammar.proofs.Edited.{Edited, stays, keeps, drops, adds, swaps, a_semicolon, a_comma}
use Rattle.slint_grammar.proofs.Again.{printed_again, printed_edited}

-- where what is read is as reading gives it, so is what is written of it
edited_fits : {s w r : Kinds} → Edited s w r → (held now : List Mark) → Fits held s now → (between : List Mark) × Fits held w between × Fits between r now
edited_fits stays held now f = (held, refl, f)
edited_fits (keeps k x) held now f = let m = edited_fits x _ now f.1 in (m.0, (f.0, m.1), m.2)
edited_fits (drops k a_semicolon x) held now f = edited_fits x held now f.1
edited_fits (drops k a_comma x) held now f = edited_fits x held now f.1
edited_fits (adds k a_semicolon x) held now f = let m = edited_fits x held now f in (m.0, (tt, m.1), m.2)
edited_fits (adds k a_comma x) held now f = let m = edited_fits x held now f in (m.0, (tt, m.1), m.2)
edited_fits (swaps a b x) held now f = let m = edited_fits x held now f.1.1 in (m.0, (f.1.0, (f.0, m.1)), m.2)

-- lexed tokens fit, and tokens that fit are written so that they are lexed again: so what is printed of a tree is read as that tree
pub printed_reads : ((file : ℕ) (bytes : List ℕ) (tokens : List Token) → IsLexing file bytes tokens → (now : List Mark) × Fits [] (kinds_of tokens) now)
    → ((file : ℕ) (ks : List TokenKind) (now : List Mark) → Fits [] ks now → (tokens : List Token) × IsLexing file (written ks) tokens × (kinds_of tokens ≡ ks))
    → (file : ℕ) (bytes : List ℕ) (tokens : List Token) (tree : File) → IsLexing file bytes tokens → DerivesFile tokens tree
    → (printed : List Token) × (again : File) × IsLexing file (written (tokens_of_file tree)) printed × DerivesFile printed again × SameFile again tree
printed_reads lexed_fit written_again file bytes tokens tree x y =
    let f = lexed_fit file bytes tokens x in
    let g = edited_fits (printed_edited tokens tree y) [] f.0 f.1 in
    let z = written_again file (tokens_of_file tree) g.0 g.1 in
    let again = printed_again tokens z.0 tree y z.2 in
    (z.0, again.0, z.1, again.1, again.2)
