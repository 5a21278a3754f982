-- The statements of pieces, one after another.
use Rattle.std.proofs.Common.{◌≡◌, ℕ, zero, suc, ◌+◌, ◌<◌, List, [], ◌∷◌, ◌++◌, length, take, drop, get_or, Option, Some, None, Result, Ok, Err, option_map, refl, sym, ap, subst, ◌∙◌, append_assoc, arith}
use Rattle.std.proofs.lemmas.Grind.{common_steps}
use Rattle.std.specs.List.{All}
use Rattle.std.proofs.lemmas.List.{drop-drop}
use Rattle.sql_lex.specs.declared.token.Token.{Token}
use Rattle.sql_lex.specs.Tokens.{IsToken, Tokens}
use Rattle.sql_lex.proofs.Lexings.{each_read}
use Rattle.sql_parse.specs.Lexemes.{Lexeme, lexemes}
use Rattle.sql_parse.specs.Trees.{StatementTree}
use Rattle.sql_parse.specs.Script.{split, not_empty, pieces, AreStatementsOf, AreStatements, IsFirstRefused, IsParsing, split_after}
use Rattle.sql_parse.proofs.Read.{found_is}
use Rattle.sql_parse.specs.Statements.{IsStatement, statement_of}
use Rattle.sql_parse.proofs.Statements.{statement_of-reads, statement_of-again, statements-same}

-- each token of a script is one
pub tokens-each : (script : List ℕ) (tokens : List Token) → Tokens script tokens → All (IsToken script) tokens
tokens-each script tokens read = each_read script (Ok None) 0 tokens read

-- these statements were read, and the pieces of the rest are still to come
abbrev pub AreReadSoFar : List ℕ → (tokens rest : List Token) → List StatementTree → Type 0
AreReadSoFar script tokens rest trees =
    (before : List (List Token)) × (pieces script tokens ≡ before ++ pieces script rest) × AreStatementsOf script before trees

not_empty-later : (script : List ℕ) (later : List Token) → not_empty (split_after script later) ≡ pieces script (drop 1 later)
not_empty-later script [] = refl
not_empty-later script (semicolon ∷ rest) = refl

with_piece : (script : List ℕ) (piece later : List Token) → not_empty (piece ∷ split_after script later) ≡ not_empty (piece ∷ split script (drop 1 later))
with_piece script [] later = not_empty-later script later
with_piece script (token ∷ piece) later = ap (λ all. (token ∷ piece) ∷ all) (not_empty-later script later)

pub pieces-next : (script : List ℕ) (rest : List Token) (end : ℕ) → split script rest ≡ take end rest ∷ split_after script (drop end rest)
    → pieces script rest ≡ not_empty (take end rest ∷ split script (drop (end + 1) rest))
pieces-next script rest end is =
    ap not_empty is ∙ (with_piece script (take end rest) (drop end rest) ∙ ap (λ all. not_empty (take end rest ∷ split script all)) (drop-drop 1 end rest))

pub read_so_far-empty : (script : List ℕ) (tokens rest : List Token) (end : ℕ) (trees : List StatementTree) → end ≡ 0
    → split script rest ≡ take end rest ∷ split_after script (drop end rest)
    → AreReadSoFar script tokens rest trees → AreReadSoFar script tokens (drop (end + 1) rest) trees
read_so_far-empty script tokens rest end trees none is so_far = grind (arith, common_steps, pieces-next)

AreStatementsOf-push : (script : List ℕ) (before : List (List Token)) (trees : List StatementTree) (piece : List Token) (tree : StatementTree)
    → AreStatementsOf script before trees → IsStatement (lexemes script piece) tree → AreStatementsOf script (before ++ piece ∷ []) (trees ++ tree ∷ [])
AreStatementsOf-push script [] [] piece tree all one = (one, tt)
AreStatementsOf-push script [] (other ∷ trees) piece tree all one = absurd all
AreStatementsOf-push script (other ∷ before) [] piece tree all one = absurd all
AreStatementsOf-push script (other ∷ before) (another ∷ trees) piece tree all one = (all.0, AreStatementsOf-push script before trees piece tree all.1 one)

-- the piece that a semicolon or the end of the tokens ends
front_piece : (script : List ℕ) (rest : List Token) (end : ℕ) → 0 < end → 0 < length rest → split script rest ≡ take end rest ∷ split_after script (drop end rest)
    → (first : Token) × (more : List Token) × (take end rest ≡ first ∷ more) × (first ≡ get_or rest 0 first) × (pieces script rest ≡ (first ∷ more) ∷ pieces script (drop (end + 1) rest))
front_piece script [] end some there is = absurd (omega arith)
front_piece script (first ∷ rest) zero some there is = absurd (omega arith)
front_piece script (first ∷ rest) (suc end) some there is = (first, take end rest, refl, refl, pieces-next script (first ∷ rest) (suc end) is)

pub read_so_far-next : (script : List ℕ) (tokens rest : List Token) (end : ℕ) (trees : List StatementTree) (tree : StatementTree) → 0 < end → 0 < length rest
    → split script rest ≡ take end rest ∷ split_after script (drop end rest) → statement_of (lexemes script (take end rest)) ≡ Some tree
    → AreReadSoFar script tokens rest trees → AreReadSoFar script tokens (drop (end + 1) rest) (trees ++ tree ∷ [])
read_so_far-next script tokens rest end trees tree some there is found so_far =
    let front = front_piece script rest end some there is in
    let piece = front.0 ∷ front.1 in
    let form : IsStatement (lexemes script piece) tree =
    subst (λ (all : List Token). IsStatement (lexemes script all) tree) front.2
    (found_is (IsStatement (lexemes script (take end rest))) (statement_of (lexemes script (take end rest))) tree (statement_of-reads (lexemes script (take end rest))) found) in (
      so_far.0 ++ piece ∷ [],
      so_far.1 ∙ (ap (λ all. so_far.0 ++ all) front.4 ∙ sym (append_assoc so_far.0 (piece ∷ []) (pieces script (drop (end + 1) rest)))),
      AreStatementsOf-push script so_far.0 trees piece tree so_far.2 form,
    )

no_statement : (tokens : List Lexeme) (tree : StatementTree) → statement_of tokens ≡ None → IsStatement tokens tree → ⊥
no_statement tokens tree none form = let wrong : Some tree ≡ None = sym (statement_of-again tokens tree form) ∙ none in absurd cc

first_start : (rest : List Token) (first other : Token) → 0 < length rest → first ≡ get_or rest 0 first → (get_or rest 0 other).start ≡ first.start
first_start [] first other there is = absurd (omega arith)
first_start (token ∷ rest) first other there is = ap (λ t. t.start) (sym is)

pub first_refused : (script : List ℕ) (tokens rest : List Token) (end : ℕ) (trees : List StatementTree) (other : Token) → 0 < end → 0 < length rest
    → split script rest ≡ take end rest ∷ split_after script (drop end rest) → statement_of (lexemes script (take end rest)) ≡ None
    → AreReadSoFar script tokens rest trees → IsFirstRefused script tokens (get_or rest 0 other).start
first_refused script tokens rest end trees other some there is none so_far =
    grind (arith, common_steps, front_piece, no_statement, first_start)

-- what an added statement is
pub added : (trees new : List StatementTree) (found : Option StatementTree) → option_map (λ tree. trees ++ tree ∷ []) found ≡ Some new
    → (tree : StatementTree) × (found ≡ Some tree) × (trees ++ tree ∷ [] ≡ new)
added trees new None is = absurd cc
added trees new (Some tree) is = (tree, refl, cc)

pub not_added : (trees : List StatementTree) (found : Option StatementTree) → option_map (λ tree. trees ++ tree ∷ []) found ≡ None → found ≡ None
not_added trees None is = refl
not_added trees (Some tree) is = absurd cc

-- no other statements are those of the pieces
are_statements-same : (script : List ℕ) (all : List (List Token)) (trees others : List StatementTree) → AreStatementsOf script all trees → AreStatementsOf script all others → trees ≡ others
are_statements-same script [] [] [] one other = refl
are_statements-same script [] [] (tree ∷ others) one other = absurd other
are_statements-same script [] (tree ∷ trees) others one other = absurd one
are_statements-same script (piece ∷ all) [] others one other = absurd one
are_statements-same script (piece ∷ all) (tree ∷ trees) [] one other = absurd other
are_statements-same script (piece ∷ all) (tree ∷ trees) (another ∷ others) one other =
    let first = statements-same (lexemes script piece) tree another one.0 other.0 in
    let rest = are_statements-same script all trees others one.1 other.1 in
    ap (λ t. t ∷ trees) first ∙ ap (λ ts. another ∷ ts) rest

has_statement : (script : List ℕ) (before others : List (List Token)) (piece : List Token) (trees : List StatementTree) → AreStatementsOf script (before ++ piece ∷ others) trees
    → (tree : StatementTree) × IsStatement (lexemes script piece) tree
has_statement script [] others piece [] all = absurd all
has_statement script [] others piece (tree ∷ trees) all = (tree, all.0)
has_statement script (other ∷ before) others piece [] all = absurd all
has_statement script (other ∷ before) others piece (tree ∷ trees) all = has_statement script before others piece trees all.1

never_both : (script : List ℕ) (tokens : List Token) (trees : List StatementTree) (place : ℕ) → AreStatements script tokens trees → IsFirstRefused script tokens place → ⊥
never_both script tokens trees place all first = grind (arith, common_steps, has_statement)

-- no piece is a statement
abbrev IsNone : List ℕ → List Token → Type 0
IsNone script piece = (tree : StatementTree) → IsStatement (lexemes script piece) tree → ⊥

-- only one piece is the first that is no statement
one_first : (script : List ℕ) (before others after after_others : List (List Token)) (trees more : List StatementTree) (piece another : List Token)
    → before ++ piece ∷ after ≡ others ++ another ∷ after_others → AreStatementsOf script before trees → IsNone script piece
    → AreStatementsOf script others more → IsNone script another → piece ≡ another
one_first script [] [] after after_others trees more piece another is all none rest neither = cc
one_first script [] (other ∷ others) after after_others trees [] piece another is all none rest neither = absurd rest
one_first script [] (other ∷ others) after after_others trees (tree ∷ more) piece another is all none rest neither =
    grind (arith, common_steps)
one_first script (first ∷ before) [] after after_others [] more piece another is all none rest neither = absurd all
one_first script (first ∷ before) [] after after_others (tree ∷ trees) more piece another is all none rest neither =
    grind (arith, common_steps)
one_first script (first ∷ before) (other ∷ others) after after_others [] more piece another is all none rest neither = absurd all
one_first script (first ∷ before) (other ∷ others) after after_others (tree ∷ trees) [] piece another is all none rest neither = absurd rest
one_first script (first ∷ before) (other ∷ others) after after_others (tree ∷ trees) (next ∷ more) piece another is all none rest neither =
    let same : before ++ piece ∷ after ≡ others ++ another ∷ after_others = cc in
    one_first script before others after after_others trees more piece another same all.1 none rest.1 neither

one_place : (script : List ℕ) (tokens : List Token) (place other : ℕ) → IsFirstRefused script tokens place → IsFirstRefused script tokens other → place ≡ other
one_place script tokens place other one two = grind (arith, common_steps, one_first)

-- what pieces are read as
abbrev IsParsingOf : List ℕ → List (List Token) → Result (List StatementTree) ℕ → Type 0
IsParsingOf script all (Ok trees) = AreStatementsOf script all trees
IsParsingOf script all (Err place) =
    (before after : List (List Token)) × (trees : List StatementTree) × (first : Token) × (rest : List Token)
    × (all ≡ before ++ (first ∷ rest) ∷ after) × AreStatementsOf script before trees × IsNone script (first ∷ rest) × (place ≡ first.start)

parsing-next : (script : List ℕ) (first : Token) (rest : List Token) (later : List (List Token)) (found : Option StatementTree)
    → statement_of (lexemes script (first ∷ rest)) ≡ found → (parsing : Result (List StatementTree) ℕ) → IsParsingOf script later parsing
    → (all : Result (List StatementTree) ℕ) × IsParsingOf script ((first ∷ rest) ∷ later) all
parsing-next script first rest later None none parsing is =
    (Err first.start, ([], later, [], first, rest, refl, tt, (λ tree form. no_statement (lexemes script (first ∷ rest)) tree none form), refl))
parsing-next script first rest later (Some tree) found (Ok trees) is =
    let piece = lexemes script (first ∷ rest) in
    (Ok (tree ∷ trees), (found_is (IsStatement piece) (statement_of piece) tree (statement_of-reads piece) found, is))
parsing-next script first rest later (Some tree) found (Err place) is =
    let piece = lexemes script (first ∷ rest) in
    let form = found_is (IsStatement piece) (statement_of piece) tree (statement_of-reads piece) found in
    (Err place, ((first ∷ rest) ∷ is.0, is.1, tree ∷ is.2, is.3, is.4, ap (λ all. (first ∷ rest) ∷ all) is.5, (form, is.6), is.7, is.8))

some_parsing_of : (script : List ℕ) (all : List (List Token)) → (parsing : Result (List StatementTree) ℕ) × IsParsingOf script (not_empty all) parsing
some_parsing_of script [] = (Ok [], tt)
some_parsing_of script ([] ∷ all) = some_parsing_of script all
some_parsing_of script ((first ∷ rest) ∷ all) =
    let later = some_parsing_of script all in
    parsing-next script first rest (not_empty all) (statement_of (lexemes script (first ∷ rest))) refl later.0 later.1

parsing_of : (script : List ℕ) (tokens : List Token) (parsing : Result (List StatementTree) ℕ) → IsParsingOf script (pieces script tokens) parsing
    → IsParsing script tokens parsing
parsing_of script tokens (Ok trees) is = is
parsing_of script tokens (Err place) is = is

-- the tokens of a script are read as something
pub some_parsing : (script : List ℕ) (tokens : List Token) → (parsing : Result (List StatementTree) ℕ) × IsParsing script tokens parsing
some_parsing script tokens =
    let some = some_parsing_of script (split script tokens) in
    (some.0, parsing_of script tokens some.0 some.1)

-- and as nothing else
pub parsing_once : (script : List ℕ) (tokens : List Token) (one other : Result (List StatementTree) ℕ) → IsParsing script tokens one → IsParsing script tokens other
    → one ≡ other
parsing_once script tokens (Ok trees) (Ok others) one other = ap Ok (are_statements-same script (pieces script tokens) trees others one other)
parsing_once script tokens (Ok trees) (Err place) one other = absurd (never_both script tokens trees place one other)
parsing_once script tokens (Err place) (Ok trees) one other = absurd (never_both script tokens trees place other one)
parsing_once script tokens (Err place) (Err other_place) one other = ap Err (one_place script tokens place other_place one other)
