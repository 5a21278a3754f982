-- A script is read in exactly one way, and as many bytes as show that it is too long are read as the whole is.
use Rattle.std.proofs.Common.{◌≡◌, ◌⊎◌, inl, inr, ℕ, ◌+◌, ◌<◌, ◌≤◌, List, length, take, refl, sym, ap, subst, arith}
use Rattle.std.specs.Prelude.{Result, Ok, Err}
use Rattle.std.proofs.lemmas.Bool.{cases_lt}
use Rattle.std.proofs.lemmas.List.{take_all, length-take}
use Rattle.sql_lex.specs.declared.token.Token.{Token}
use Rattle.sql_lex.specs.declared.fault.LexFault.{LexFault}
use Rattle.sql_lex.specs.Tokens.{Tokens, IsFirstFault, IsLexing}
use Rattle.sql_lex.proofs.Lexings.{some_lexing, lexing_once}
use Rattle.sql_values.specs.Limits.{max_script_bytes}
use Rattle.sql_parse.specs.Trees.{StatementTree}
use Rattle.sql_values.specs.declared.limit.LimitName.TheVariants as limit
use Rattle.sql_parse.specs.Script.{IsParsing}
use Rattle.sql_parse.proofs.Scripts.{some_parsing, parsing_once}
use Rattle.workspace.specs.declared.refusal.Refusal.{Refusal}
use Rattle.workspace.specs.declared.refusal.Refusal.TheVariants as refusal
use Rattle.shell.specs.Serve.{IsScript}
use Rattle.shell.specs.Serve.IsScript.{too_long, no_token, no_statement, has_statements}

-- so many bytes show that a script is too long
abbrev pub enough : ℕ
enough = max_script_bytes + 1

abbrev Read : Type 0
Read = Result (List StatementTree) Refusal

-- a script within its limit is read as it is when it's read to its end
reads_long : (script other : List ℕ) (read : Read) → max_script_bytes < length script → max_script_bytes < length other → IsScript script read → IsScript other read
reads_long script other read long longer (too_long past) = too_long longer
reads_long script other read long longer (no_token within fault first) = absurd (omega arith)
reads_long script other read long longer (no_statement within tokens are place first) = absurd (omega arith)
reads_long script other read long longer (has_statements within tokens are statements all) = absurd (omega arith)

cut : (left : List ℕ) → (take enough left ≡ left) ⊎ ((max_script_bytes < length left) × (max_script_bytes < length (take enough left)))
cut left = elim (cases_lt enough (length left)) [
  | inl longer ↦ let short : enough ≤ length left = omega arith in inr (omega arith, omega (arith, length-take enough left))
  | inr within ↦ inl (take_all enough left within)
]

pub reads_whole : (left : List ℕ) (read : Read) → IsScript (take enough left) read → IsScript left read
reads_whole left read reads = elim (cut left) [
  | inl whole ↦ subst (λ (l : List ℕ). IsScript l read) whole reads
  | inr long ↦ reads_long (take enough left) left read long.1 long.0 reads
]

-- every script is read
pub some_reading : (script : List ℕ) → (read : Read) × IsScript script read
some_reading script = elim (cases_lt max_script_bytes (length script)) [
  | inl long ↦ (Err (refusal.PastLimit limit.Script enough), too_long long)
  | inr within ↦ some_lexed script within (some_lexing script)
]
  where
    some_parsed : (script : List ℕ) (tokens : List Token) → length script ≤ max_script_bytes → Tokens script tokens → ((parsing : Result (List StatementTree) ℕ) × IsParsing script tokens parsing) → (read : Read) × IsScript script read
    some_parsed script tokens within are (Ok statements, all) = (Ok statements, has_statements within tokens are statements all)
    some_parsed script tokens within are (Err place, first) = (Err (refusal.NoStatement place), no_statement within tokens are place first)

    some_lexed : (script : List ℕ) → length script ≤ max_script_bytes → ((lexing : Result (List Token) LexFault) × IsLexing script lexing) → (read : Read) × IsScript script read
    some_lexed script within (Ok tokens, are) = some_parsed script tokens within are (some_parsing script tokens)
    some_lexed script within (Err fault, first) = (Err (refusal.NoToken fault), no_token within fault first)

-- a script isn't read in two ways
same_tokens : (script : List ℕ) (some others : List Token) → Tokens script some → Tokens script others → some ≡ others
same_tokens script some others one other = let same = lexing_once script (Ok some) (Ok others) one other in cc same

not_both : (script : List ℕ) (tokens : List Token) (fault : LexFault) → Tokens script tokens → IsFirstFault script fault.place fault.kind → ⊥
not_both script tokens fault are first = let same = lexing_once script (Ok tokens) (Err fault) are first in cc same

same_parsing : (script : List ℕ) (some others : List Token) (one other : Result (List StatementTree) ℕ) → Tokens script some → Tokens script others → IsParsing script some one → IsParsing script others other → one ≡ other
same_parsing script some others one other are were first second =
    parsing_once script some one other first (subst (λ (l : List Token). IsParsing script l other) (sym (same_tokens script some others are were)) second)

pub one_reading : (script : List ℕ) (one other : Read) → IsScript script one → IsScript script other → one ≡ other
one_reading script one other (too_long a) (too_long b) = refl
one_reading script one other (too_long a) (no_token b _ _) = absurd (omega arith)
one_reading script one other (too_long a) (no_statement b _ _ _ _) = absurd (omega arith)
one_reading script one other (too_long a) (has_statements b _ _ _ _) = absurd (omega arith)
one_reading script one other (no_token a _ _) (too_long b) = absurd (omega arith)
one_reading script one other (no_token _ f a) (no_token _ g b) =
    let same = lexing_once script (Err f) (Err g) a b in let faults : f ≡ g = cc same in ap (λ (x : LexFault). Err (refusal.NoToken x)) faults
one_reading script one other (no_token _ f a) (no_statement _ ts b _ _) = absurd (not_both script ts f b a)
one_reading script one other (no_token _ f a) (has_statements _ ts b _ _) = absurd (not_both script ts f b a)
one_reading script one other (no_statement a _ _ _ _) (too_long b) = absurd (omega arith)
one_reading script one other (no_statement _ ts a _ _) (no_token _ f b) = absurd (not_both script ts f a b)
one_reading script one other (no_statement _ ts a p x) (no_statement _ us b q y) =
    let same = same_parsing script ts us (Err p) (Err q) a b x y in let places : p ≡ q = cc same in ap (λ (n : ℕ). Err (refusal.NoStatement n)) places
one_reading script one other (no_statement _ ts a p x) (has_statements _ us b all y) =
    let same = same_parsing script ts us (Err p) (Ok all) a b x y in absurd (cc same)
one_reading script one other (has_statements a _ _ _ _) (too_long b) = absurd (omega arith)
one_reading script one other (has_statements _ ts a _ _) (no_token _ f b) = absurd (not_both script ts f a b)
one_reading script one other (has_statements _ ts a all x) (no_statement _ us b q y) =
    let same = same_parsing script ts us (Ok all) (Err q) a b x y in absurd (cc same)
one_reading script one other (has_statements _ ts a all x) (has_statements _ us b others y) =
    let same = same_parsing script ts us (Ok all) (Ok others) a b x y in let equal : all ≡ others = cc same in ap Ok equal
