use Rattle.std.proofs.Common.{◌≡◌, ◌∙◌, ◌+◌, ◌*◌, ◌≤◌, ◌<◌, sym, ap, subst, length, arith, rules}
use Rattle.std.proofs.lemmas.List.{length-map}
use Rattle.std.proofs.Math.Nat.{mul-le-mul_right}
use Rattle.sql_values.specs.declared.limit.LimitName.TheVariants as limit
use Rattle.sql_values.specs.Limits.{max_rows, max_words}
use Rattle.sql_values.specs.Stored.{row_of}
use Rattle.db_catalog.specs.Database.{table_at}
use Rattle.db_catalog.specs.Kept.{stored_table, kept_words}
use Rattle.db_catalog.specs.Refused.{RefusesExactly, past, words_in}
use Rattle.db_catalog.proofs.Refusals.{exact_next, within}
use Rattle.db_catalog.proofs.Tables.{is_kept, table_at-database_of}
use Rattle.db_catalog.proofs.Appended.{words_seen}
use Rattle.db_catalog.proofs.database.Database.check_room.Goals as goal

pub overflow_add-words_in : goal.overflow_add-words_in
overflow_add-words_in c =
    let rows : c.from.result + c.from-2.result ≤ max_rows = within limit.Rows max_rows (c.from.result + c.from-2.result) c.in_ok-check_limit.ensures in
    let few : c.from-3.result ≤ max_rows = omega (arith, rows, c.from-2.ensures, c.from-3.ensures) in
    let product : c.from-3.result * c.len-width.result ≤ max_rows * c.len-width.result = mul-le-mul_right c.len-width.result few in
    record { fits = omega (arith, product, c.words_in.ensures.bound, c.len-width.type_inv, c.deref.type_inv) }

pub returns : goal.returns
returns c =
    let there : c.args.table < length c.self.inside.tables.items = is_kept _ _ _ _ c.self.view_is c.requires in
    let here = c.index.result.now in
    let seen : table_at c.args.self.now c.args.table ≡ stored_table c.self.inside.texts here =
    ap (λ db. table_at db c.args.table) (sym c.self.view_is) ∙ table_at-database_of c.self.inside.texts c.self.inside.tables.items c.args.table here there c.index.ensures in
    let seen_again : table_at c.args.self.now c.args.table ≡ stored_table c.self.inside.texts c.index-2.result.now =
    ap (λ db. table_at db c.args.table) (sym c.self.view_is) ∙ table_at-database_of c.self.inside.texts c.self.inside.tables.items c.args.table c.index-2.result.now there c.index-2.ensures in
    let rows : length (table_at c.args.self.now c.args.table).rows + c.args.rows ≡ c.from.result + c.from-2.result =
    omega (arith, ap (λ t. length t.rows) seen, length-map here.heap.rows (row_of c.self.inside.texts here.columns.items), c.rows-present.ensures.count, c.from.ensures, c.from-2.ensures) in
    let width : length (table_at c.args.self.now c.args.table).columns ≡ c.len-width.result =
    ap (λ t. length t.columns) seen_again ∙ search rules in
    let words : words_in c.args.self.now.tables ≡ c.words_in.result =
    ap (λ db. words_in db.tables) (sym c.self.view_is) ∙ words_seen c.self.inside.texts c.self.inside.tables.items ∙ ap kept_words (sym c.deref.ensures.value) ∙ sym c.words_in.ensures.words in
    let all : words_in c.args.self.now.tables + c.args.rows * length (table_at c.args.self.now c.args.table).columns ≡ c.words_in.result + c.from-3.result * c.len-width.result =
    λ i. words i + sym c.from-3.ensures i * width i in
    exact_next (past limit.Rows max_rows (length (table_at c.args.self.now c.args.table).rows + c.args.rows)) _ c.check_limit-2.result
    (ap (past limit.Rows max_rows) rows ∙ c.in_ok-check_limit.ensures)
    (subst (λ n. RefusesExactly (past limit.Words max_words n) c.check_limit-2.result) (sym all) c.check_limit-2.ensures)
