-- The table isn't there, or the file is asked for.
use Rattle.std.proofs.Common.{◌≡◌, [], map, Some, None, refl, sym, ap, arith}
use Rattle.std.specs.Str.{bytes_eq}
use Rattle.std.proofs.lemmas.List.{length-map}
use Rattle.std.proofs.lemmas.List.Quantifiers.{position-Some}
use Rattle.sql_values.specs.Stored.{StoredTable}
use Rattle.db_catalog.specs.Database.{table_number}
use Rattle.workspace.specs.Given.{at_file}
use Rattle.workspace.specs.Load.{load_bytes}
use Rattle.workspace.specs.States.{world_of}
use Rattle.workspace.specs.World.{World}
use Rattle.workspace.proofs.workspace.Workspace.load.Goals as goal

pub returns-in_default : goal.returns-in_default
returns-in_default c = λ file.
    let world : World = world_of c.args.self.now in
    let load = c.args.load.now in
    let none : table_number world.database load.table ≡ None = cc in
    rw none c.no_table.ensures

pub returns : goal.returns
returns c =
    let world : World = world_of c.args.self.now in
    let load = c.args.load.now in
    let there : table_number world.database load.table ≡ Some c.in-Some.table = cc in
    let name : c.in_ok-clone.field-0 ≡ load.file = c.in_ok-clone.ensures.cases in
    record {
      asks = rw there refl;
      name = ap Some (sym name);
      text = rw name c.requires;
      pending = omega (arith, (position-Some (bytes_eq load.table) (map (λ (table : StoredTable). table.name) world.database.tables) c.in-Some.table [] there).0, length-map world.database.tables (λ (table : StoredTable). table.name));
      due = λ file. rw there (λ i. at_file (sym name i) (load_bytes world c.in-Some.table) file);
    }
