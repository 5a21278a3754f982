-- What has to be there in a file, and is found or not.
use Rattle.std.proofs.Common.{◌≡◌, length, Option, Some, None, Ok, Err, codes, option_map, refl, sym, ap, ◌∙◌}
use Rattle.sql_values.specs.Limits.{max_threshold}
use Rattle.serde_json.specs.Data.{Data, Members}
use Rattle.serde_json.specs.Find.{get_member}
use Rattle.query_block.specs.Blocks.{BlockTree, axes_of}
use Rattle.bouquet_file.specs.declared.fault.OpenFault.{OpenFault}
use Rattle.bouquet_file.specs.declared.values.Version.{Version}
use Rattle.sql_values.specs.Steps.{need}
use Rattle.bouquet_file.specs.Values.{unsigned, within, string_of}
use Rattle.bouquet_file.specs.Checks.{head_of, levels_in, kept_parameters}
use Rattle.bouquet_file.specs.Parts.{FileParts, counts_in, contours_in, parts_of}

-- what has to be there, and is
pub is_some : {A : Type 0} (why : OpenFault) (found : Option A) (value : A) → Ok value ≡ need why found → found ≡ Some value
is_some why (Some other) value is = cc
is_some why None value is = cc

-- so it is seen
pub is_seen : {A B : Type 0} (see : A → B) (why : OpenFault) (found : Option A) (value : A) (due : Option B)
    → Ok value ≡ need why found → option_map see found ≡ due → due ≡ Some (see value)
is_seen see why found value due is seen = sym seen ∙ ap (option_map see) (is_some why found value is)

-- what has to be there, and isn't
pub is_missing : {A B : Type 0} (see : A → B) (due why : OpenFault) (found : Option A) (seen : Option B)
    → Err why ≡ need due found → option_map see found ≡ seen → need due seen ≡ Err why
is_missing see due why (Some value) seen is same = cc
is_missing see due why None seen is same = let told : due ≡ why = cc in rw (← same) (ap Err told)

-- each of the parts is there
pub parts_there : (file : Data) (block : BlockTree) (version : Version) (inside : Members) (parts : FileParts)
    → head_of file ≡ Ok (version, inside)
    → string_of (get_member (codes "query") inside) ≡ Some parts.query
    → levels_in (axes_of block) inside ≡ Some parts.levels
    → within 0 max_threshold (unsigned (get_member (codes "threshold") inside)) ≡ Some parts.threshold
    → counts_in (length block.relations) inside ≡ Ok parts.counts
    → contours_in inside ≡ Ok parts.contours
    → kept_parameters version inside ≡ Ok parts.parameters
    → parts_of file block ≡ Ok parts
unfolding parts_of
parts_there file block version inside parts head query levels threshold counts contours parameters =
    rw (head, query, levels, threshold, counts, contours, parameters) refl
